-- What the command's own answer costs at most: two blocks where it came with data, the MAC of a reply without any; else 33.
use mathlib.Core.Bool.{false}
use mathlib.Core.List.{List}
use Rattle.std.specs.Prelude.{Ok, Err}
use Prim.Native.Nat.{ℕ, ◌≤◌}
use native.Mathlib.Omega.{arith}
use native.Mathlib.Nat.{le_trans}
use lib.Dec.{eqb}
use lib.ListN.{length}
use Rattle.messaging.specs.declared.Mode.{Mode}
use Rattle.settings.specs.Answers.{Verdict, judged}
use Rattle.spans.specs.declared.Reading.{Reading}
use Rattle.spans.specs.Spans.{SpansFit}
use Rattle.order.specs.declared.Command.{Command}
use Rattle.order.specs.declared.Name.{Name}
use Rattle.order.specs.declared.Name.TheVariants.{AuthenticateFirst, AuthenticateNonFirst, PartTwo, ChangeKey, GetKeyVersion, GetCardUid}
use Rattle.order.specs.declared.Name.TheVariants.{GetFileSettings, ChangeFileSettings, GetFileCounters, ReadData, WriteData}
use Rattle.order.specs.declared.Name.TheVariants.{IsoSelectFile, IsoReadBinary, IsoUpdateBinary}
use Rattle.access.specs.declared.Decision.{Decision}
use Rattle.state.specs.declared.Tag.{Tag}
use Rattle.state.specs.State.{key_in, size_of}
use Rattle.replies.specs.Answer.{refusal}
use Rattle.replies.proofs.Costs.{accepted_few, accepted-empty, either_few}
use Rattle.keyring.specs.Keyring.{new_key, change_status, changed_key, key_version}
use Rattle.details.specs.Details.{card_uid, file_settings, file_counters}
use Rattle.change_settings.specs.ChangeSettings.{by_verdict, changed_settings}
use Rattle.file_parts.specs.Filing.{stored}
use Rattle.contents.specs.Contents.{range_status, asked, wrapped_part, read_data, write_status, written_data}
use Rattle.taps.proofs.Giving.{tap_read_few}
use Rattle.wrapped.specs.Wrapped.{own}

pub changed-key_few : (t : Tag) (k : ℕ) (p : List ℕ) → (changed_key t k p).cost ≤ 2
unfolding changed_key refusal
changed-key_few t k p =
    either_few (eqb (change_status p k (new_key p (key_in t.secrets.keys k) k)) 0) _ _ 2 (either_few (eqb k 0) _ _ 2 (omega arith) (accepted-empty _ _)) (omega arith)

verdict_few : (t : Tag) (n : ℕ) (r : Reading) (p : List ℕ) (m : Mode) (v : Verdict) → (by_verdict t n r p m v).cost ≤ 2
unfolding refusal
verdict_few t n r p m (Ok _) = accepted-empty _ m
verdict_few t n r p m (Err e) = omega arith

pub changed_settings_few : (t : Tag) (n : ℕ) (r : Reading) (p : List ℕ) (m : Mode) → (changed_settings t n r p m).cost ≤ 2
unfolding changed_settings
changed_settings_few t n r p m = verdict_few t n r p m (judged n p)

pub written_few : (t : Tag) (k : Command) (p : List ℕ) (m : Mode) → (written_data t k p m).cost ≤ 2
unfolding written_data refusal
written_few t k p m =
    either_few (eqb (write_status k.offset k.count (length p) (size_of k.file)) 0) _ _ 2 (accepted-empty _ m) (omega arith)

-- ReadData that is no tap
pub read_few : (t : Tag) (k : Command) (r : Reading) (d : Decision) (random : List ℕ) → SpansFit r → (read_data t k r d random).cost ≤ 33
unfolding read_data wrapped_part stored refusal
read_few t k r d random w =
    let n = asked k.offset k.count (size_of k.file) in
    either_few (eqb (range_status k.offset k.count (size_of k.file)) 0) _ _ 33
    (either_few d.tap _ _ 33 (le_trans (tap_read_few t r false k.offset n random w) (omega arith)) (accepted_few t d.mode _)) (omega arith)

pub own_few : (n : Name) (t : Tag) (k : Command) (r : Reading) (d : Decision) (p random : List ℕ) → SpansFit r → (own n t k r d p random).cost ≤ 33
unfolding own refusal key_version card_uid file_settings file_counters
own_few ChangeKey t k r d p random w = le_trans (changed-key_few t _ p) (omega arith)
own_few GetKeyVersion t k r d p random w = accepted_few t d.mode _
own_few GetCardUid t k r d p random w = accepted_few t _ _
own_few GetFileSettings t k r d p random w = accepted_few t d.mode _
own_few ChangeFileSettings t k r d p random w = le_trans (changed_settings_few t _ r p d.mode) (omega arith)
own_few GetFileCounters t k r d p random w = accepted_few t d.mode _
own_few ReadData t k r d p random w = read_few t k r d random w
own_few WriteData t k r d p random w = le_trans (written_few t k p d.mode) (omega arith)
own_few AuthenticateFirst t k r d p random w = omega arith
own_few AuthenticateNonFirst t k r d p random w = omega arith
own_few PartTwo t k r d p random w = omega arith
own_few IsoSelectFile t k r d p random w = omega arith
own_few IsoReadBinary t k r d p random w = omega arith
own_few IsoUpdateBinary t k r d p random w = omega arith
