-- Mode, status, reply and next state are as before the right was named (specs/AsBefore.antt).
use mathlib.Core.Bool.{Bool, true, false, not}
use mathlib.Core.List.{List, [], ◌∷◌}
use mathlib.Core.Path.{◌≡◌, refl, ap, ap₂, ◌∙◌}
use Rattle.std.specs.Prelude.{Ok, Err}
use Prim.Native.Nat.{ℕ}
use lib.Dec.{eqb, leb, ltb}
use lib.ListN.{length}
use Rattle.base.specs.Decide.{pick, and, or}
use Rattle.base.specs.Status.{authentication_error, iso_security, length_error}
use Rattle.messaging.specs.declared.Mode.{Mode}
use Rattle.messaging.specs.declared.Mode.TheVariants.{Full}
use Rattle.messaging.specs.Protect.{Opening, plain, wrong_length, wrong_mac, wrong_padding}
use Rattle.fields.specs.declared.Head.{Head}
use Rattle.spans.specs.declared.Reading.{Reading}
use Rattle.order.specs.declared.Name.{Name}
use Rattle.order.specs.declared.Name.TheVariants.{AuthenticateFirst, AuthenticateNonFirst, PartTwo, ChangeKey, GetKeyVersion, GetCardUid}
use Rattle.order.specs.declared.Name.TheVariants.{GetFileSettings, ChangeFileSettings, GetFileCounters, ReadData, WriteData}
use Rattle.order.specs.declared.Name.TheVariants.{IsoSelectFile, IsoReadBinary, IsoUpdateBinary}
use Rattle.order.specs.declared.Command.{Command}
use Rattle.order.specs.Commands.{Ordered, ordered, data_of}
use Rattle.state.specs.declared.Live.{Live}
use Rattle.state.specs.declared.Tag.{Tag}
use Rattle.state.specs.State.{reading_in}
use Rattle.access.specs.declared.Right.{Right}
use Rattle.access.specs.declared.Right.TheVariants.{Read, Write, ReadWrite, Change, SdmCtrRet}
use Rattle.access.specs.declared.Grant.{Grant}
use Rattle.access.specs.declared.Grant.TheVariants.{ByKey, ByTap, Free, Unasked, Never, Denied}
use Rattle.access.specs.declared.Decision.{Decision}
use Rattle.access.specs.Access.{condition_of, first_of, all_never, granted, read_grant, write_grant, change_grant, counter_grant, grant_for}
use Rattle.access.specs.Access.{file_mode, under_key, mode_for, reads, decided, grant_status}
use Rattle.replies.specs.Answer.{Answer, costing, refusal}
use Rattle.contents.specs.Contents.{wrapped_part, read_data}
use Rattle.wrapped.specs.Wrapped.{own, opening_of, opening_cost_of, on_opening, wrapped}
use Rattle.binaries.specs.Binaries.{iso_part, read_binary, binary}
use Rattle.tag.specs.Way.{used_up, from_step7, on_grant, from_step6, commanded, on_order, answered}
use Rattle.as_before.specs.Before.{Was, by_key, by_tap, free, unasked, never, denied, granted_was, read_was, write_was, change_was, counter_was, grant_was}
use Rattle.as_before.specs.Before.{under_key_was, mode_was, status_was, decided_was, on_was, from_step6_was, commanded_was, on_order_was, answered_was}
use Rattle.as_before.specs.AsBefore.{how_alone, SameDecisions, SameAnswers}

-- ---- how
-- two rights, by the tests: a session, a tap; the key in each condition, E in each; all F
two_by : (a b : Right) (live tap ka kb ea eb f : Bool)
    → let none = pick f Never Denied in
    let by-e = pick ea (Free a) (pick eb (Free b) none) in
    how_alone (pick live (pick ka (ByKey a) (pick kb (ByKey b) by-e)) (pick tap ByTap by-e))
    ≡ pick (and live (or ka kb)) by_key (pick (and (pick live false true) tap) by_tap (pick (or ea eb) free (pick f never denied)))
unfolding how_alone
two_by a b true tap true kb ea eb f = refl
two_by a b true tap false true ea eb f = refl
two_by a b true tap false false true eb f = refl
two_by a b true tap false false false true f = refl
two_by a b true tap false false false false true = refl
two_by a b true tap false false false false false = refl
two_by a b false true ka kb ea eb f = refl
two_by a b false false ka kb true eb f = refl
two_by a b false false ka kb false true f = refl
two_by a b false false ka kb false false true = refl
two_by a b false false ka kb false false false = refl

-- one right, which stood for two
one_by : (a : Right) (live k e f : Bool)
    → let none = pick (and f true) Never Denied in
    let by-e = pick e (Free a) none in
    how_alone (pick live (pick k (ByKey a) by-e) (pick false ByTap by-e))
    ≡ pick (and live (or k k)) by_key (pick (and (pick live false true) false) by_tap (pick (or e e) free (pick (and f (and f true)) never denied)))
unfolding how_alone
one_by a true true e f = refl
one_by a true false true f = refl
one_by a true false false true = refl
one_by a true false false false = refl
one_by a false k true f = refl
one_by a false k false true = refl
one_by a false k false false = refl

module _ (l : Live) (h : Head) where
  two_was : (a b : Right) (file : ℕ)
      → how_alone (granted l h (a ∷ b ∷ []) file) ≡ granted_was l.on l.key (condition_of a h) (condition_of b h) file
  unfolding granted first_of all_never granted_was
  two_was a b file =
      let c = condition_of a h in
      let d = condition_of b h in
      two_by a b l.on (leb file 4) (eqb c l.key) (eqb d l.key) (eqb c 14) (eqb d 14) (and (eqb c 15) (and (eqb d 15) (eqb file 15)))

  one_was : (a : Right) → how_alone (granted l h (a ∷ []) 15) ≡ granted_was l.on l.key (condition_of a h) (condition_of a h) 15
  unfolding granted first_of all_never granted_was
  one_was a = let c = condition_of a h in one_by a l.on (eqb c l.key) (eqb c 14) (eqb c 15)

  how_read : how_alone (read_grant l h) ≡ read_was l h
  unfolding read_grant read_was condition_of
  how_read = two_was Read ReadWrite (pick h.sdm h.sdm_file_read 15)

  how-write : how_alone (write_grant l h) ≡ write_was l h
  unfolding write_grant write_was condition_of
  how-write = two_was Write ReadWrite 15

  how-change : how_alone (change_grant l h) ≡ change_was l h
  unfolding change_grant change_was condition_of
  how-change = one_was Change

  with_sdm : (sdm : Bool) (g : Grant) (w : Was) → how_alone g ≡ w → how_alone (pick sdm g Never) ≡ pick sdm w never
  unfolding how_alone
  with_sdm true g w e = e
  with_sdm false g w e = refl

  how-counter : how_alone (counter_grant l h) ≡ counter_was l h
  unfolding counter_grant counter_was condition_of
  how-counter = with_sdm h.sdm (granted l h (SdmCtrRet ∷ []) 15) _ (one_was SdmCtrRet)

  needing : (b : Bool) → how_alone (pick b Unasked Denied) ≡ pick b unasked denied
  unfolding how_alone
  needing true = refl
  needing false = refl

  how_is : (n : Name) → how_alone (grant_for n l h) ≡ grant_was n l h
  unfolding grant_for grant_was how_alone
  how_is AuthenticateFirst = refl
  how_is AuthenticateNonFirst = refl
  how_is PartTwo = refl
  how_is ChangeKey = needing (and l.on (eqb l.key 0))
  how_is GetKeyVersion = refl
  how_is GetCardUid = needing l.on
  how_is GetFileSettings = refl
  how_is ChangeFileSettings = how-change
  how_is GetFileCounters = how-counter
  how_is ReadData = how_read
  how_is WriteData = how-write
  how_is IsoSelectFile = refl
  how_is IsoReadBinary = how_read
  how_is IsoUpdateBinary = how-write

-- ---- mode and status, by how alone
key-mode : (g : Grant) (m : Mode) → under_key g m ≡ under_key_was (how_alone g) m
unfolding under_key under_key_was how_alone
key-mode (ByKey r) m = refl
key-mode ByTap m = refl
key-mode (Free r) m = refl
key-mode Unasked m = refl
key-mode Never m = refl
key-mode Denied m = refl

mode_is : (n : Name) (g : Grant) (live : Bool) (m : ℕ) → mode_for n g live m ≡ mode_was n (how_alone g) live m
unfolding mode_for mode_was
mode_is AuthenticateFirst g live m = refl
mode_is AuthenticateNonFirst g live m = refl
mode_is PartTwo g live m = refl
mode_is ChangeKey g live m = refl
mode_is GetKeyVersion g live m = refl
mode_is GetCardUid g live m = refl
mode_is GetFileSettings g live m = refl
mode_is ChangeFileSettings g live m = key-mode g Full
mode_is GetFileCounters g live m = key-mode g Full
mode_is ReadData g live m = key-mode g (file_mode m)
mode_is WriteData g live m = key-mode g (file_mode m)
mode_is IsoSelectFile g live m = refl
mode_is IsoReadBinary g live m = key-mode g (file_mode m)
mode_is IsoUpdateBinary g live m = key-mode g (file_mode m)

status_is : (class : ℕ) (g : Grant) → grant_status class g ≡ status_was class (how_alone g)
unfolding grant_status status_was how_alone
status_is class (ByKey r) = refl
status_is class ByTap = refl
status_is class (Free r) = refl
status_is class Unasked = refl
status_is class Never = refl
status_is class Denied = refl

pub same_decisions : SameDecisions
unfolding decided decided_was
same_decisions n l h =
    let e = how_is l h n in
    record {
      how = e;
      mode = mode_is n (grant_for n l h) l.on h.mode ∙ ap (λ w. mode_was n w l.on h.mode) e;
      tap = λ g. refl;
      status = λ class. status_is class (grant_for n l h) ∙ ap (status_was class) e;
    }

-- ---- no command looks at the decision's answer
module _ (t : Tag) (k : Command) (r : Reading) (x random : List ℕ) (g a : Grant) (m : Mode) (tap : Bool) where
  abbrev d : Decision
  d = record { grant = g; mode = m; tap = tap }

  abbrev e : Decision
  e = record { grant = a; mode = m; tap = tap }

  own-alike : (n : Name) (p : List ℕ) → own n t k r d p random ≡ own n t k r e p random
  unfolding own read_data wrapped_part
  own-alike AuthenticateFirst p = refl
  own-alike AuthenticateNonFirst p = refl
  own-alike PartTwo p = refl
  own-alike ChangeKey p = refl
  own-alike GetKeyVersion p = refl
  own-alike GetCardUid p = refl
  own-alike GetFileSettings p = refl
  own-alike ChangeFileSettings p = refl
  own-alike GetFileCounters p = refl
  own-alike ReadData p = refl
  own-alike WriteData p = refl
  own-alike IsoSelectFile p = refl
  own-alike IsoReadBinary p = refl
  own-alike IsoUpdateBinary p = refl

  opening-alike : (o : Opening) → on_opening t k r d random o ≡ on_opening t k r e random o
  opening-alike (plain p) = own-alike k.name p
  opening-alike wrong_length = refl
  opening-alike wrong_mac = refl
  opening-alike wrong_padding = refl

  wrapped-alike : wrapped t k r d x random ≡ wrapped t k r e x random
  unfolding wrapped
  wrapped-alike =
      let n = opening_cost_of t k x m in
      ap (λ (w : Answer). pick (ltb 255 (length x)) (refusal t length_error) (costing n w)) (opening-alike (opening_of t k x m))

  binary-alike : binary t k r d x random ≡ binary t k r e x random
  unfolding binary read_binary iso_part
  binary-alike = refl

  step7_alike : from_step7 t k r d x random ≡ from_step7 t k r e x random
  unfolding from_step7
  step7_alike =
      let full = refusal t (pick (eqb k.class 0x90) authentication_error iso_security) in
      ap₂ (λ (w b : Answer). pick (used_up t.live.on t.live.counter) full (pick (eqb k.class 0x90) w b)) wrapped-alike binary-alike

-- ---- the way
module _ (g : Grant) (t : Tag) where
  grant_alike : (k : Command) (r : Reading) (x random : List ℕ) (q : Grant) (m : Mode) (tap : Bool)
      → on_grant q t k r (record { grant = q; mode = m; tap = tap }) x random ≡ on_was (how_alone q) t k r (record { grant = g; mode = m; tap = tap }) x random
  unfolding on_grant on_was how_alone grant_status status_was
  grant_alike k r x random (ByKey w) m tap = step7_alike t k r x random (ByKey w) g m tap
  grant_alike k r x random ByTap m tap = step7_alike t k r x random ByTap g m tap
  grant_alike k r x random (Free w) m tap = step7_alike t k r x random (Free w) g m tap
  grant_alike k r x random Unasked m tap = step7_alike t k r x random Unasked g m tap
  grant_alike k r x random Never m tap = refl
  grant_alike k r x random Denied m tap = refl

  step6_alike : (k : Command) (r : Reading) (x random : List ℕ) → from_step6 t k r x random ≡ from_step6_was g t k r x random
  unfolding from_step6 from_step6_was decided decided_was
  step6_alike k r x random =
      let n = k.name in
      let h = r.settings.head in
      let q = grant_for n t.live h in
      let tap = and (reads n) (and h.sdm (not t.live.on)) in
      let by : Was → Mode → Answer = λ w m. on_was w t k r (record { grant = g; mode = m; tap = tap }) x random in
      grant_alike k r x random q (mode_for n q t.live.on h.mode) tap
      ∙ ap (by (how_alone q)) (mode_is n q t.live.on h.mode)
      ∙ ap (λ w. by w (mode_was n w t.live.on h.mode)) (how_is t.live h n)

  command-alike : (n : Name) (k : Command) (r : Reading) (x random : List ℕ) → commanded n t k r x random ≡ commanded_was g n t k r x random
  unfolding commanded commanded_was
  command-alike AuthenticateFirst k r x random = refl
  command-alike AuthenticateNonFirst k r x random = refl
  command-alike PartTwo k r x random = refl
  command-alike ChangeKey k r x random = step6_alike k r x random
  command-alike GetKeyVersion k r x random = step6_alike k r x random
  command-alike GetCardUid k r x random = step6_alike k r x random
  command-alike GetFileSettings k r x random = step6_alike k r x random
  command-alike ChangeFileSettings k r x random = step6_alike k r x random
  command-alike GetFileCounters k r x random = step6_alike k r x random
  command-alike ReadData k r x random = step6_alike k r x random
  command-alike WriteData k r x random = step6_alike k r x random
  command-alike IsoSelectFile k r x random = refl
  command-alike IsoReadBinary k r x random = step6_alike k r x random
  command-alike IsoUpdateBinary k r x random = step6_alike k r x random

  order_alike : (c random : List ℕ) (o : Ordered) → on_order t c random o ≡ on_order_was g t c random o
  order_alike c random (Ok k) = command-alike k.name k (reading_in t.files k.file) (data_of k c) random
  order_alike c random (Err s) = refl

pub same_answers : SameAnswers
unfolding answered answered_was
same_answers g t c random = order_alike g t c random (ordered c t.pending.on t.place.application t.place.file)
