-- 01: ChangeFileSettings (10.7.1).
use Rattle.std.specs.Prelude.{Bool, not, List, [], ◌∷◌, ◌++◌, ℕ, ◌-◌, ◌*◌, length, replicate, Ok, Err}
use Rattle.base.specs.Decide.{pick, and}
use Rattle.base.specs.Bytes.{laid}
use Rattle.messaging.specs.declared.Mode.{Mode}
use Rattle.base.specs.Status.{length_error}
use Rattle.normalising.specs.declared.NotNormal.{NotNormal}
use Rattle.normalising.specs.declared.NotNormal.TheVariants.{Fault, RoomTooSmall}
use Rattle.settings.specs.Answers.{Verdict, judged, fault_word}
use Rattle.fields.specs.Fields.{sdm_on}
use Rattle.fields.specs.Normal.{normal}
use Rattle.spans.specs.declared.Reading.{Reading}
use Rattle.state.specs.declared.Files.{Files}
use Rattle.state.specs.declared.Tag.{Tag}
use Rattle.state.specs.declared.Tapping.{Tapping}
use Rattle.state.specs.State.{slot_of, tapped, filed}
use Rattle.replies.specs.Answer.{Answer, refusal, accepted}

-- the files with another settings string of file n, zeros behind it
unfoldable pub with_rules : Files → ℕ → List ℕ → ℕ → Files
with_rules f n text len =
    record { bytes = f.bytes; rules = laid text (slot_of n * 27) f.rules; lens = laid (len ∷ []) (slot_of n) f.lens }

-- Turning SDM on from off sets the tap counter to 0
unfoldable pub recounted : Tapping → Bool → Bool → Tapping
recounted t before after =
    record { on = t.on; iso = t.iso; counter = pick (and after (not before)) 0 t.counter; padding = t.padding }

-- the tag with other files, where SDM of the file was on before and is on after
unfoldable pub restrung : Tag → Bool → Bool → Files → Tag
restrung t before after f = filed (tapped t (recounted t.tap before after)) f

-- the status of a string that has no normal form; no good string is too long for 27 bytes
abbrev pub refusal_word : NotNormal → ℕ
refusal_word (Fault e) = fault_word e
refusal_word RoomTooSmall = length_error

-- the tag stores the normal form; r are the file's settings before
abbrev pub by_verdict : Tag → ℕ → Reading → List ℕ → Mode → Verdict → Answer
by_verdict t n r p m (Ok _) =
    accepted (restrung t r.settings.head.sdm (sdm_on p) (with_rules t.files n (normal p ++ replicate (27 - length p) 0) (length p))) m []
by_verdict t n r p m (Err e) = refusal t (fault_word e)

unfoldable pub changed_settings : Tag → ℕ → Reading → List ℕ → Mode → Answer
changed_settings t n r p m = by_verdict t n r p m (judged n p)
