-- The access decision and the way of a command as they were before request 5 of 02: how a command is granted, but not under which right. The
-- decision is word for word, but for its names; the way too, but for g, which it carries along. Modes of files, reads and step 7 have not changed.
use Rattle.std.specs.Prelude.{Bool, true, false, not, List, Ok, Err, ℕ, eqb, leb}
use Rattle.base.specs.Decide.{pick, and, or}
use Rattle.base.specs.Status.{operation_ok, permission_denied, authentication_error, iso_normal, iso_security}
use Rattle.messaging.specs.declared.Mode.{Mode}
use Rattle.messaging.specs.declared.Mode.TheVariants.{Plain, Mac, Full}
use Rattle.fields.specs.declared.Head.{Head}
use Rattle.spans.specs.declared.Reading.{Reading}
use Rattle.order.specs.declared.Name.{Name}
use Rattle.order.specs.declared.Name.TheVariants.{AuthenticateFirst, AuthenticateNonFirst, PartTwo, ChangeKey, GetKeyVersion, GetCardUid}
use Rattle.order.specs.declared.Name.TheVariants.{GetFileSettings, ChangeFileSettings, GetFileCounters, ReadData, WriteData}
use Rattle.order.specs.declared.Name.TheVariants.{IsoSelectFile, IsoReadBinary, IsoUpdateBinary}
use Rattle.order.specs.declared.Command.{Command}
use Rattle.order.specs.Commands.{Ordered, ordered, data_of}
use Rattle.state.specs.declared.Live.{Live}
use Rattle.state.specs.declared.Tag.{Tag}
use Rattle.state.specs.State.{reading_in}
use Rattle.access.specs.declared.Grant.{Grant}
use Rattle.access.specs.declared.Decision.{Decision}
use Rattle.access.specs.Access.{file_mode, reads}
use Rattle.replies.specs.Answer.{Answer, refusal}
use Rattle.auth.specs.Parts.{part_one_first, part_one_next}
use Rattle.part_two.specs.PartTwo.{part_two_answer}
use Rattle.selects.specs.Selects.{selected}
use Rattle.tag.specs.Way.{from_step7}

-- how a command was granted, or not
pub data Was : Type 0 where
  by_key : Was
  by_tap : Was
  free : Was
  unasked : Was
  never : Was
  denied : Was

-- a condition of a, b is c
abbrev pub either : ℕ → ℕ → ℕ → Bool
either a b c = or (eqb a c) (eqb b c)

-- Two rights a and b, and for a read with SDM on SDMFileRead (else F). In session a condition equal to the key grants;
-- without session SDMFileRead 0 to 4 is read with mirroring; failing that, E grants. Not granted: every condition F, or not.
unfoldable pub granted_was : Bool → ℕ → ℕ → ℕ → ℕ → Was
granted_was live key a b c =
    pick (and live (either a b key)) by_key
    (pick (and (pick live false true) (leb c 4)) by_tap
    (pick (either a b 14) free
    (pick (and (eqb a 15) (and (eqb b 15) (eqb c 15))) never denied)))

-- reads look at Read and ReadWrite, writes at Write and ReadWrite
unfoldable pub read_was : Live → Head → Was
read_was l h = granted_was l.on l.key h.read h.read_write (pick h.sdm h.sdm_file_read 15)

unfoldable pub write_was : Live → Head → Was
write_was l h = granted_was l.on l.key h.write h.read_write 15

-- ChangeFileSettings uses Change, GetFileCounters SDMCtrRet, by the same rule; counters with SDM off: 919D
unfoldable pub change_was : Live → Head → Was
change_was l h = granted_was l.on l.key h.change h.change 15

unfoldable pub counter_was : Live → Head → Was
counter_was l h = pick h.sdm (granted_was l.on l.key h.sdm_ctr_ret h.sdm_ctr_ret 15) never

-- GetFileSettings and GetKeyVersion are always granted; GetCardUID needs a session; ChangeKey needs key 0; the authentications
-- and selects have no access step
unfoldable pub grant_was : Name → Live → Head → Was
grant_was AuthenticateFirst l h = unasked
grant_was AuthenticateNonFirst l h = unasked
grant_was PartTwo l h = unasked
grant_was ChangeKey l h = pick (and l.on (eqb l.key 0)) unasked denied
grant_was GetKeyVersion l h = unasked
grant_was GetCardUid l h = pick l.on unasked denied
grant_was GetFileSettings l h = unasked
grant_was ChangeFileSettings l h = change_was l h
grant_was GetFileCounters l h = counter_was l h
grant_was ReadData l h = read_was l h
grant_was WriteData l h = write_was l h
grant_was IsoSelectFile l h = unasked
grant_was IsoReadBinary l h = read_was l h
grant_was IsoUpdateBinary l h = write_was l h

-- a key grants in the given mode, E and the tap rule in Plain
unfoldable pub under_key_was : Was → Mode → Mode
under_key_was by_key m = m
under_key_was by_tap m = Plain
under_key_was free m = Plain
under_key_was unasked m = Plain
under_key_was never m = Plain
under_key_was denied m = Plain

-- GetFileSettings and GetKeyVersion: MAC in session; GetCardUID and ChangeKey: Full; 5F and F6 are Full under a key; reads and
-- writes have the file's mode under a key
unfoldable pub mode_was : Name → Was → Bool → ℕ → Mode
mode_was AuthenticateFirst g live m = Plain
mode_was AuthenticateNonFirst g live m = Plain
mode_was PartTwo g live m = Plain
mode_was ChangeKey g live m = Full
mode_was GetKeyVersion g live m = pick live Mac Plain
mode_was GetCardUid g live m = Full
mode_was GetFileSettings g live m = pick live Mac Plain
mode_was ChangeFileSettings g live m = under_key_was g Full
mode_was GetFileCounters g live m = under_key_was g Full
mode_was ReadData g live m = under_key_was g (file_mode m)
mode_was WriteData g live m = under_key_was g (file_mode m)
mode_was IsoSelectFile g live m = Plain
mode_was IsoReadBinary g live m = under_key_was g (file_mode m)
mode_was IsoUpdateBinary g live m = under_key_was g (file_mode m)

-- 01's status of a grant: not granted 919D if all conditions concerned are F, else 91AE; of CLA 00 6982
unfoldable pub status_was : ℕ → Was → ℕ
status_was class by_key = pick (eqb class 0x90) operation_ok iso_normal
status_was class by_tap = pick (eqb class 0x90) operation_ok iso_normal
status_was class free = pick (eqb class 0x90) operation_ok iso_normal
status_was class unasked = pick (eqb class 0x90) operation_ok iso_normal
status_was class never = pick (eqb class 0x90) permission_denied iso_security
status_was class denied = pick (eqb class 0x90) authentication_error iso_security

-- mode and tap as they were; g stands where the decision's answer stands now: no command looked at it
unfoldable pub decided_was : Grant → Name → Live → Head → Decision
decided_was g n l h =
    record {
      grant = g;
      mode = mode_was n (grant_was n l h) l.on h.mode;
      tap = and (reads n) (and h.sdm (not l.on));
    }

-- step 6: access 919D, else 91AE; of CLA 00 6982
unfoldable pub on_was : Was → Tag → Command → Reading → Decision → List ℕ → List ℕ → Answer
on_was by_key t k r d x random = from_step7 t k r d x random
on_was by_tap t k r d x random = from_step7 t k r d x random
on_was free t k r d x random = from_step7 t k r d x random
on_was unasked t k r d x random = from_step7 t k r d x random
on_was never t k r d x random = refusal t (status_was k.class never)
on_was denied t k r d x random = refusal t (status_was k.class denied)

unfoldable pub from_step6_was : Grant → Tag → Command → Reading → List ℕ → List ℕ → Answer
from_step6_was g t k r x random =
    let h = r.settings.head in
    on_was (grant_was k.name t.live h) t k r (decided_was g k.name t.live h) x random

-- behind steps 1 to 5: r are the settings of the command's file, x is its data. 71, 77, AF and selects have no access step
unfoldable pub commanded_was : Grant → Name → Tag → Command → Reading → List ℕ → List ℕ → Answer
commanded_was g AuthenticateFirst t k r x random = part_one_first t x random
commanded_was g AuthenticateNonFirst t k r x random = part_one_next t x random
commanded_was g PartTwo t k r x random = part_two_answer t x random
commanded_was g ChangeKey t k r x random = from_step6_was g t k r x random
commanded_was g GetKeyVersion t k r x random = from_step6_was g t k r x random
commanded_was g GetCardUid t k r x random = from_step6_was g t k r x random
commanded_was g GetFileSettings t k r x random = from_step6_was g t k r x random
commanded_was g ChangeFileSettings t k r x random = from_step6_was g t k r x random
commanded_was g GetFileCounters t k r x random = from_step6_was g t k r x random
commanded_was g ReadData t k r x random = from_step6_was g t k r x random
commanded_was g WriteData t k r x random = from_step6_was g t k r x random
commanded_was g IsoSelectFile t k r x random = selected t k.p1 k.p2 x
commanded_was g IsoReadBinary t k r x random = from_step6_was g t k r x random
commanded_was g IsoUpdateBinary t k r x random = from_step6_was g t k r x random

-- steps 1 to 5 refuse it, or it goes on
abbrev pub on_order_was : Grant → Tag → List ℕ → List ℕ → Ordered → Answer
on_order_was g t c random (Ok k) = commanded_was g k.name t k (reading_in t.files k.file) (data_of k c) random
on_order_was g t c random (Err s) = refusal t s

-- what a tag answers to a command
unfoldable pub answered_was : Grant → Tag → List ℕ → List ℕ → Answer
answered_was g t c random = on_order_was g t c random (ordered c t.pending.on t.place.application t.place.file)
