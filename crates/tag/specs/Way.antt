-- 01, "Order of checks": the way of a command, from its bytes to its answer; and what a journal notes of it (02, request 5).
use Rattle.std.specs.Prelude.{Bool, List, Option, Some, None, Ok, Err, ℕ, eqb}
use Rattle.base.specs.Decide.{pick, and}
use Rattle.base.specs.Status.{authentication_error, iso_security}
use Rattle.spans.specs.declared.Reading.{Reading}
use Rattle.order.specs.declared.Name.{Name}
use Rattle.order.specs.declared.Name.TheVariants.{AuthenticateFirst, AuthenticateNonFirst, PartTwo, ChangeKey, GetKeyVersion, GetCardUid}
use Rattle.order.specs.declared.Name.TheVariants.{GetFileSettings, ChangeFileSettings, GetFileCounters, ReadData, WriteData}
use Rattle.order.specs.declared.Name.TheVariants.{IsoSelectFile, IsoReadBinary, IsoUpdateBinary}
use Rattle.order.specs.declared.Command.{Command}
use Rattle.order.specs.Commands.{Ordered, ordered, data_of}
use Rattle.access.specs.declared.Grant.{Grant}
use Rattle.access.specs.declared.Grant.TheVariants.{ByKey, ByTap, Free, Unasked, Never, Denied}
use Rattle.access.specs.declared.Decision.{Decision}
use Rattle.access.specs.Access.{decided, grant_status}
use Rattle.state.specs.declared.Tag.{Tag}
use Rattle.state.specs.State.{reading_in}
use Rattle.replies.specs.Answer.{Answer, refusal}
use Rattle.auth.specs.Parts.{part_one_first, part_one_next}
use Rattle.part_two.specs.PartTwo.{part_two_answer}
use Rattle.selects.specs.Selects.{selected}
use Rattle.wrapped.specs.Wrapped.{wrapped}
use Rattle.binaries.specs.Binaries.{binary}

-- in session with CmdCtr 65,535
abbrev pub used_up : Bool → ℕ → Bool
used_up on counter = and on (eqb counter 65535)

-- step 7: in session with CmdCtr 65,535 91AE, of CLA 00 6982; then the command itself, by its class
unfoldable pub from_step7 : Tag → Command → Reading → Decision → List ℕ → List ℕ → Answer
from_step7 t k r d x random =
    pick (used_up t.live.on t.live.counter) (refusal t (pick (eqb k.class 0x90) authentication_error iso_security))
    (pick (eqb k.class 0x90) (wrapped t k r d x random) (binary t k r d x random))

-- step 6: access 919D, else 91AE; of CLA 00 6982
unfoldable pub on_grant : Grant → Tag → Command → Reading → Decision → List ℕ → List ℕ → Answer
on_grant (ByKey w) t k r d x random = from_step7 t k r d x random
on_grant ByTap t k r d x random = from_step7 t k r d x random
on_grant (Free w) t k r d x random = from_step7 t k r d x random
on_grant Unasked t k r d x random = from_step7 t k r d x random
on_grant Never t k r d x random = refusal t (grant_status k.class Never)
on_grant Denied t k r d x random = refusal t (grant_status k.class Denied)

unfoldable pub from_step6 : Tag → Command → Reading → List ℕ → List ℕ → Answer
from_step6 t k r x random =
    let d = decided k.name t.live r.settings.head in
    on_grant d.grant t k r d x random

-- behind steps 1 to 5: r are the settings of the command's file, x is its data. 71, 77, AF and selects have no access step
unfoldable pub commanded : Name → Tag → Command → Reading → List ℕ → List ℕ → Answer
commanded AuthenticateFirst t k r x random = part_one_first t x random
commanded AuthenticateNonFirst t k r x random = part_one_next t x random
commanded PartTwo t k r x random = part_two_answer t x random
commanded ChangeKey t k r x random = from_step6 t k r x random
commanded GetKeyVersion t k r x random = from_step6 t k r x random
commanded GetCardUid t k r x random = from_step6 t k r x random
commanded GetFileSettings t k r x random = from_step6 t k r x random
commanded ChangeFileSettings t k r x random = from_step6 t k r x random
commanded GetFileCounters t k r x random = from_step6 t k r x random
commanded ReadData t k r x random = from_step6 t k r x random
commanded WriteData t k r x random = from_step6 t k r x random
commanded IsoSelectFile t k r x random = selected t k.p1 k.p2 x
commanded IsoReadBinary t k r x random = from_step6 t k r x random
commanded IsoUpdateBinary t k r x random = from_step6 t k r x random

-- steps 1 to 5 refuse it, or it goes on
abbrev pub on_order : Tag → List ℕ → List ℕ → Ordered → Answer
on_order t c random (Ok k) = commanded k.name t k (reading_in t.files k.file) (data_of k c) random
on_order t c random (Err s) = refusal t s

-- what a tag answers to a command
unfoldable pub answered : Tag → List ℕ → List ℕ → Answer
answered t c random = on_order t c random (ordered c t.pending.on t.place.application t.place.file)

-- ---- the journal
-- refused by steps 1 to 5, it never got to the decision; behind them it notes what the decision answers, whatever refuses later. 71, 77, AF and
-- selects, without an access step, are under none of the rights
abbrev pub noted_on : Tag → Ordered → Option Grant
noted_on t (Ok k) = Some (decided k.name t.live (reading_in t.files k.file).settings.head).grant
noted_on t (Err s) = None

unfoldable pub noted : Tag → List ℕ → Option Grant
noted t c = noted_on t (ordered c t.pending.on t.place.application t.place.file)
