-- A settings string beside its normal form: what normalising leaves and answers.
use mathlib.Core.Path.{◌≡◌, refl}
use mathlib.Core.Bool.{Bool, true, false}
use mathlib.Core.List.{List}
use Prim.Native.Nat.{ℕ, ◌≤◌}
use lib.Dec.{leb}
use lib.ListN.{length}
use borrow.Author.Tests.{leb-true}
use Rattle.std.specs.Prelude.{Result, Ok, Err}
use Rattle.base.specs.Decide.{pick}
use Rattle.base.specs.Bytes.{over}
use Rattle.settings.specs.Answers.{Verdict}
use Rattle.normalising.specs.declared.NotNormal.{NotNormal}
use Rattle.normalising.specs.declared.NotNormal.TheVariants.{RoomTooSmall}
use Rattle.normalising.specs.Answers.{normalised, normal_room}
use Rattle.fields.specs.Normal.{normal}

-- what an accepted string leaves: k bytes in the room, and they are its normal form
pub record Laid (v : Verdict) (s room new : List ℕ) (k : ℕ) : Type 0 where
  pub fine : v ≡ Ok tt
  pub fits : length s ≤ length room
  pub len : k ≡ length s
  pub is : new ≡ over (normal s) room

laid_by : (t : Bool) (s room new : List ℕ) (k : ℕ) → leb (length s) (length room) ≡ t
    → pick {A = Result ℕ NotNormal} t (Ok (length s)) (Err RoomTooSmall) ≡ Ok k → new ≡ pick t (over (normal s) room) room → Laid (Ok tt) s room new k
laid_by true s room new k f e n = record { fine = refl; fits = leb-true (length s) (length room) f; len = cc; is = n }
laid_by false s room new k f e n = cc

pub laid-normal : (v : Verdict) (s room new : List ℕ) (k : ℕ) → normalised v s room ≡ Ok k → new ≡ normal_room v s room
    → Laid v s room new k
unfolding normalised normal_room
laid-normal (Ok tt) s room new k e n = laid_by (leb (length s) (length room)) s room new k refl e n
laid-normal (Err x) s room new k e n = cc
