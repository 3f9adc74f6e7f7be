-- Which of some rights grants: the first that has the condition.
use mathlib.Core.Path.{◌≡◌, refl}
use mathlib.Core.Bool.{Bool, true, false}
use mathlib.Core.List.{List, [], ◌∷◌}
use Rattle.std.specs.Prelude.{Option, Some, None}
use Prim.Native.Nat.{ℕ}
use lib.Dec.{eqb}
use Rattle.base.specs.Decide.{pick}
use Rattle.fields.specs.declared.Head.{Head}
use Rattle.access.specs.declared.Right.{Right}
use Rattle.access.specs.declared.Grant.{Grant}
use Rattle.access.specs.Access.{condition_of, first_of, first_with}

abbrev pub by_right : (Right → Grant) → Grant → Option Right → Grant
by_right so rest None = rest
by_right so rest (Some r) = so r

pub first_is : (c : ℕ) (so : Right → Grant) (rs : List Right) (h : Head) (rest : Grant)
    → first_of c so rs h rest ≡ by_right so rest (first_with c rs h)
unfolding first_of first_with
first_is c so [] h rest = refl
first_is c so (r ∷ rs) h rest = step (eqb (condition_of r h) c) _ (first_is c so rs h rest)
  where
    step : (t : Bool) {g : Grant} (o : Option Right) → g ≡ by_right so rest o → pick t (so r) g ≡ by_right so rest (pick t (Some r) o)
    step true o e = refl
    step false o e = e
