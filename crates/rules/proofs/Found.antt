-- The number of the first rule that does not hold.
use mathlib.Core.Path.{◌≡◌, refl}
use mathlib.Core.Bool.{Bool, true, false}
use mathlib.Core.List.{List, [], ◌∷◌}
use Prim.Native.Nat.{ℕ}
use Rattle.std.specs.Prelude.{Result, Err}
use Rattle.base.specs.Decide.{pick}
use Rattle.rules.specs.declared.findings.Broken.{Broken}
use Rattle.rules.specs.Rules.{Rule, found}
use Rattle.rules.specs.Numbers.{broken_number, finding_number, first_number}

picked_number : (b : Bool) (f : Result (Unit {0}) Broken) (e : Broken) {n : ℕ} → finding_number f ≡ n
    → finding_number (pick b f (Err e)) ≡ pick b n (broken_number e)
unfolding finding_number
picked_number true f e h = h
picked_number false f e h = refl

pub found_number : (rs : List Rule) → finding_number (found rs) ≡ first_number rs
unfolding found first_number finding_number
found_number [] = refl
found_number (e ∷ es) = picked_number e.holds (found es) e.otherwise (found_number es)
