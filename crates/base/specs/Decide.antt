-- Decisions: one of two answers, by a test, and tests put together.
use Rattle.std.specs.Prelude.{Bool, true, false, List, [], ◌∷◌, ℕ, eqb}

abbrev pub pick {ℓ} : {A : Type ℓ} → Bool → A → A → A
pick true a b = a
pick false a b = b

abbrev pub and : Bool → Bool → Bool
and true b = b
and false b = false

abbrev pub or : Bool → Bool → Bool
or true b = true
or false b = b

-- a number is one of a list
unfoldable pub one_of : ℕ → List ℕ → Bool
one_of n [] = false
one_of n (x ∷ xs) = or (eqb n x) (one_of n xs)
