-- A string beside itself with bytes set.
use mathlib.Core.Path.{◌≡◌, refl, ap}
use mathlib.Core.Bool.{Bool, true, false}
use mathlib.Core.List.{List, [], ◌∷◌}
use Prim.Native.Nat.{ℕ, zero, suc}
use lib.Dec.{eqb, leb, leb-zero, leb-suc-zero, leb-suc-suc}
use lib.ListN.{length, set}
use borrow.Author.Tests.{eq-eqb}
use Rattle.base.specs.Decide.{and, or}
use Rattle.base.specs.Bytes.{byte_at, same}
use Rattle.base.proofs.Bytes.{same_refl}

and_true : (t : Bool) → and t true ≡ t
and_true true = refl
and_true false = refl

-- one byte set: nothing changes behind the end, nor with the value that stands there
pub same_set : (s : List ℕ) (i v : ℕ) → same s (set s i v) ≡ or (leb (length s) i) (eqb (byte_at s i) v)
unfolding same
same_set [] i v = rw (leb-zero i) refl
same_set (x ∷ xs) zero v = rw (same_refl xs, leb-suc-zero (length xs)) (and_true (eqb x v))
same_set (x ∷ xs) (suc i) v = rw (eq-eqb x x refl, leb-suc-suc (length xs) i) (same_set xs i v)

-- the two bytes that the normal form sets
pub same_sets : (s : List ℕ) (a b : ℕ)
    → same s (set (set s 0 a) 4 b) ≡ and (or (leb (length s) 0) (eqb (byte_at s 0) a)) (or (leb (length s) 4) (eqb (byte_at s 4) b))
unfolding same
same_sets [] a b = refl
same_sets (x ∷ xs) a b = rw (leb-suc-zero (length xs), leb-suc-suc (length xs) 3) (ap (λ t. and (eqb x a) t) (same_set xs 3 b))
