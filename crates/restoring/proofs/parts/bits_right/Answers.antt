-- `restoring::parts::bits_right` meets its contract.
use mathlib.Core.Path.{◌≡◌, refl}
use mathlib.Core.Bool.{Bool, true, false}
use mathlib.Core.List.{List, [], ◌∷◌}
use Prim.Native.Nat.{ℕ, zero, suc, ◌<◌}
use native.Mathlib.Omega.{arith}
use lib.Dec.{leb}
use lib.ListN.{length}
use Rattle.std.proofs.Common.{rules, tests}
use Rattle.std.specs.Bool.{MatchBool}
use Rattle.std.specs.List.{AllWithin, HoldsAt}
use Rattle.std.proofs.lemmas.Iterator.{cases_from_all, YieldsList-from_slice}
use Rattle.base.specs.Decide.{and}
use Rattle.base.specs.Bytes.{byte_at}
use Rattle.image.specs.Answers.{bits_at, booleans}
use Rattle.restoring.proofs.parts.bits_right.Goals as goal

and_false : (a b : Bool) → false ≡ b → false ≡ and a b
and_false true b e = e
and_false false b e = refl

-- as `all` answers
bits_are : (s is : List ℕ) (r : Bool)
    → MatchBool r (AllWithin (λ i. leb (byte_at s i) 1 ≡ true) is 0 (length is)) ((k : ℕ) × (k < length is) × HoldsAt (λ i. leb (byte_at s i) 1 ≡ false) is k)
    → r ≡ bits_at s is
unfolding bits_at
bits_are s [] true h = refl
bits_are s [] false (k, l, h) = absurd (omega arith)
bits_are s (i ∷ is) true h = rw (h 0 0 (omega arith) (omega arith)) (bits_are s is true (λ k d a b. h (suc k) d (omega arith) (omega arith)))
bits_are s (i ∷ is) false (zero, l, h) = rw (h 0) refl
bits_are s (i ∷ is) false (suc k, l, h) = and_false (leb (byte_at s i) 1) _ (bits_are s is false (k, omega arith, h))

pub returns : goal.returns
returns c =
    let s = c.args.s.now in
    bits_are s booleans _
    (cases_from_all _ _ _ (λ i. leb (byte_at s i) 1 ≡ true) (λ i. leb (byte_at s i) 1 ≡ false) c.all.ensures.ran (YieldsList-from_slice booleans cc)
    (λ x q k. search (rules, tests)) (λ x q k. search (rules, tests)))
