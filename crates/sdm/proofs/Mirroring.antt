-- UID and counter as a tap mirrors them, laid one behind the other.
use mathlib.Core.Bool.{Bool, true, false}
use mathlib.Core.Path.{◌≡◌, refl, sym, ap, ap₂, subst, ◌∙◌}
use mathlib.Core.List.{List, [], ◌++◌}
use Prim.Native.Nat.{ℕ, ◌+◌, ◌-◌, ◌≤◌}
use native.Mathlib.Omega.{arith}
use lib.ListN.{length, take, replicate}
use lib.Seq.{length-take-le, take_all, take_at}
use Rattle.base.specs.Decide.{pick}
use Rattle.base.specs.Bytes.{laid}
use Rattle.base.proofs.Bytes.{Holds, none, drop-replicate}
use Rattle.sdm.specs.Tap.{Mirrors}
use Rattle.base.proofs.Pieces.{also}

pub pick_le : (t : Bool) (n : ℕ) → pick t n 0 ≤ n
pick_le true n = omega arith
pick_le false n = omega arith

take-pick : (t : Bool) (s : List ℕ) (n : ℕ) → length s ≡ n → take (pick t n 0) s ≡ pick t s []
take-pick true s n e = take_all n s (omega arith)
take-pick false s n e = refl

pub mirrors : (uid low b₁ b : List ℕ) (names counts : Bool) (i j : ℕ) → length uid ≡ 7 → length low ≡ 3
    → i ≡ pick names 7 0 → j ≡ pick counts 3 0 → b₁ ≡ laid (take i uid) 0 (replicate 10 0) → b ≡ laid (take j low) i b₁
    → Mirrors (pick names uid [] ++ pick counts low []) b (i + j)
mirrors uid low b₁ b names counts i j l m p q e f =
    let u : i ≤ 7 = omega (arith, pick_le names 7) in
    let v : j ≤ 3 = omega (arith, pick_le counts 3) in
    let h : Holds (take i uid ++ take j low) (replicate 10 0) b (i + j) =
    also (also (none (replicate 10 0)) (take i uid) i (omega (arith, length-take-le i uid (omega arith))) (omega arith) e)
    (take j low) (i + j) (ap (λ n. i + n) (sym (length-take-le j low (omega arith)))) (omega arith) f in
    let x : take i uid ≡ pick names uid [] = ap (λ n. take n uid) p ∙ take-pick names uid 7 l in
    let y : take j low ≡ pick counts low [] = ap (λ n. take n low) q ∙ take-pick counts low 3 m in
    subst (λ o. Mirrors o b (i + j)) (ap₂ (λ a c. a ++ c) x y)
    (record {
      count = h.len;
      bytes = h.is ∙ ap (λ r. take i uid ++ take j low ++ r) (drop-replicate (length (take i uid ++ take j low)) 10 0);
      fits = omega (arith, h.len);
    })

pub mirrors_front : {p b : List ℕ} {n : ℕ} → Mirrors p b n → take n b ≡ p
mirrors_front {p} {b} {n} h =
    ap (λ x. take n x) h.bytes ∙ take_at p (replicate (10 - length p) 0) n (sym h.count)
