-- Where the lines of a log begin, and where it ends.
use mathlib.Core.Path.{◌≡◌, refl, ap, ◌∙◌}
use mathlib.Core.Bool.{Bool, true, false}
use mathlib.Core.List.{List, [], ◌∷◌, ◌++◌}
use Prim.Native.Nat.{ℕ, suc, ◌-◌, ◌≤◌, ◌<◌}
use native.Mathlib.Omega.{arith}
use lib.Dec.{ltb}
use lib.ListN.{length, get_or, take}
use lib.Seq.{take-suc, length-take-le}
use borrow.Author.Tests.{lt-ltb, le-ltb}
use Rattle.base.specs.Decide.{pick, or}
use Rattle.lines.specs.Lines.{seek}
use Rattle.lines.proofs.Steps.{seek-from, seek_within}
use Rattle.talks.specs.Log.{solid, trimmed, next_line, after_three}

-- the end of a line lies behind its start, inside the text
pub end_bounds : (s : List ℕ) (i e : ℕ) → i < length s → e ≡ seek s i 10 → (i ≤ e) × (e ≤ length s)
end_bounds s i e l q =
    let a = seek-from s i 10 in
    let b = seek_within s i 10 (omega arith) in
    (omega arith, omega arith)

pub next_within : (s : List ℕ) (i : ℕ) → next_line s i ≤ length s
unfolding next_line
next_within s i = omega arith

-- not back, and on where there is a line
next_from : (s : List ℕ) (i : ℕ) → i ≤ length s → i ≤ next_line s i
unfolding next_line
next_from s i l = omega (arith, seek-from s i 10)

next_on : (s : List ℕ) (i : ℕ) → i < length s → i < next_line s i
unfolding next_line
next_on s i l = omega (arith, seek-from s i 10)

pub after_within : (s : List ℕ) (i : ℕ) → after_three s i ≤ length s
unfolding after_three
after_within s i = next_within s (next_line s (next_line s i))

pub after_on : (s : List ℕ) (i : ℕ) → i < length s → i < after_three s i
unfolding after_three
after_on s i l =
    let a = next_on s i l in
    let b = next_from s (next_line s i) (next_within s i) in
    let d = next_from s (next_line s (next_line s i)) (next_within s (next_line s i)) in
    omega arith

trimmed_within : (s : List ℕ) → trimmed s ≤ length s
unfolding trimmed
trimmed_within [] = omega arith
trimmed_within (b ∷ s) = within (or (solid b) (ltb 0 (trimmed s))) (trimmed_within s)
  where
    within : (t : Bool) {m n : ℕ} → m ≤ n → pick t (suc m) 0 ≤ suc n
    within true h = omega arith
    within false h = omega arith

-- a byte at the end: nothing more, or all up to it
or_true : (a : Bool) → or a true ≡ true
or_true true = refl
or_true false = refl

trimmed-blank : (s : List ℕ) (b : ℕ) → solid b ≡ false → trimmed (s ++ (b ∷ [])) ≡ trimmed s
unfolding trimmed
trimmed-blank [] b e = ap (λ t. pick (or t (ltb 0 0)) 1 0) e ∙ ap (λ t. pick t 1 0) (le-ltb 0 0 (omega arith))
trimmed-blank (x ∷ s) b e = ap (λ n. pick (or (solid x) (ltb 0 n)) (suc n) 0) (trimmed-blank s b e)

trimmed-solid : (s : List ℕ) (b : ℕ) → solid b ≡ true → trimmed (s ++ (b ∷ [])) ≡ suc (length s)
unfolding trimmed
trimmed-solid [] b e = ap (λ t. pick (or t (ltb 0 0)) 1 0) e
trimmed-solid (x ∷ s) b e =
    let n : ℕ = suc (length s) in
    ap (λ m. pick (or (solid x) (ltb 0 m)) (suc m) 0) (trimmed-solid s b e)
    ∙ ap (λ t. pick (or (solid x) t) (suc n) 0) (lt-ltb 0 n (omega arith))
    ∙ ap (λ t. pick t (suc n) 0) (or_true (solid x))

up_to : (s : List ℕ) (n : ℕ) → 0 < n → n ≤ length s → take n s ≡ take (n - 1) s ++ (get_or s (n - 1) 0 ∷ [])
up_to s n h k = let e : n ≡ suc (n - 1) = omega arith in ap (λ m. take m s) e ∙ take-suc s (n - 1) 0 (omega arith)

pub last-solid : (s : List ℕ) (n : ℕ) → 0 < n → n ≤ length s → solid (get_or s (n - 1) 0) ≡ true → trimmed (take n s) ≡ n
last-solid s n h k e =
    let l = length-take-le (n - 1) s (omega arith) in
    ap trimmed (up_to s n h k) ∙ trimmed-solid (take (n - 1) s) (get_or s (n - 1) 0) e ∙ omega arith

pub last-blank : (s : List ℕ) (n : ℕ) → 0 < n → n ≤ length s → solid (get_or s (n - 1) 0) ≡ false → trimmed (take n s) ≡ trimmed (take (n - 1) s)
last-blank s n h k e = ap trimmed (up_to s n h k) ∙ trimmed-blank (take (n - 1) s) (get_or s (n - 1) 0) e

pub last_none : (s : List ℕ) (n : ℕ) → n ≤ 0 → trimmed (take n s) ≡ 0
unfolding trimmed
last_none s n h = let e : n ≡ 0 = omega arith in ap (λ m. trimmed (take m s)) e

-- a place before the end has a line
pub inside : (s : List ℕ) (i e : ℕ) → e ≡ trimmed s → i < e → i < length s
inside s i e p h = omega (arith, trimmed_within s)
