-- An array filled in a loop, one value a turn, holds the table of the values.
use mathlib.Core.Path.{◌≡◌, sym, ap, ◌∙◌}
use mathlib.Core.Logic.{⊎_elim}
use mathlib.Core.List.{List}
use Prim.Native.Nat.{ℕ, ◌+◌, ◌≤◌, ◌<◌}
use native.Mathlib.Omega.{arith}
use lib.ListN.{length, get_or, set, length-set}
use lib.Seq.{get_or-set_same, get_or-set_other, ext_get_or}
use Rattle.base.specs.Bytes.{tab}
use Rattle.base.proofs.Bytes.{le_or_lt, tab-length, tab_at}

-- r has n elements, and those below i are f's
pub record Filled {A : Type 0} (d : A) (n : ℕ) (f : ℕ → A) (r : List A) (i : ℕ) : Type 0 where
  pub long : length r ≡ n
  pub so_far : (j : ℕ) → j < i → get_or r j d ≡ f j

pub filled_none : {A : Type 0} (d : A) (n : ℕ) (f : ℕ → A) (r : List A) → length r ≡ n → Filled d n f r 0
filled_none d n f r l = record { long = l; so_far = λ j h. absurd (omega arith) }

pub filled_more : {A : Type 0} (d : A) (n : ℕ) (f : ℕ → A) (r : List A) (i : ℕ) (v : A) → Filled d n f r i → i < n → v ≡ f i
    → Filled d n f (set r i v) (i + 1)
filled_more d n f r i v h l e =
    record {
      long = length-set r i v ∙ h.long;
      so_far = λ j k. ⊎_elim (λ m. at_i j k m) (λ m. get_or-set_other r i j v d (λ q. omega arith) ∙ h.so_far j m) (le_or_lt i j);
    }
  where
    at_i : (j : ℕ) → j < i + 1 → i ≤ j → get_or (set r i v) j d ≡ f j
    at_i j k m =
        let q : j ≡ i = omega arith in
        let w : i < length r = omega (arith, h.long) in
        ap (λ x. get_or (set r i v) x d) q ∙ get_or-set_same r i v d w ∙ e ∙ ap f (sym q)

pub filled_all : {A : Type 0} (d : A) (n : ℕ) (f : ℕ → A) (r : List A) (i : ℕ) → Filled d n f r i → n ≤ i → r ≡ tab n f
filled_all d n f r i h l =
    ext_get_or d r (tab n f) (h.long ∙ sym (tab-length n f))
    (λ j k. h.so_far j (omega (arith, h.long)) ∙ sym (tab_at d n f j (omega (arith, h.long))))
