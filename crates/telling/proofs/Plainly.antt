-- One step of each walk over bytes.
use mathlib.Core.Path.{◌≡◌, refl, sym, ap, ◌∙◌}
use mathlib.Core.List.{List, [], ◌∷◌, ◌++◌}
use Prim.Native.Nat.{ℕ, zero, suc, ◌+◌, ◌-◌, ◌/◌, ◌%◌, ◌≤◌, ◌<◌}
use native.Mathlib.Numerals.{add-one}
use native.Mathlib.Omega.{arith}
use lib.ListN.{length, get_or, drop, drop_of_length-le}
use lib.Seq.{drop-cons}
use borrow.Author.Tests.{eq-eqb, ne_eqb}
use Rattle.base.specs.Bytes.{byte_at}
use Rattle.lines.specs.Hex.{char_of}
use Rattle.telling.specs.Plain.{spaced_of, dotted_of, dotted, before_zeros}

pub spaced_step : (s : List ℕ) (i : ℕ) → i < length s
    → spaced_of (drop i s) ≡ (32 ∷ char_of (get_or s i 0 / 16 % 16) ∷ char_of (get_or s i 0 % 16) ∷ []) ++ spaced_of (drop (i + 1) s)
unfolding spaced_of
spaced_step s i h = rw (add-one i, drop-cons s i 0 h) refl

pub spaced_end : (s : List ℕ) (i : ℕ) → length s ≤ i → spaced_of (drop i s) ≡ []
unfolding spaced_of
spaced_end s i h = rw (drop_of_length-le s {i = i} h) refl

pub dotted-step : (s : List ℕ) (i : ℕ) → i < length s → dotted (drop i s) ≡ (dotted_of (get_or s i 0) ∷ []) ++ dotted (drop (i + 1) s)
unfolding dotted
dotted-step s i h = rw (add-one i, drop-cons s i 0 h) refl

pub dotted_end : (s : List ℕ) (i : ℕ) → length s ≤ i → dotted (drop i s) ≡ []
unfolding dotted
dotted_end s i h = rw (drop_of_length-le s {i = i} h) refl

-- a zero at the end, and another byte
pub zeros-step : (n : ℕ) (s : List ℕ) → 0 < n → byte_at s (n - 1) ≡ 0 → before_zeros n s ≡ before_zeros (n - 1) s
unfolding before_zeros
zeros-step zero s h e = absurd (omega arith)
zeros-step (suc n) s h e =
    let q : suc n - 1 ≡ n = omega arith in
    let w : before_zeros (suc n) s ≡ before_zeros n s = rw (eq-eqb (byte_at s n) 0 (ap (λ m. byte_at s m) (sym q) ∙ e)) refl in
    w ∙ ap (λ m. before_zeros m s) (sym q)

pub zeros-here : (n : ℕ) (s : List ℕ) → 0 < n → (byte_at s (n - 1) ≡ 0 → ⊥) → before_zeros n s ≡ n
unfolding before_zeros
zeros-here zero s h e = absurd (omega arith)
zeros-here (suc n) s h e =
    let q : suc n - 1 ≡ n = omega arith in
    rw (ne_eqb (byte_at s n) 0 (λ z. e (ap (λ m. byte_at s m) q ∙ z))) refl

pub zeros_none : (n : ℕ) (s : List ℕ) → n ≤ 0 → before_zeros n s ≡ n
unfolding before_zeros
zeros_none zero s h = refl
zeros_none (suc n) s h = absurd (omega arith)
