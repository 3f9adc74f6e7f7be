-- What the replies hold.
use mathlib.Core.Path.{◌≡◌, sym, ap, ap₂, ◌∙◌}
use mathlib.Core.List.{List, [], ◌∷◌, ◌++◌}
use mathlib.Core.Logic.{⊎_elim}
use Prim.Native.Nat.{ℕ, ◌≤◌, min}
use native.Mathlib.Omega.{arith}
use lib.ListN.{length, take, drop, length-append, length-take, length-drop, drop_of_length-le}
use lib.Seq.{take_all}
use Rattle.std.proofs.lemmas.List.{take_min}
use Rattle.base.specs.Bytes.{low}
use Rattle.base.proofs.Bytes.{le_or_lt}
use Rattle.base.proofs.Numbers.{low-length}
use Rattle.state.specs.State.{string_at}
use Rattle.state.proofs.Strings.{string-short}
use Rattle.details.specs.Details.{settings_reply}

pub string_short : (rules lens : List ℕ) (n : ℕ) → length (string_at rules lens n) ≤ 27
string_short rules lens n = string-short rules lens n

-- a reply with the string of a file is given whole
pub settings_given : (rules lens : List ℕ) (n size : ℕ)
    → take 256 (settings_reply (string_at rules lens n) size) ≡ settings_reply (string_at rules lens n) size
unfolding settings_reply
settings_given rules lens n size =
    let h = string-short rules lens n in
    take_all 256 (settings_reply (string_at rules lens n) size) (simp (length-append, low-length, length-take, length-drop) (omega arith))

drop_min : (n : ℕ) (s : List ℕ) → drop (min (length s) n) s ≡ drop n s
drop_min n s =
    ⊎_elim (λ h. let q : min (length s) n ≡ n = omega arith in ap (λ k. drop k s) q)
    (λ h. drop_of_length-le s {i = min (length s) n} (omega arith) ∙ sym (drop_of_length-le s {i = n} (omega arith)))
    (le_or_lt n (length s))

-- the pieces put one behind the other are the reply
pub settings_pieced : (s front back text₁ text₂ text₃ : List ℕ) (size : ℕ) → length s ≤ 27 → front ≡ take (min (length s) 3) s
    → back ≡ drop (min (length s) 3) s → text₁ ≡ take 258 (take 258 (0 ∷ []) ++ front) → text₂ ≡ take 258 (text₁ ++ low 3 size)
    → text₃ ≡ take 258 (text₂ ++ back) → text₃ ≡ settings_reply s size
unfolding settings_reply
settings_pieced s front back text₁ text₂ text₃ size l f b p q r =
    let g : front ≡ take 3 s = f ∙ ap (λ k. take k s) (omega arith) ∙ take_min 3 s in
    let d : back ≡ drop 3 s = b ∙ drop_min 3 s in
    let t₁ : text₁ ≡ 0 ∷ take 3 s = p ∙ take_all 258 (0 ∷ front) (omega (arith, ap length g, length-take 3 s)) ∙ ap (λ x. 0 ∷ x) g in
    let t₂ : text₂ ≡ 0 ∷ (take 3 s ++ low 3 size) =
    q ∙ take_all 258 (text₁ ++ low 3 size) (omega (arith, length-append text₁ (low 3 size), low-length 3 size, ap length t₁, length-take 3 s))
    ∙ ap (λ x. x ++ low 3 size) t₁ in
    r ∙ take_all 258 (text₂ ++ back) (omega (
      arith,
      length-append text₂ back,
      ap length t₂,
      length-append (take 3 s) (low 3 size),
      low-length 3 size,
      length-take 3 s,
      ap length d,
      length-drop 3 s,
    ))
    ∙ ap₂ (λ x y. x ++ y) t₂ d
