-- The bytes that a MAC covers, laid piece by piece at the front of a buffer.
use Rattle.std.proofs.Common.{◌≡◌, refl, ap, ◌∙◌, ◌++◌, ℕ, min, ◌+◌, ◌-◌, ◌≤◌, List, length, take, drop}
use Rattle.std.proofs.lemmas.List.{take_at, length-append, length-drop, take_min, length-take-le}
use Rattle.std.proofs.lemmas.Slice.{take-put_mid}
use borrow.Rule.Slice.PartMut.{put_mid}
use native.Mathlib.Omega.{arith}

pub three_laid : (p t d room : List ℕ) → length p ≡ 3 → length t ≡ 4 → 7 + length d ≤ length room
    → take (7 + length d) (put_mid 7 (7 + length d - 7) (put_mid 3 4 (p ++ drop 3 room) t) d) ≡ p ++ t ++ d
three_laid p t d room e f g =
    let x = p ++ drop 3 room in
    let y = put_mid 3 4 x t in
    let l : length x ≡ length room = simp (length-append, length-drop) (omega arith) in
    let y7 : take 7 y ≡ take 3 x ++ t = take-put_mid 3 4 x t 7 (omega arith) (omega arith) in
    let k : 7 ≤ length y = simp (length-append, length-drop, length-take-le 3 x (omega arith)) (omega arith) in
    take-put_mid 7 (7 + length d - 7) y d (7 + length d) refl k ∙ ap (λ s. s ++ d) (y7 ∙ ap (λ s. s ++ t) (take_at p (drop 3 room) 3 e))

pub at_most : (n : ℕ) (s : List ℕ) (m : ℕ) → m ≡ min (length s) n → take m s ≡ take n s
at_most n s m e =
    let f : m ≡ min n (length s) = omega arith in
    rw f (take_min n s)
