-- What is given of a room.
use mathlib.Core.Path.{◌≡◌, refl, sym, ap, ◌∙◌}
use mathlib.Core.List.{List}
use mathlib.Core.Logic.{⊎_elim}
use Prim.Native.Nat.{ℕ, min, ◌+◌, ◌≤◌}
use native.Mathlib.Omega.{arith}
use lib.ListN.{length, take, replicate, length-take}
use lib.Seq.{take_all, take-take}
use Rattle.base.specs.Bytes.{laid}
use Rattle.base.proofs.Bytes.{none, more, front, le_or_lt}
use Rattle.state.specs.declared.Tag.{Tag}
use Rattle.replies.specs.Answer.{given_for, room_given}

-- the first 256 of the first n
pub cut_given : (n : ℕ) (s : List ℕ) → take (min n 256) s ≡ take 256 (take n s)
cut_given n s =
    ⊎_elim (λ h. let e : min n 256 ≡ n = omega arith in
    ap (λ k. take k s) e ∙ sym (take_all 256 (take n s) (omega (arith, length-take n s))))
    (λ h. let e : min n 256 ≡ 256 = omega arith in ap (λ k. take k s) e ∙ sym (take-take 256 n s (omega arith)))
    (le_or_lt n 256)

-- at most 256 bytes are given whole
pub short_given : (n : ℕ) (s : List ℕ) → take 256 (take (min n 256) s) ≡ take (min n 256) s
short_given n s = take_all 256 (take (min n 256) s) (omega (arith, length-take (min n 256) s))

-- they are given whole out of a buffer
pub buffer_given : (s : List ℕ) → length s ≤ 256 → take 256 (take 258 s) ≡ s
buffer_given s h = ap (take 256) (take_all 258 s (omega arith)) ∙ take_all 256 s h

-- what is laid into an empty room, at most 256 bytes, is given whole
laid_whole : (s b : List ℕ) → length s ≤ 256 → b ≡ laid s 0 (replicate 258 0) → take (min (length s) 256) b ≡ s
laid_whole s b l e =
    let m : min (length s) 256 ≡ 0 + length s = omega arith in
    ap (λ k. take k b) m ∙ front (more (none (replicate 258 0)) s b (omega arith) e)

pub room_whole : (n : ℕ) (t : Tag) (status : ℕ) (e : List ℕ) → length e ≤ 256 → room_given n t status e ≡ given_for n t status e
unfolding room_given
room_whole n t status e l = ap (given_for n t status) (laid_whole e (laid e 0 (replicate 258 0)) l refl)
