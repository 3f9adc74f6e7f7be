-- Parts of a text, where the files stand, and the files with other bytes.
use mathlib.Core.Path.{◌≡◌, sym, ap, ap₂, ◌∙◌}
use mathlib.Core.Bool.{Bool, true, false}
use mathlib.Core.List.{List}
use mathlib.Core.Logic.{⊎_elim}
use Prim.Native.Nat.{ℕ, ◌+◌, ◌-◌, min, ◌≤◌}
use native.Mathlib.Omega.{arith}
use lib.Dec.{eqb}
use lib.ListN.{length, take, drop, length-take, length-drop, drop_of_length-le}
use lib.Seq.{take_all}
use Rattle.base.specs.Decide.{pick}
use Rattle.base.specs.Bytes.{laid}
use Rattle.base.proofs.Bytes.{le_or_lt, laid-not}
use Rattle.state.specs.declared.Files.{Files}
use Rattle.state.specs.State.{start_of, size_of, file_of}
use Rattle.file_parts.specs.Filing.{part_of, with_bytes}

-- ---- parts of a list
drop_min : (at : ℕ) (s : List ℕ) → drop (min at (length s)) s ≡ drop at s
drop_min at s =
    ⊎_elim (λ h. let e : min at (length s) ≡ at = omega arith in ap (λ n. drop n s) e)
    (λ h. drop_of_length-le s {i = min at (length s)} (omega arith) ∙ sym (drop_of_length-le s {i = at} (omega arith)))
    (le_or_lt at (length s))

-- a bound that the list keeps is none
take_bound : (k b : ℕ) (s : List ℕ) → length s ≤ b → take (min k b) s ≡ take k s
take_bound k b s h =
    ⊎_elim (λ f. let e : min k b ≡ k = omega arith in ap (λ n. take n s) e)
    (λ f. take_all (min k b) s (omega arith) ∙ sym (take_all k s (omega arith)))
    (le_or_lt k b)

-- the part from a start inside the text, no longer than what is behind it
rest-is : (s : List ℕ) (at a : ℕ) → a ≡ min at (length s) → take (length s - a) (drop a s) ≡ drop at s
rest-is s at a e =
    let l : length (drop a s) ≤ length s - a = omega (arith, length-drop a s) in
    take_all (length s - a) (drop a s) l ∙ ap (λ n. drop n s) e ∙ drop_min at s

pub cut_part : (s : List ℕ) (at n a m k : ℕ) → a ≡ min at (length s) → m ≡ min (length (take (length s - a) (drop a s))) n → k ≡ min m 256
    → take 258 (take k (take (length s - a) (drop a s))) ≡ part_of s at n
unfolding part_of
cut_part s at n a m k e f g =
    let r = rest-is s at a e in
    let l : m ≡ min (length (drop at s)) n = f ∙ ap (λ x. min (length x) n) r in
    let h : k ≡ min (min n 256) (length (drop at s)) = omega arith in
    let short : length (take k (take (length s - a) (drop a s))) ≤ 258 = omega (arith, length-take k (take (length s - a) (drop a s))) in
    take_all 258 (take k (take (length s - a) (drop a s))) short ∙ ap₂ (λ i x. take i x) h r
    ∙ take_bound (min n 256) (length (drop at s)) (drop at s) (omega arith)

-- what is given of a part of a text of at most 256 bytes
pub part-given : (s : List ℕ) (at n : ℕ) (p : List ℕ) → length s ≤ 256 → p ≡ part_of s at n → take 256 p ≡ take n (drop at s)
unfolding part_of
part-given s at n p h e =
    let l : length (drop at s) ≤ 256 = omega (arith, length-drop at s) in
    let short : length (take (min n 256) (drop at s)) ≤ 256 = omega (arith, length-take (min n 256) (drop at s)) in
    ap (take 256) e ∙ take_all 256 (take (min n 256) (drop at s)) short ∙ take_bound n 256 (drop at s) l

-- ---- the files
pub file-fits : (n : ℕ) → start_of n + size_of n ≤ 416
unfolding start_of size_of
file-fits n = fits (eqb n 1) (eqb n 2) (eqb n 3)
  where
    fits : (a b c : Bool) → pick a 0 (pick b 32 (pick c 288 416)) + pick a 32 (pick b 256 (pick c 128 0)) ≤ 416
    fits true b c = omega arith
    fits false true c = omega arith
    fits false false true = omega arith
    fits false false false = omega arith

size_short : (n : ℕ) → size_of n ≤ 256
unfolding size_of
size_short n = small (eqb n 1) (eqb n 2) (eqb n 3)
  where
    small : (a b c : Bool) → pick a 32 (pick b 256 (pick c 128 0)) ≤ 256
    small true b c = omega arith
    small false true c = omega arith
    small false false true = omega arith
    small false false false = omega arith

pub file-short : (f : Files) (n : ℕ) → length (file_of f n) ≤ 256
unfolding file_of
file-short f n = rw (length-take (size_of n) (drop (start_of n) f.bytes)) (omega (arith, size_short n))

pub file-there : (f : Files) (n start size : ℕ) → start ≡ start_of n → size ≡ size_of n
    → take (start + size - start) (drop start f.bytes) ≡ file_of f n
unfolding file_of
file-there f n start size e g =
    let d : start + size - start ≡ size = omega arith in
    ap₂ (λ i j. take i (drop j f.bytes)) (d ∙ g) e

-- ---- the files with other bytes
module _ (f : Files) (n at : ℕ) (p : List ℕ) where
  -- a place that no number of the code holds lies behind the last file, as the highest number does
  pub bytes-laid : (b : List ℕ) (start place : ℕ) → length f.bytes ≡ 416 → start ≡ start_of n → place ≡ min (start + at) 18446744073709551615
      → b ≡ laid p place f.bytes → record { bytes = b; rules = f.rules; lens = f.lens } ≡ with_bytes f n at p
  unfolding with_bytes
  bytes-laid b start place l e g h =
      let same_place : laid p place f.bytes ≡ laid p (start_of n + at) f.bytes =
      ⊎_elim (λ k. let q : place ≡ start_of n + at = omega arith in ap (λ i. laid p i f.bytes) q)
      (λ k. laid-not p place f.bytes (omega arith) ∙ sym (laid-not p (start_of n + at) f.bytes (omega arith)))
      (le_or_lt (start + at) 18446744073709551615) in
      ap (λ (x : List ℕ). record { bytes = x; rules = f.rules; lens = f.lens }) (h ∙ same_place)
