-- Pieces laid one behind the other into a buffer, and parts of a list.
use mathlib.Core.Path.{◌≡◌, sym, ap, subst, ◌∙◌}
use mathlib.Core.List.{List, [], ◌∷◌, ◌++◌, append-nil}
use Prim.Native.Nat.{ℕ, zero, suc, ◌+◌, ◌-◌, ◌≤◌}
use native.Mathlib.Nat.{zero-add, suc-add}
use native.Mathlib.Omega.{arith}
use lib.ListN.{length, take, drop, length-append, drop_of_length-le}
use lib.Seq.{take-nil, drop-append-add, drop-drop}
use Rattle.base.specs.Bytes.{laid, over, tab, byte_at}
use Rattle.base.proofs.Bytes.{Holds, more, tab_all}

-- one piece more, where the index behind it is known
pub also : {p old b b' : List ℕ} {i : ℕ} → Holds p old b i → (s : List ℕ) (j : ℕ) → j ≡ i + length s → j ≤ length old → b' ≡ laid s i b
    → Holds (p ++ s) old b' j
also {p} {old} {b} {b'} {i} h s j e f q =
    subst (λ k. Holds (p ++ s) old b' k) (sym e) (more h s b' (omega arith) q)

-- pieces as long as the buffer are all it holds
pub full : {p old b : List ℕ} {i : ℕ} → Holds p old b i → length old ≤ i → b ≡ p
full {p} {old} h f =
    h.is ∙ rw (drop_of_length-le old {i = length p} (omega (arith, h.len))) (append-nil p)

-- n bytes at the front of a buffer are a piece of it
pub fronted : (n : ℕ) (old : List ℕ) → n ≤ length old → Holds (take n old) old old n
fronted n old f =
    record {
      is = rw (lib.Seq.length-take-le n old f) (sym (lib.ListN.take-append-drop n old));
      len = sym (lib.Seq.length-take-le n old f);
    }

-- pieces laid over a buffer that holds others at its front, which they begin with
pub over-over : (p s old : List ℕ) → over (p ++ s) (over p old) ≡ over (p ++ s) old
over-over p s old = simp (length-append, drop-append-add, drop-drop)

-- a part from h to e
pub drop-take : (h k : ℕ) (x : List ℕ) → take k (drop h x) ≡ drop h (take (h + k) x)
drop-take zero k x = ap (λ n. take n x) (sym (zero-add k))
drop-take (suc h) k [] = take-nil k ∙ sym (ap (drop (suc h)) (take-nil (suc h + k)))
drop-take (suc h) k (x ∷ xs) = drop-take h k xs ∙ sym (ap (λ n. drop (suc h) (take n (x ∷ xs))) (suc-add h k))

pub part_of : (h e : ℕ) (x : List ℕ) → h ≤ e → take (e - h) (drop h x) ≡ drop h (take e x)
part_of h e x f =
    let q : h + (e - h) ≡ e = omega arith in
    drop-take h (e - h) x ∙ ap (λ n. drop h (take n x)) q

-- a list is the table of its numbers
pub tab_of : (n : ℕ) (x : List ℕ) → length x ≡ n → tab n (byte_at x) ≡ x
tab_of n x e = ap (λ k. tab k (byte_at x)) (sym e) ∙ tab_all x
