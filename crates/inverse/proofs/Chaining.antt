-- CBC both ways: decrypting undoes encrypting and the other way round, lengths are kept, bytes stay bytes.
use mathlib.Core.Path.{◌≡◌, refl, sym, ap, ap₂, subst, ◌∙◌}
use mathlib.Core.List.{List, [], ◌∷◌, ◌++◌}
use Prim.Native.Nat.{ℕ, zero, suc, ◌+◌, ◌-◌, ◌*◌, ◌/◌, ◌%◌, ◌≤◌, ◌<◌}
use native.Mathlib.Nat.{suc-mul}
use native.Mathlib.Omega.{arith}
use lib.Dec.{lit<}
use lib.ListN.{length, take, drop, length-append, length-take, length-drop, take-append-drop}
use lib.Seq.{take_at, drop_at}
use Rattle.base.specs.Bytes.{byte_at, AllBytes}
use Rattle.base.proofs.Bytes.{append-bytes, take-bytes, drop-bytes}
use Rattle.inverse.specs.RoundKeys.{IsKeys}
use Rattle.aes.specs.Block.{IsBlock, xor_block, cipher, inv_cipher}
use Rattle.cbc.specs.Cbc.{across, sealed, opened, cbc_out, cbc_back}
use Rattle.inverse.proofs.Steps.{xor_block_lem, xor_undone}
use Rattle.inverse.proofs.Inverse.{back_of_cipher, cipher_of_back, cipher_block, back_of_block}

abbrev Step : Type 0
Step = List ℕ → List ℕ → List ℕ

-- the block in front is a block, and what is behind it stays whole blocks
first_block : (n : ℕ) (s : List ℕ) → AllBytes s → length s ≡ suc n * 16 → IsBlock (take 16 s)
first_block n s b l = record { len = length-take 16 s ∙ (omega (arith, suc-mul n 16)); bytes = take-bytes 16 s b }

behind : (n : ℕ) (s : List ℕ) → length s ≡ suc n * 16 → length (drop 16 s) ≡ n * 16
behind n s l = length-drop 16 s ∙ omega (arith, suc-mul n 16)

-- what a step and the next vector are of blocks: blocks
record Blocks (f g : Step) : Type 0 where
  out : (v p : List ℕ) → IsBlock v → IsBlock p → IsBlock (f v p)
  next : (v p : List ℕ) → IsBlock v → IsBlock p → IsBlock (g v p)

module _ (f g : Step) (h : Blocks f g) where
  across-length : (n : ℕ) (v s : List ℕ) → IsBlock v → AllBytes s → length s ≡ n * 16 → length (across f g n v s) ≡ n * 16
  unfolding across
  across-length zero v s hv b l = refl
  across-length (suc n) v s hv b l =
      let p = first_block n s b l in
      length-append (f v (take 16 s)) (across f g n (g v (take 16 s)) (drop 16 s))
      ∙ ap₂ (λ x y. x + y) (h.out v (take 16 s) hv p).len
      (across-length n (g v (take 16 s)) (drop 16 s) (h.next v (take 16 s) hv p) (drop-bytes 16 s b) (behind n s l))
      ∙ omega (arith, suc-mul n 16)

  across-bytes : (n : ℕ) (v s : List ℕ) → IsBlock v → AllBytes s → length s ≡ n * 16 → AllBytes (across f g n v s)
  unfolding across AllBytes
  across-bytes zero v s hv b l = λ i. lit< tt
  across-bytes (suc n) v s hv b l =
      let p = first_block n s b l in
      append-bytes (f v (take 16 s)) (across f g n (g v (take 16 s)) (drop 16 s)) (h.out v (take 16 s) hv p).bytes
      (across-bytes n (g v (take 16 s)) (drop 16 s) (h.next v (take 16 s) hv p) (drop-bytes 16 s b) (behind n s l))

  -- a way back: each block comes back, with the same next vector
  module _ (f' g' : Step) (comes : (v p : List ℕ) → IsBlock v → IsBlock p → f' v (f v p) ≡ p)
      (keeps : (v p : List ℕ) → IsBlock v → IsBlock p → g' v (f v p) ≡ g v p) where
    across_undone : (n : ℕ) (v s : List ℕ) → IsBlock v → AllBytes s → length s ≡ n * 16 → across f' g' n v (across f g n v s) ≡ s
    unfolding across
    across_undone zero v [] hv b l = refl
    across_undone zero v (x ∷ s) hv b l = absurd (omega arith)
    across_undone (suc n) v s hv b l =
        let p = take 16 s in
        let hp = first_block n s b l in
        let u = g v p in
        let rest = across f g n u (drop 16 s) in
        ap₂ (λ x y. f' v x ++ across f' g' n (g' v x) y) (take_at (f v p) rest 16 (h.out v p hv hp).len) (drop_at (f v p) rest 16 (h.out v p hv hp).len)
        ∙ ap₂ (λ x y. x ++ across f' g' n y rest) (comes v p hv hp) (keeps v p hv hp)
        ∙ ap (λ x. p ++ x) (across_undone n u (drop 16 s) (h.next v p hv hp) (drop-bytes 16 s b) (behind n s l))
        ∙ take-append-drop 16 s

-- ---- the two ways
module _ (w : List (List ℕ)) (k : IsKeys w) where
  out_blocks : Blocks (sealed w) (sealed w)
  unfolding sealed
  out_blocks = record { out = λ v p hv hp. cipher_block w k (xor_block p v); next = λ v p hv hp. cipher_block w k (xor_block p v) }

  back-blocks : Blocks (opened w) (λ u c. c)
  unfolding opened
  back-blocks = record { out = λ v p hv hp. xor_block_lem (inv_cipher w p) v (back_of_block w k p) hv; next = λ v p hv hp. hp }

  opened-sealed : (v p : List ℕ) → IsBlock v → IsBlock p → opened w v (sealed w v p) ≡ p
  unfolding sealed opened
  opened-sealed v p hv hp = ap (λ x. xor_block x v) (back_of_cipher w k (xor_block p v) (xor_block_lem p v hp hv)) ∙ xor_undone p v hp

  sealed-opened : (v p : List ℕ) → IsBlock v → IsBlock p → sealed w v (opened w v p) ≡ p
  unfolding sealed opened
  sealed-opened v p hv hp = ap (cipher w) (xor_undone (inv_cipher w p) v (back_of_block w k p)) ∙ cipher_of_back w k p hp

  module _ (v s : List ℕ) (hv : IsBlock v) (b : AllBytes s) (whole : length s % 16 ≡ 0) where
    blocks : length s ≡ length s / 16 * 16
    blocks = omega arith

    pub cbc_out-length : length (cbc_out w v s) ≡ length s
    unfolding cbc_out
    cbc_out-length = across-length (sealed w) (sealed w) out_blocks (length s / 16) v s hv b blocks ∙ sym blocks

    pub cbc_back-length : length (cbc_back w v s) ≡ length s
    unfolding cbc_back
    cbc_back-length = across-length (opened w) (λ u c. c) back-blocks (length s / 16) v s hv b blocks ∙ sym blocks

    pub cbc_out-bytes : AllBytes (cbc_out w v s)
    unfolding cbc_out
    cbc_out-bytes = across-bytes (sealed w) (sealed w) out_blocks (length s / 16) v s hv b blocks

    pub cbc_back-bytes : AllBytes (cbc_back w v s)
    unfolding cbc_back
    cbc_back-bytes = across-bytes (opened w) (λ u c. c) back-blocks (length s / 16) v s hv b blocks

    pub cbc_back_of_out : cbc_back w v (cbc_out w v s) ≡ s
    unfolding cbc_out cbc_back
    cbc_back_of_out =
        ap (λ n. across (opened w) (λ u c. c) (n / 16) v (cbc_out w v s)) cbc_out-length
        ∙ across_undone (sealed w) (sealed w) out_blocks (opened w) (λ u c. c) opened-sealed (λ u p hu hp. refl) (length s / 16) v s hv b blocks

    pub cbc_out_of_back : cbc_out w v (cbc_back w v s) ≡ s
    unfolding cbc_out cbc_back
    cbc_out_of_back =
        ap (λ n. across (sealed w) (sealed w) (n / 16) v (cbc_back w v s)) cbc_back-length
        ∙ across_undone (opened w) (λ u c. c) back-blocks (sealed w) (sealed w) sealed-opened sealed-opened (length s / 16) v s hv b blocks
