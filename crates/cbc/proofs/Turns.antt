-- A buffer that is worked through block by block: what is done and what is still to do make the whole.
use mathlib.Core.Path.{◌≡◌, refl, sym, ap, ap₂, ◌∙◌}
use mathlib.Core.List.{List, ◌++◌, append_assoc, append-nil}
use Prim.Native.Nat.{ℕ, zero, suc, ◌+◌, ◌-◌, ◌*◌, ◌%◌, ◌≤◌, ◌<◌}
use native.Mathlib.Omega.{arith}
use borrow.Author.Tests.{eq-eqb, le-leb}
use lib.ListN.{length, take, drop}
use lib.Seq.{take_all, drop-drop, take-paste, drop-paste}
use Rattle.base.specs.Bytes.{laid}
use Rattle.base.proofs.Bytes.{laid-fits, laid-length}
use Rattle.std.specs.Prelude.{Result, Ok}
use Rattle.cbc.specs.Cbc.{across, block_at, cbc_cost, chained_cost, Chains}
use Rattle.cbc.specs.declared.Ragged.{Ragged}

-- a block inside the slice
pub block_inside : (s : List ℕ) (at : ℕ) → at + 16 ≤ length s → block_at s at ≡ take 16 (drop at s)
unfolding block_at
block_inside s at h = rw (le-leb (at + 16) (length s) h) refl

pub record Still (f g : List ℕ → List ℕ → List ℕ) (n₀ : ℕ) (v₀ old : List ℕ) (buf v : List ℕ) (at left : ℕ) : Type 0 where
  pub ends : at + left * 16 ≡ length buf
  pub same : length buf ≡ length old
  pub rest : take at buf ++ across f g left v (drop at buf) ≡ across f g n₀ v₀ old

module _ (f g : List ℕ → List ℕ → List ℕ) (n₀ : ℕ) (v₀ old : List ℕ) where
  pub still_start : n₀ * 16 ≡ length old → Still f g n₀ v₀ old old v₀ 0 n₀
  still_start e = record { ends = omega arith; same = refl; rest = refl }

  -- one block is laid in its place
  pub still_turn : (buf v b : List ℕ) (at left : ℕ) → Still f g n₀ v₀ old buf v at left → 0 < left → b ≡ f v (take 16 (drop at buf)) → length b ≡ 16
      → Still f g n₀ v₀ old (laid b at buf) (g v (take 16 (drop at buf))) (at + 16) (left - 1)
  unfolding across
  still_turn buf v b at zero h p e l = absurd (omega arith)
  still_turn buf v b at (suc n) h p e l =
      let k : n ≡ suc n - 1 = omega arith in
      let fits : at + length b ≤ length buf = omega (arith, h.ends) in
      let le : at ≤ length buf = omega (arith, h.ends) in
      let lay : laid b at buf ≡ lib.Seq.paste buf at b 16 = laid-fits b at buf fits ∙ ap (λ m. lib.Seq.paste buf at b m) l in
      let front : take (at + 16) (laid b at buf) ≡ take at buf ++ f v (take 16 (drop at buf)) =
      ap (take (at + 16)) lay ∙ take-paste buf at b 16 le (omega arith) ∙ ap (λ x. take at buf ++ x) (take_all 16 b (omega arith) ∙ e)
      in
      let back : drop (at + 16) (laid b at buf) ≡ drop 16 (drop at buf) =
      ap (drop (at + 16)) lay ∙ drop-paste buf at b 16 le (omega arith) ∙ sym (drop-drop 16 at buf)
      in
      record {
        ends = omega (arith, h.ends, laid-length b at buf);
        same = laid-length b at buf ∙ h.same;
        rest =
            ap₂ (λ x y. x ++ across f g (suc n - 1) (g v (take 16 (drop at buf))) y) front back
            ∙ ap (λ m. take at buf ++ f v (take 16 (drop at buf)) ++ across f g m (g v (take 16 (drop at buf))) (drop 16 (drop at buf))) (sym k)
            ∙ append_assoc (take at buf) (f v (take 16 (drop at buf))) (across f g n (g v (take 16 (drop at buf))) (drop 16 (drop at buf)))
            ∙ h.rest;
      }

  -- the same, with the buffer and the vector as a turn leaves them
  pub still_told : (buf v b buf' v' : List ℕ) (at left at' left' : ℕ) → Still f g n₀ v₀ old buf v at left → 0 < left → b ≡ f v (take 16 (drop at buf))
      → length b ≡ 16 → buf' ≡ laid b at buf → v' ≡ g v (take 16 (drop at buf)) → at' ≡ at + 16 → left' ≡ left - 1 → Still f g n₀ v₀ old buf' v' at' left'
  still_told buf v b buf' v' at left at' left' h p e l eb ev ea el = rw (eb, ev, ea, el) (still_turn buf v b at left h p e l)

  pub still_end : (buf v : List ℕ) (at left : ℕ) → Still f g n₀ v₀ old buf v at left → left ≤ 0 → buf ≡ across f g n₀ v₀ old
  unfolding across
  still_end buf v at zero h p = sym (append-nil (take at buf) ∙ take_all at buf (omega (arith, h.ends))) ∙ h.rest
  still_end buf v at (suc n) h p = absurd (omega arith)

-- whole blocks are chained
pub chains_whole : {f : List ℕ → List ℕ} {old new : List ℕ} {r : Result ℕ Ragged} → Chains f old r new → length old % 16 ≡ 0 → new ≡ f old
chains_whole {old = old} h e = simp (eq-eqb (length old % 16) 0 e) at h.left

-- and each block is counted
pub chains_cost : {f : List ℕ → List ℕ} {old new : List ℕ} {r : Result ℕ Ragged} → Chains f old r new → length old % 16 ≡ 0 → chained_cost r ≡ cbc_cost (length old)
chains_cost {old = old} h e = simp (eq-eqb (length old % 16) 0 e) at h.cost

-- which is the answer
pub chains_ok : {f : List ℕ → List ℕ} {old new : List ℕ} {r : Result ℕ Ragged} → Chains f old r new → length old % 16 ≡ 0 → r ≡ Ok (cbc_cost (length old))
chains_ok {old = old} h e = simp (eq-eqb (length old % 16) 0 e) at h.told
