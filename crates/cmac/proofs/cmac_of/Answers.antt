-- `cmac::cmac_of` meets its contract: the CMAC of what is left stays the CMAC of the whole, and so does the number of its blocks.
use mathlib.Core.Path.{◌≡◌, refl, sym, ap, ap₂, ◌∙◌}
use Prim.Native.Nat.{◌+◌, ◌-◌, ◌*◌, ◌/◌, ◌≤◌}
use native.Mathlib.Omega.{arith}
use borrow.Author.Rules.{rules}
use lib.ListN.{length, take, drop, length-drop}
use lib.Seq.{drop-drop, take_all}
use Rattle.aes.specs.Block.{cipher, xor_block, counted}
use Rattle.cbc.proofs.Turns.{block_inside}
use Rattle.cmac.specs.Cmac.{last_block, blocks_of, cmac_cost}
use Rattle.cmac.proofs.Macs.{from_more, from_last, from_start, blocks-turn, blocks_one}
use Rattle.cmac.proofs.cmac_of.Goals as goal

pub loop-i-init : goal.loop-i-init
loop-i-init c =
    let z : length c.args.s.now - 0 ≡ length c.args.s.now = omega arith in
    record { mac = refl; cost = refl; blocks = omega (arith, ap blocks_of z) }

pub loop-i-preserved : goal.loop-i-preserved
loop-i-preserved c =
    let l = c.loop-i in
    let a = c.args in
    let s = a.s.now in
    let at = l.i * 16 in
    let g = c.encrypt_with-c.ensures in
    let few : at + 16 + 1 ≤ length s = omega (arith, c.loop-i-test.true, c.saturating_sub-front.ensures) in
    let e : c.encrypt_with-c.result.bytes ≡ cipher a.w.now (xor_block (take 16 (drop at s)) l.v) = g.standard (search rules)
    ∙ rw (c.xor_block.ensures, c.load.ensures, block_inside s at (omega arith)) refl in
    let b = blocks-turn (length s - at) (omega arith) in
    let k : length s - at - 16 ≡ length s - (l.i + 1) * 16 = omega arith in
    let n : at + 16 ≡ (l.i + 1) * 16 = omega arith in
    record {
      mac =
          rw (e, ← n, ← drop-drop 16 at s)
          (sym (from_more a.w.now l.v (drop at s) (simp length-drop (omega arith))) ∙ l.invariant.mac);
      cost = omega (arith, l.invariant.cost, g.cost);
      blocks = omega (arith, l.invariant.blocks, b, ap blocks_of k);
    }

pub returns : goal.returns
unfolding cmac_cost
returns c =
    let l = c.loop-i in
    let a = c.args in
    let s = a.s.now in
    let at = l.i * 16 in
    let g = c.encrypt_with-end.ensures in
    let h = c.last_block-last.ensures in
    let n : c.saturating_sub-front.result / 16 * 16 ≡ at = omega (arith, c.loop-i-test.false, l.auto.i-end) in
    let few : length s - at ≤ 16 = omega (arith, n, c.saturating_sub-front.ensures) in
    ap₂ counted
    (g.standard (search rules) ∙ rw (c.xor_block-2.ensures, h, n)
    (ap (λ l'. cipher a.w.now (xor_block (last_block a.w.now l') l.v)) (take_all (length s - at) (drop at s) (simp length-drop (omega arith)))
    ∙ sym (from_last a.w.now l.v (drop at s) (simp length-drop few)) ∙ l.invariant.mac ∙ sym (from_start a.w.now s)))
    (omega (arith, l.invariant.cost, l.invariant.blocks, blocks_one (length s - at) few, g.cost, ap (λ x. x.cost) h))
