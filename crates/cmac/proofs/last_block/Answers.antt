-- `cmac::last_block` meets its contract.
use mathlib.Core.Path.{◌≡◌, refl, ap₂, ◌∙◌}
use native.Mathlib.Omega.{arith}
use borrow.Author.Tests.{eq-eqb, ne_eqb}
use lib.ListN.{length}
use lib.Seq.{take_all}
use Rattle.aes.specs.Block.{counted}
use Rattle.cbc.proofs.Turns.{block_inside}
use Rattle.cmac.specs.Cmac.{subkey1, subkey2, last_block}
use borrow.Author.Rules.{rules}
use borrow.Author.Rules.{rules}
use Rattle.cmac.proofs.last_block.Goals as goal

pub returns-then-s-eq16 : goal.returns-then-s-eq16
unfolding last_block subkey1
returns-then-s-eq16 c =
    let s = c.args.s.now in
    let h : length s ≡ 16 = c.if-s-eq16.true in
    let w = c.encrypt_with-zero.ensures in
    ap₂ counted (c.xor_block.ensures ∙ rw (
      c.load.ensures,
      block_inside s 0 (omega arith),
      c.double_block-k1.ensures,
      w.standard (search rules),
      take_all 16 s (omega arith),
      eq-eqb (length s) 16 h,
    ) refl) w.cost

pub returns : goal.returns
unfolding last_block subkey1 subkey2
returns c =
    let s = c.args.s.now in
    let w = c.encrypt_with-zero.ensures in
    ap₂ counted (c.xor_block-2.ensures ∙ rw (
      c.padded.ensures,
      c.double_block.ensures,
      c.double_block-k1.ensures,
      w.standard (search rules),
      ne_eqb (length s) 16 c.if-s-eq16.false,
    ) refl) w.cost
