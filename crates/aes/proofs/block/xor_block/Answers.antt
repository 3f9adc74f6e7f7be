-- `aes::block::xor_block` meets its contract: a table filled byte by byte.
use mathlib.Core.Path.{refl}
use native.Mathlib.Omega.{arith}
use Rattle.base.proofs.Fill.{filled_none, filled_more, filled_all}
use Rattle.aes.specs.Block.{xor_block}
use Rattle.aes.proofs.block.xor_block.Goals as goal

pub loop-i-init : goal.loop-i-init
loop-i-init c = filled_none 0 16 _ _ refl

pub loop-i-preserved : goal.loop-i-preserved
loop-i-preserved c = filled_more 0 16 _ _ _ _ c.loop-i.invariant c.loop-i-test.true refl

pub returns : goal.returns
unfolding xor_block
returns c = filled_all 0 16 _ _ _ c.loop-i.invariant (omega arith)
