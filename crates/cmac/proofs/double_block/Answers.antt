-- `cmac::double_block` meets its contract.
use borrow.Author.Tests.{le-leb, lt-leb}
use Rattle.cmac.specs.Cmac.{doubled}
use Rattle.cmac.proofs.double_block.Goals as goal

pub returns-then-s-ge128 : goal.returns-then-s-ge128
unfolding doubled
returns-then-s-ge128 c = simp (le-leb _ _ c.if-s-ge128.true, c.xor_block.ensures, c.shift-moved.ensures)

pub returns : goal.returns
unfolding doubled
returns c = simp (lt-leb _ _ c.if-s-ge128.false, c.shift-moved.ensures)
