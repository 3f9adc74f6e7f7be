-- `aes::block::with_key` meets its contract: four sums of words.
use mathlib.Core.Path.{refl, ap, ◌∙◌}
use Rattle.aes.specs.Block.{xor_block}
use Rattle.aes.specs.ByTables.{with_key}
use Rattle.words.specs.Words.{block_of}
use Rattle.aes.proofs.Words.{sum_block}
use Rattle.aes.proofs.block.with_key.Goals as goal

pub returns : goal.returns
unfolding with_key
returns c =
    let s = c.args.s in
    (rw (← c.columns-w.ensures.0) refl, sum_block s c.columns-w.result ∙ ap (xor_block (block_of s)) c.columns-w.ensures.1)
