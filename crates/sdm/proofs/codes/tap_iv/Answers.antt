-- `sdm::codes::tap_iv` meets its contract: the vector under the key's round keys.
use mathlib.Core.Path.{ap, ◌∙◌}
use mathlib.Core.List.{◌++◌}
use lib.ListN.{replicate}
use Rattle.base.specs.Bytes.{low}
use Rattle.aes.specs.Block.{cipher, counted, block_cost}
use Rattle.sdm.specs.Tap.{tap_iv}
use Rattle.sdm.proofs.codes.tap_iv.Goals as goal

pub returns : goal.returns
unfolding tap_iv
returns c = c.tap_vector.ensures
    ∙ ap (λ w. counted (cipher w (low 3 c.args.counter ++ replicate 13 0)) block_cost) c.expand.ensures
