-- `sdm::codes::tap_vector` meets its contract: sixteen bytes, as the definition has them.
use mathlib.Core.Path.{◌≡◌, ap, ◌∙◌}
use mathlib.Core.List.{◌++◌}
use lib.ListN.{length, replicate}
use Rattle.base.proofs.Pieces.{tab_of}
use Rattle.aes.specs.Block.{cipher, counted, block_cost}
use borrow.Author.Rules.{rules}
use Rattle.sdm.proofs.codes.tap_vector.Goals as goal

pub returns : goal.returns
returns c =
    let l : length c.three-c.result ≡ 3 = search rules in
    c.encrypt.ensures
    ∙ ap (λ t. counted (cipher c.args.w.now (t ++ replicate 13 0)) block_cost) (tab_of 3 c.three-c.result l ∙ c.three-c.ensures)
