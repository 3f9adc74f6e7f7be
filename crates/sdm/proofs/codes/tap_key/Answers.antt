-- `sdm::codes::tap_key` meets its contract: the CMAC of sixteen bytes.
use mathlib.Core.Path.{◌≡◌, refl, ap, ap₂, ◌∙◌}
use lib.ListN.{length}
use Rattle.aes.specs.Block.{counted}
use Rattle.cmac.specs.Cmac.{cmac_cost}
use Rattle.sdm.specs.Tap.{tap_key, tap_vector}
use borrow.Author.Rules.{rules}
use Rattle.sdm.proofs.codes.tap_key.Goals as goal

pub returns : goal.returns
unfolding tap_key tap_vector
returns c =
    let v = c.vector-v.result in
    let l : length v ≡ 16 = search rules in
    c.cmac_of.ensures
    ∙ ap₂ counted (rw (c.vector-v.ensures, c.mirror_of.ensures.bytes, c.expand.ensures) refl) (ap cmac_cost l)
