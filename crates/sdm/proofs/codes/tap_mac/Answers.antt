-- `sdm::codes::tap_mac` meets its contract: as the definition has it.
use mathlib.Core.Path.{ap, ◌∙◌}
use lib.ListN.{length}
use Rattle.aes.specs.Block.{counted}
use Rattle.cmac.specs.Cmac.{cmac, even_places, mac, cmac_cost}
use Rattle.sdm.proofs.codes.tap_mac.Goals as goal

pub returns : goal.returns
unfolding mac
returns c =
    let x = c.args.text.now in
    c.mac_of.ensures ∙ ap (λ w. counted (even_places (cmac w x)) (cmac_cost (length x))) c.expand.ensures
