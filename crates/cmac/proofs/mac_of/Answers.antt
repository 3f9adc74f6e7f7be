-- `cmac::mac_of` meets its contract: the even places, as the definition has them.
use Rattle.cmac.specs.Cmac.{even_places}
use Rattle.cmac.proofs.mac_of.Goals as goal

pub returns : goal.returns
unfolding even_places
returns c = rw c.cmac_of-c.ensures
