-- `cmac::padded` meets its contract.
use mathlib.Core.Path.{ap, ◌∙◌}
use lib.ListN.{length, set}
use Rattle.cmac.proofs.Macs.{padded-laid}
use Rattle.cmac.proofs.padded.Goals as goal

pub returns : goal.returns
returns c = let s = c.args.s.now in ap (λ l. set l (length s) 128) c.put.ensures ∙ padded-laid s c.requires
