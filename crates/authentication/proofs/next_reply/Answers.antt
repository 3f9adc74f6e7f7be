-- `authentication::next_reply` meets its contract: as the definition has it.
use mathlib.Core.Path.{ap, ◌∙◌}
use Rattle.aes.specs.Block.{counted}
use Rattle.cbc.specs.Cbc.{cbc_cost}
use Rattle.authentication.specs.Authentication.{enciphered, next_reply}
use Rattle.authentication.proofs.next_reply.Goals as goal

pub returns : goal.returns
unfolding next_reply
returns c = c.encipher.ensures ∙ ap (λ x. counted (enciphered c.args.kx x) (cbc_cost 16)) c.turn.ensures
