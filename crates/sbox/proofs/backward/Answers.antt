-- `sbox::backward` meets its contract: the constant is the table of the definitions, entry by entry.
use mathlib.Core.Path.{refl}
use Rattle.sbox.specs.Tables.{inv_sbox}
use Rattle.sbox.proofs.backward.Goals as goal

-- `sbox::backward` meets its contract: the constant is the table of the definitions, entry by entry.
pub returns : goal.returns
unfolding inv_sbox
returns c = refl
