-- `sbox::forward` meets its contract: the constant is the table of the definitions, entry by entry.
use mathlib.Core.Path.{refl}
use Rattle.sbox.specs.Tables.{sbox}
use Rattle.sbox.proofs.forward.Goals as goal

-- `sbox::forward` meets its contract: the constant is the table of the definitions, entry by entry.
pub returns : goal.returns
unfolding sbox
returns c = refl
