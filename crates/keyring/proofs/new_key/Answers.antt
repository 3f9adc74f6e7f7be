-- `keyring::new_key` meets its contract: a table filled byte by byte.
use mathlib.Core.Path.{◌≡◌, refl, ap, ◌∙◌}
use native.Mathlib.Omega.{arith}
use lib.Dec.{eqb}
use lib.Bits.{bit_xor}
use Rattle.base.specs.Decide.{pick}
use Rattle.base.specs.Bytes.{byte_at}
use Rattle.base.proofs.Fill.{filled_none, filled_more, filled_all}
use Rattle.keyring.specs.Keyring.{new_key}
use Rattle.keyring.proofs.new_key.Goals as goal

pub loop-i-init : goal.loop-i-init
loop-i-init c = filled_none 0 16 _ _ refl

pub loop-i-preserved : goal.loop-i-preserved
loop-i-preserved c =
    let a = c.args in
    let e : c.key_byte.result ≡ _ = c.key_byte.ensures ∙ ap (λ x. pick (eqb a.k 0) x (bit_xor x (byte_at a.old c.loop-i.i))) c.at.ensures in
    filled_more 0 16 _ _ _ _ c.loop-i.invariant (omega arith) e

pub returns : goal.returns
unfolding new_key
returns c = filled_all 0 16 _ _ _ c.loop-i.invariant (omega arith)
