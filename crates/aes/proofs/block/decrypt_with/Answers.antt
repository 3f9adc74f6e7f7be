-- `aes::block::decrypt_with` meets its contract: each turn is one round back of the definition.
use mathlib.Core.Path.{◌≡◌}
use Prim.Native.Nat.{◌-◌}
use native.Mathlib.Omega.{arith}
use Rattle.aes.proofs.Rounds.{back_start, back-turn, deciphers}
use Rattle.aes.proofs.block.decrypt_with.Goals as goal

pub loop-i-init : goal.loop-i-init
loop-i-init c = back_start _ _ _ _

pub loop-i-preserved : goal.loop-i-preserved
loop-i-preserved c =
    let l = c.loop-i in
    back-turn _ _ _ _ l.x _ (l.i - 1) (omega arith) l.invariant c.round_back-next.ensures

pub returns : goal.returns
returns c =
    let n : 0 ≡ c.loop-i.i - 1 = omega arith in
    deciphers _ _ _ _ _ _ c.loop-i.x _ _ _ (c.loop-i.i - 1) n c.columns.ensures c.with_key-x.ensures c.loop-i.invariant
    c.shift_sub.ensures c.with_key.ensures c.bytes_of.ensures
