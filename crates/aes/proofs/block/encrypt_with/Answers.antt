-- `aes::block::encrypt_with` meets its contract: each turn is one round of the definition.
use mathlib.Core.Path.{◌≡◌}
use Prim.Native.Nat.{◌-◌}
use native.Mathlib.Omega.{arith}
use Rattle.aes.proofs.Rounds.{forth_none, forth_more, enciphers}
use Rattle.aes.proofs.block.encrypt_with.Goals as goal

pub loop-i-init : goal.loop-i-init
loop-i-init c = forth_none _ _ _

pub loop-i-preserved : goal.loop-i-preserved
loop-i-preserved c =
    let l = c.loop-i in
    forth_more _ _ _ l.x _ l.i _ (omega arith) (omega arith) l.invariant c.round-next.ensures

pub returns : goal.returns
returns c =
    let e : c.loop-i.i - 1 ≡ 9 = omega arith in
    enciphers _ _ _ _ _ c.loop-i.x _ _ _ (c.loop-i.i - 1) e c.columns.ensures c.with_key-x.ensures c.loop-i.invariant c.sub_shift.ensures
    c.with_key.ensures c.bytes_of.ensures
