-- `crc::crc_byte` meets its contract: what is still to do is the whole.
use mathlib.Core.Path.{◌≡◌, refl, sym, ap, ◌∙◌}
use Prim.Native.Nat.{◌+◌, ◌-◌}
use native.Mathlib.Omega.{arith}
use Rattle.std.specs.Int.Bits.{bit_xor}
use Rattle.crc.specs.Crc.{crc_bits}
use Rattle.crc.proofs.CrcSteps.{bits_step}
use Rattle.crc.proofs.crc_byte.Goals as goal

pub loop-init : goal.loop-init
loop-init c = refl

pub loop-preserved : goal.loop-preserved
loop-preserved c =
    let l = c.loop in
    let e : 8 - (l.counter + 1) ≡ 8 - l.counter - 1 = omega arith in
    ap (λ n. crc_bits n c.crc_bit-v.result) e ∙ ap (crc_bits (8 - l.counter - 1)) c.crc_bit-v.ensures
    ∙ sym (bits_step (8 - l.counter) l.v (omega arith)) ∙ l.invariant

pub returns : goal.returns
unfolding crc_bits
returns c =
    let e : 8 - c.loop.counter ≡ 0 = omega arith in
    (rw e at c.loop.invariant) ∙ ap (λ x. crc_bits 8 (bit_xor c.args.c x)) c.from.ensures
