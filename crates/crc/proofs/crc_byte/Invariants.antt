use mathlib.Core.Path.{◌≡◌}
use Prim.Native.Nat.{◌-◌}
use Rattle.crc.specs.Crc.{crc_bits}
use Rattle.crc.proofs.crc_byte.Given as goal

-- `crc::crc_byte` meets its contract: what is still to do is the whole.
abbrev pub invariant-loop : goal.invariant-loop
invariant-loop l = crc_bits (8 - l.counter) l.v ≡ crc_bits 8 l.initial.v
