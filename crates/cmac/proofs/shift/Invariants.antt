use Prim.Native.Nat.{◌+◌, ◌*◌, ◌/◌, ◌%◌}
use Rattle.base.specs.Bytes.{byte_at}
use Rattle.base.proofs.Fill.{Filled}
use Rattle.cmac.proofs.shift.Given as goal

-- `cmac::shift` meets its contract: a table filled byte by byte; behind the last byte stands nothing.
abbrev pub invariant-loop-i : goal.invariant-loop-i
invariant-loop-i l = Filled 0 16 (λ j. byte_at l.s j % 128 * 2 + byte_at l.s (j + 1) / 128) l.r l.i
