use mathlib.Core.Path.{◌≡◌}
use Prim.Native.Nat.{◌≤◌}
use lib.ListN.{length, take}
use Rattle.base.proofs.Bytes.{Holds}
use Rattle.first_lines.specs.Said.{tidied}
use Rattle.first_lines.proofs.parts.tidy.Given as goal

-- `first_lines::parts::tidy` meets its contract.
abbrev pub invariant-loop-c : goal.invariant-loop-c
invariant-loop-c l = (length l.room ≡ length l.initial.room) × Holds (tidied (take l.c-index l.line)) l.initial.room l.room l.n × (l.n ≤ length l.initial.room)
