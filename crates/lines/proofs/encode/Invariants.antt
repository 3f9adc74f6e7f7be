use Prim.Native.Nat.{◌*◌, ◌≤◌}
use mathlib.Core.Path.{◌≡◌}
use lib.ListN.{length, take}
use Rattle.base.specs.Bytes.{over}
use Rattle.lines.specs.Hex.{chars_of}
use Rattle.lines.proofs.encode.Given as goal

abbrev pub invariant-loop-i : goal.invariant-loop-i
invariant-loop-i l = (length l.s * 2 ≤ length l.initial.room) × (length l.room ≡ length l.initial.room) × (l.room ≡ over (chars_of (take l.i l.s)) l.initial.room)
