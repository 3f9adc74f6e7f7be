use Prim.Native.Nat.{◌*◌}
use mathlib.Core.Path.{◌≡◌}
use mathlib.Core.List.{◌++◌}
use lib.ListN.{length, take, drop}
use Rattle.lines.specs.Hex.{bytes_of}
use Rattle.lines.proofs.fill.Given as goal

abbrev pub invariant-loop-i : goal.invariant-loop-i
invariant-loop-i l = (length l.text ≡ length l.room * 2) × (take l.i l.room ++ bytes_of (drop (l.i * 2) l.text) ≡ bytes_of l.text)
