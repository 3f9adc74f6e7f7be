use mathlib.Core.Path.{◌≡◌}
use Prim.Native.Nat.{◌≤◌}
use lib.ListN.{length, take}
use Rattle.talks.specs.Log.{trimmed}
use Rattle.talks.proofs.log.last.Given as goal

-- `talks::log::last` meets its contract: back from the end to a byte of a line.
abbrev pub invariant-loop-n : goal.invariant-loop-n
invariant-loop-n l = (l.n ≤ length l.text) × (trimmed (take l.n l.text) ≡ trimmed l.text)

abbrev pub decreases-loop-n : goal.decreases-loop-n
decreases-loop-n l = l.n
