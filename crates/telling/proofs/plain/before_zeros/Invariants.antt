use mathlib.Core.Path.{◌≡◌}
use lib.ListN.{length}
use Prim.Native.Nat.{◌≤◌}
use Rattle.telling.specs.Plain.{before_zeros}
use Rattle.telling.proofs.plain.before_zeros.Given as goal

-- `telling::plain::before_zeros` meets its contract.
abbrev pub invariant-loop-n : goal.invariant-loop-n
invariant-loop-n l = (l.n ≤ length l.s) × (before_zeros l.n l.s ≡ before_zeros (length l.s) l.s)

abbrev pub decreases-loop-n : goal.decreases-loop-n
decreases-loop-n l = l.n
