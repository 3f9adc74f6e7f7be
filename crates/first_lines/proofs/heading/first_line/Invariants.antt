use Rattle.first_lines.specs.Begins.{line_from}
use lib.ListN.{length}
use Prim.Native.Nat.{◌+◌, ◌-◌, ◌≤◌}
use mathlib.Core.Path.{◌≡◌}
use Rattle.first_lines.proofs.heading.first_line.Given as goal

-- `first_lines::heading::first_line` meets its contract.
abbrev pub invariant-loop-at : goal.invariant-loop-at
invariant-loop-at l = (l.number ≤ l.at + 1) × (l.number ≤ length l.text + 1)
    × (line_from (length l.text + 1 - l.number) l.text l.at l.number ≡ line_from (length l.text) l.text l.initial.at 1)

abbrev pub decreases-loop-at : goal.decreases-loop-at
decreases-loop-at l = length l.text - l.at
