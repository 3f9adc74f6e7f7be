-- `talks::play_all` is safe and ends: each turn passes a line, and no more exchanges are counted than bytes passed.
use Rattle.std.proofs.Common.{◌-◌, ◌≤◌, length}
use Rattle.talks.proofs.play_all.Given as goal

abbrev pub invariant-loop-at : goal.invariant-loop-at
invariant-loop-at g l = (l.number ≤ l.at) × (l.differ ≤ l.number) × (l.at ≤ length l.text)

abbrev pub decreases-loop-at : goal.decreases-loop-at
decreases-loop-at g l = length l.text - l.at
