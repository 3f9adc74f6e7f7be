-- `rehearse::walk::steps` meets its contract: what is left of the plan makes of this tag and tally what the whole makes of the first ones.
use Rattle.std.proofs.Common.{◌-◌, ◌≤◌, length, drop}
use Rattle.rehearse.specs.Counts.{Walked}
use Rattle.rehearse.specs.declared.walk.Rehearsal.{Rehearsal}
use Rattle.rehearse.proofs.walk.steps.Given as goal

abbrev pub invariant-loop-at : goal.invariant-loop-at
invariant-loop-at g l = (l.initial.line ≤ l.line) × (l.line - l.initial.line ≤ l.at) × (l.line ≤ l.at)
    × ((r : Rehearsal) → Walked (length l.text - (l.line - l.initial.line)) l.line (drop l.at l.text) l.t l.n r
    → Walked (length l.text) l.initial.line (drop l.initial.at l.text) l.initial.t l.initial.n r)

abbrev pub decreases-loop-at : goal.decreases-loop-at
decreases-loop-at g l = length l.text - l.at
