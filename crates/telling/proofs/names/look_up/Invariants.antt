use mathlib.Core.Path.{◌≡◌}
use lib.ListN.{length, drop}
use Prim.Native.Nat.{◌-◌}
use Rattle.telling.specs.Names.{row_of}
use Rattle.telling.proofs.names.look_up.Given as goal

-- `telling::names::look_up` meets its contract.
abbrev pub invariant-loop-at : goal.invariant-loop-at
invariant-loop-at l = (l.page ≡ l.initial.page) × (row_of 0 (drop l.at l.table) l.key l.other ≡ row_of 0 (drop l.initial.at l.table) l.key l.other)

abbrev pub decreases-loop-at : goal.decreases-loop-at
decreases-loop-at l = length l.table - l.at
