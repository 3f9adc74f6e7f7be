use mathlib.Core.Path.{◌≡◌}
use Prim.Native.Nat.{◌+◌, ◌-◌}
use Rattle.cbc.specs.Cbc.{opened}
use Rattle.cbc.proofs.Turns.{Still}
use Rattle.cbc.proofs.cbc_decrypt.Given as goal

-- `cbc::cbc_decrypt` meets its contract: each turn lays one block in its place, and is counted.
abbrev pub invariant-loop-left : goal.invariant-loop-left
invariant-loop-left l = (Still (opened l.w) (λ u c. c) l.initial.left l.initial.v l.initial.buf l.buf l.v l.at l.left) × (l.cost + l.left ≡ l.initial.left)

abbrev pub decreases-loop-left : goal.decreases-loop-left
decreases-loop-left l = l.left
