use Rattle.std.proofs.Common.{◌≡◌, ◌-◌}
use Rattle.padding.specs.Padding.{mark, unpad}
use Rattle.padding.proofs.unpad.Given as goal

-- What is still to look at decides.
abbrev pub invariant-loop-i : goal.invariant-loop-i
invariant-loop-i l = unpad l.s ≡ mark (l.i - l.i-start) l.s l.i
