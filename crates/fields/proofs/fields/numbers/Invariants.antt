use Rattle.std.proofs.Common.{◌≡◌, ◌≤◌, ◌+◌, ◌*◌, ◌++◌, length, take, drop}
use Rattle.fields.specs.Fields.{fields}
use Rattle.fields.proofs.fields.numbers.Given as goal

abbrev pub invariant-loop-i : goal.invariant-loop-i
invariant-loop-i l = (l.at ≤ 6 + 3 * l.i) × (length l.read ≡ 8) × (take l.i l.read ++ fields l.s l.at (drop l.i l.fn.there) ≡ fields l.s 6 l.fn.there)
