use Rattle.std.proofs.Common.{◌≡◌, ◌≤◌, ◌+◌, ◌*◌, drop}
use Rattle.fields.specs.Fields.{ends}
use Rattle.fields.proofs.fields.end_of_fields.Given as goal

abbrev pub invariant-loop-present : goal.invariant-loop-present
invariant-loop-present l = (l.at ≤ 6 + 3 * l.present-index) × (ends l.at (drop l.present-index l.fn.there) ≡ ends 6 l.fn.there)
