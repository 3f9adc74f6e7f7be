use Rattle.std.proofs.Common.{◌≡◌, true, drop}
use Rattle.spans.specs.Spans.{apart_from, all_apart}
use Rattle.spans.proofs.all_apart.Given as goal

abbrev pub invariant-pairs : goal.invariant-pairs
invariant-pairs l = (l.clear ≡ true) × (all_apart (drop l.i l.fn.spans) ≡ all_apart l.fn.spans)

abbrev pub invariant-loop-b : goal.invariant-loop-b
invariant-loop-b l = (l.clear ≡ true) × (apart_from l.a (drop l.b-index l.b-items) ≡ apart_from l.a l.b-items)
