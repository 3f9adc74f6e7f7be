use Rattle.writing.proofs.Laying.{Still}
use Rattle.writing.proofs.text.lay_fields.Given as goal

abbrev pub invariant-loop-i : goal.invariant-loop-i
invariant-loop-i l = Still l.fn.there l.fn.v l.initial.room l.i l.at l.room
