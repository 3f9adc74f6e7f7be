use lib.ListN.{drop}
use Rattle.forms.proofs.Laying.{Going}
use Rattle.telling.specs.Plain.{spaced_of}
use Rattle.telling.proofs.plain.spaced.Given as goal

abbrev pub invariant-loop-b : goal.invariant-loop-b
invariant-loop-b l = Going (spaced_of l.s) l.initial.page l.page (spaced_of (drop l.b-index l.s))
