use lib.ListN.{drop}
use Rattle.forms.proofs.Laying.{Going}
use Rattle.telling.specs.Plain.{dotted}
use Rattle.telling.proofs.plain.characters.Given as goal

abbrev pub invariant-loop-c : goal.invariant-loop-c
invariant-loop-c l = Going (dotted l.s) l.initial.page l.page (dotted (drop l.c-index l.s))
