use mathlib.Core.Path.{ap}
use native.Mathlib.Omega.{arith}
use mathlib.Core.List.{[], ◌∷◌}
use Rattle.forms.proofs.Laying.{going_none, going_more, going_end, writes_as}
use Rattle.telling.proofs.Plainly.{dotted-step, dotted_end}
use Rattle.telling.proofs.plain.characters.Goals as goal

pub loop-c-init : goal.loop-c-init
loop-c-init c = going_none _ _

pub loop-c-preserved : goal.loop-c-preserved
loop-c-preserved c =
    going_more c.loop-c.invariant _ _ (writes_as c.append.ensures (ap (λ x. x ∷ []) c.dot.ensures))
    (dotted-step c.args.s.now c.loop-c.c-index (omega arith))

pub returns : goal.returns
returns c = going_end c.loop-c.invariant (dotted_end c.args.s.now c.loop-c.c-index (omega arith))
