use mathlib.Core.Path.{ap₂}
use native.Mathlib.Omega.{arith}
use mathlib.Core.List.{[], ◌∷◌}
use Rattle.forms.proofs.Laying.{going_none, going_more, going_end, writes_as}
use Rattle.telling.proofs.Plainly.{spaced_step, spaced_end}
use Rattle.telling.proofs.plain.spaced.Goals as goal

pub loop-b-init : goal.loop-b-init
loop-b-init c = going_none _ _

pub loop-b-preserved : goal.loop-b-preserved
loop-b-preserved c =
    going_more c.loop-b.invariant _ _
    (writes_as c.append.ensures (ap₂ (λ x y. 32 ∷ x ∷ y ∷ []) c.character.ensures c.character-in-loop-b.ensures))
    (spaced_step c.args.s.now c.loop-b.b-index (omega arith))

pub returns : goal.returns
returns c = going_end c.loop-b.invariant (spaced_end c.args.s.now c.loop-b.b-index (omega arith))
