-- `rehearse::walk::taken` meets its contract.
use mathlib.Core.Path.{sym, subst}
use Rattle.forms.proofs.Laying.{tells}
use Rattle.turns.specs.declared.Turn.{Turn}
use Rattle.turns.specs.Steps.{Stepped}
use Rattle.turns.proofs.Taking.{stepped_line}
use Rattle.rehearse.proofs.walk.taken.Goals as goal

pub slice_bounds-room-end : goal.slice_bounds-room-end
slice_bounds-room-end g c = (tells c.take_turn-a.ensures.text).2.0

pub slice_bounds-write_all-end : goal.slice_bounds-write_all-end
slice_bounds-write_all-end g c = (tells c.take_turn-a.ensures.text).2.1

pub returns : goal.returns
returns g c =
    let a = c.args in subst (λ (u : Turn). Stepped a.tag a.line.now u)
    (sym c.take_turn-a.ensures.turn) (stepped_line a.tag a.line.now a.d.now)
