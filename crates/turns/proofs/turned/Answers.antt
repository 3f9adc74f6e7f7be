use mathlib.Core.Path.{ap}
use Rattle.forms.proofs.Laying.{lays_as}
use Rattle.turns.specs.Acts.{Act}
use Rattle.turns.specs.Lines.{told_of}
use Rattle.turns.proofs.turned.Goals as goal

pub returns : goal.returns
unfolding told_of
returns c =
    let carried = c.carry_out-a.ensures in
    let a = c.args in
    record {
      turn = ap (λ (x : Act). x.turn) carried;
      text = lays_as c.line_text-length.ensures (rw c.as_slice.ensures (ap (λ (x : Act). told_of a.number a.meaning a.c.now a.e.now x) carried));
    }
