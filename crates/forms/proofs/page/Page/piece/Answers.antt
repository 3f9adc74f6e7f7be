use Rattle.forms.proofs.Laying.{writes_none}
use Rattle.forms.specs.Forms.{piece_of}
use Rattle.forms.proofs.page.Page.piece.Goals as goal

pub returns-then-on : goal.returns-then-on
unfolding piece_of
returns-then-on c = rw c.if-on.true c.shown.ensures

pub returns-else-on : goal.returns-else-on
unfolding piece_of
returns-else-on c = rw c.if-on.false (writes_none _)
