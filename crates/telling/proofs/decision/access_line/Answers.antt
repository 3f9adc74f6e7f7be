-- `telling::decision::access_line` meets its contract: nothing, or the form.
use Rattle.telling.specs.Decision.{access_form, access_text}
use Rattle.forms.proofs.Laying.{writes_none}
use mathlib.Core.Path.{sym}
use borrow.Author.Tests.{eq-eqb, ne_eqb}
use Rattle.telling.proofs.decision.access_line.Goals as goal

pub returns-then-how-eq0 : goal.returns-then-how-eq0
unfolding access_text
returns-then-how-eq0 c = rw (eq-eqb _ 0 c.if-how-eq0.true) (writes_none _)

pub returns : goal.returns
unfolding access_form access_text
returns c = rw (ne_eqb _ 0 c.if-how-eq0.false, sym c.from.ensures) c.append_form.ensures
