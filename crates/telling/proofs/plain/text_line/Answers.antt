-- `telling::plain::text_line` meets its contract.
use mathlib.Core.Path.{sym}
use native.Mathlib.Omega.{arith}
use lib.ListN.{length-take}
use Rattle.forms.proofs.Laying.{writes_none}
use borrow.Author.Tests.{eq-eqb, ne_eqb}
use Rattle.telling.specs.Plain.{text_line}
use Rattle.telling.proofs.plain.text_line.Goals as goal

pub returns-then-n-eq0 : goal.returns-then-n-eq0
unfolding text_line
returns-then-n-eq0 c = rw (sym c.before_zeros-n.ensures.told, eq-eqb _ 0 c.if-n-eq0.true) (writes_none _)

pub slice_bounds-text-end : goal.slice_bounds-text-end
slice_bounds-text-end c = simp length-take (omega (arith, c.before_zeros-n.ensures.fits))

pub returns : goal.returns
unfolding text_line
returns c = rw (
  sym c.before_zeros-n.ensures.told,
  ne_eqb _ 0 c.if-n-eq0.false,
) c.text.ensures
