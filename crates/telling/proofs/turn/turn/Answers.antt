use mathlib.Core.Path.{sym}
use Rattle.forms.proofs.Laying.{writes_none}
use Rattle.telling.specs.Turns.{line_text}
use Rattle.telling.proofs.turn.turn.Goals as goal

pub returns-in-Err : goal.returns-in-Err
unfolding line_text
returns-in-Err c = rw (c.in-Err.is, sym c.number_of.ensures) c.skipped.ensures

pub returns-in-Blank : goal.returns-in-Blank
unfolding line_text
returns-in-Blank c = rw (c.in-Ok.is, c.in-Blank.is) (writes_none _)

pub returns-then-undrawn : goal.returns-then-undrawn
unfolding line_text
returns-then-undrawn c = rw (c.in-Ok.is, c.in-Drawn.is, c.if-undrawn.true) c.skipped-then-undrawn.ensures

pub returns-else-undrawn : goal.returns-else-undrawn
unfolding line_text
returns-else-undrawn c = rw (c.in-Ok.is, c.in-Drawn.is, c.if-undrawn.false) c.played.ensures

pub returns-in-Given : goal.returns-in-Given
unfolding line_text
returns-in-Given c = rw (c.in-Ok.is, c.in-Given.is) c.played-in-Given.ensures
