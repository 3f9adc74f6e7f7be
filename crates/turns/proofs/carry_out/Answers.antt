use Rattle.turns.specs.Acts.{acted_by}
use Rattle.turns.proofs.carry_out.Goals as goal

pub returns-in-Err : goal.returns-in-Err
unfolding acted_by
returns-in-Err c = rw c.in-Err.is c.still.ensures

pub returns-in-Blank : goal.returns-in-Blank
unfolding acted_by
returns-in-Blank c = rw (c.in-Ok.is, c.in-Blank.is) c.still-in-Blank.ensures

pub returns-in-Drawn : goal.returns-in-Drawn
unfolding acted_by
returns-in-Drawn c = rw (c.in-Ok.is, c.in-Drawn.is) c.drawn.ensures

pub returns-in-Given : goal.returns-in-Given
unfolding acted_by
returns-in-Given c = rw (c.in-Ok.is, c.in-Given.is) c.front.ensures
