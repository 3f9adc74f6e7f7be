-- `telling::names::wrapped` meets its contract.
use Rattle.telling.specs.Names.{table23, not_in23}
use Rattle.telling.proofs.names.wrapped.Goals as goal

pub returns : goal.returns
unfolding table23 not_in23
returns c = c.look_up.ensures
