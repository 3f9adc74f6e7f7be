-- `telling::names::inter_industry` meets its contract.
use Rattle.telling.specs.Names.{table24, not_in24}
use Rattle.telling.proofs.names.inter_industry.Goals as goal

pub returns : goal.returns
unfolding table24 not_in24
returns c = c.look_up.ensures
