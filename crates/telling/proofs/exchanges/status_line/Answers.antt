use Rattle.forms.proofs.Laying.{writes_more}
use Rattle.telling.specs.Exchanges.{status_line}
use Rattle.telling.proofs.exchanges.status_line.Goals as goal

pub returns : goal.returns
unfolding status_line
returns c =
    writes_more (writes_more (writes_more (writes_more c.append.ensures c.spaced.ensures) c.append-2.ensures) c.status_name.ensures) c.append-3.ensures
