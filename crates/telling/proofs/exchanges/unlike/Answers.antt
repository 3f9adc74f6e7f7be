use Rattle.forms.proofs.Laying.{writes_more}
use Rattle.telling.specs.Exchanges.{other_text, unlike_of}
use Rattle.telling.proofs.exchanges.unlike.Goals as goal

pub returns : goal.returns
unfolding other_text unlike_of
returns c = writes_more (writes_more c.append.ensures c.spaced.ensures) c.append-2.ensures
