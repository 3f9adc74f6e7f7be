use Rattle.forms.proofs.Laying.{writes_more}
use Rattle.telling.specs.Exchanges.{line_form, exchange_of}
use Rattle.telling.proofs.exchanges.exchange.Goals as goal

pub returns : goal.returns
unfolding exchange_of line_form
returns c = writes_more (writes_more (writes_more c.append_form.ensures c.spaced.ensures) c.append.ensures) c.reply.ensures
