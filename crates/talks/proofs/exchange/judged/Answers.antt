-- `talks::exchange::judged` meets its contract: a reply, or a refusal.
use Rattle.talks.proofs.Reading.{judged-reply, judged-refusal}
use Rattle.talks.proofs.exchange.judged.Goals as goal

pub returns-then-refusal-eq0 : goal.returns-then-refusal-eq0
returns-then-refusal-eq0 g c = judged-reply _ _ _ _ _ _ c.refusal_of-refusal.ensures c.if-refusal-eq0.true c.is_another.ensures

pub returns : goal.returns
returns g c = judged-refusal _ _ _ _ _ _ c.refusal_of-refusal.ensures c.if-refusal-eq0.false c.refused.ensures
