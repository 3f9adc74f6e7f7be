use Rattle.forms.proofs.Laying.{writes_more}
use Rattle.summaries.specs.Summary.{summary_of}
use Rattle.summaries.proofs.tell.Goals as goal

pub returns : goal.returns
unfolding summary_of
returns c = writes_more (writes_more c.uid.ensures c.talk.ensures) c.files.ensures
