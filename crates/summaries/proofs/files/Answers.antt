use Rattle.forms.proofs.Laying.{writes_more}
use Rattle.summaries.specs.Summary.{files_of}
use Rattle.summaries.proofs.files.Goals as goal

pub returns : goal.returns
unfolding files_of
returns c = writes_more (writes_more c.file.ensures c.file-2.ensures) c.file-3.ensures
