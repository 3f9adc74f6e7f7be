-- `telling::work::blocks_line` meets its contract: the form.
use Rattle.telling.specs.Work.{blocks_form, blocks_text}
use Rattle.telling.proofs.work.blocks_line.Goals as goal

pub returns : goal.returns
unfolding blocks_form blocks_text
returns c = c.append_form.ensures
