-- `telling::turn::skipped` meets its contract.
use Rattle.telling.specs.Turns.{skipped_form, skipped_text}
use Rattle.telling.proofs.turn.skipped.Goals as goal

pub returns : goal.returns
unfolding skipped_form skipped_text
returns c = c.append_form.ensures
