-- `selects::select_file` meets its contract.
use Rattle.state.specs.State.{placed, tapped}
use Rattle.selects.proofs.Choices.{file_there}
use Rattle.selects.proofs.select_file.Goals as goal

pub returns-then-tag : goal.returns-then-tag
unfolding placed tapped
returns-then-tag c =
    let a = c.args in
    file_there a.tag a.n c.quiet-tap.result _ c.give.result c.if-tag.true c.quiet-tap.ensures c.empty.ensures.text c.give.ensures
