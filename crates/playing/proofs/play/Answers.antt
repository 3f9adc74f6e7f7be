-- `playing::play` meets its contract.
use mathlib.Core.Path.{ap}
use Rattle.playing.specs.Answers.{read_or_beside}
use Rattle.playing.proofs.Border.{wrong_plays, wrong_journal_lem, plays}
use Rattle.playing.proofs.play.Goals as goal

-- `playing::play` meets its contract.
pub returns-then-state-ne684 : goal.returns-then-state-ne684
returns-then-state-ne684 c =
    let a = c.args in
    wrong_plays a.state.now a.command.now a.random.now a.room.now a.journal.now c.if-state-ne684.true

pub returns-then-journal-ne16 : goal.returns-then-journal-ne16
returns-then-journal-ne16 c =
    let a = c.args in
    wrong_journal_lem a.state.now a.command.now a.random.now a.room.now a.journal.now c.if-state-ne684.false c.if-journal-ne16.true

pub returns-in-Ok : goal.returns-in-Ok
returns-in-Ok c =
    let a = c.args in
    plays a.state.now a.command.now a.random.now a.room.now a.journal.now _ _ _ _ _ c.if-state-ne684.false c.if-journal-ne16.false
    (ap read_or_beside c.in-Ok.ensures.told) c.answer.ensures

pub returns-in-Err : goal.returns-in-Err
returns-in-Err c =
    let a = c.args in
    plays a.state.now a.command.now a.random.now a.room.now a.journal.now _ _ _ _ _ c.if-state-ne684.false c.if-journal-ne16.false
    (ap read_or_beside c.in-Err.ensures.told) c.answer-in-Err.ensures
