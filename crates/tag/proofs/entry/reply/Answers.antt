-- `tag::entry::reply` meets its contract: the answer is laid.
use Rattle.tag.specs.Way.{answered, noted}
use Rattle.tag.proofs.Calling.{replies}
use Rattle.tag.proofs.entry.reply.Goals as goal

pub returns : goal.returns
returns c =
    let a = c.args in
    let y = c.answered-answer in
    replies (answered a.tag a.command.now a.random) y.result.done a.room.now _ _ y.ensures.answer c.lay.ensures y.result.noted
    (noted a.tag a.command.now) y.ensures.noted
