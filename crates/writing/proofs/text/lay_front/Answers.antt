use Rattle.std.proofs.Common.{arith, ◌≡◌, ◌≤◌, ◌∙◌, length, take}
use lib.Seq.{length-take-le}
use borrow.Author.Tests.{le-leb}
use Rattle.normalising.proofs.Laying.{laid-front}
use Rattle.writing.proofs.text.lay_front.Goals as goal

pub returns-clause-left : goal.returns-clause-left
returns-clause-left c =
    let n = c.args.n in
    let own = c.args.own.now in
    let fits : n ≤ length c.args.room.now = omega (arith, c.if-room-n.false) in
    let e : length (take n own) ≡ n = length-take-le n own c.requires in
    rw (le-leb _ _ fits) (c.put.ensures ∙ laid-front (take n own) c.args.room.now (omega arith))
