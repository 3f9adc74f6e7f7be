-- `talks::exchange::is_another` meets its contract: longer than the room, the same, or another.
use mathlib.Core.Path.{refl, sym}
use native.Mathlib.Omega.{arith}
use lib.ListN.{length}
use lib.Seq.{length-take-le}
use borrow.Author.Tests.{le-leb, lt-leb}
use Rattle.talks.specs.Verdict.{another}
use Rattle.talks.proofs.exchange.is_another.Goals as goal

pub returns-then-room-n : goal.returns-then-room-n
unfolding another
returns-then-room-n g c =
    let a = c.args in
    rw (lt-leb a.n (length a.room.now) c.if-room-n.true) refl

pub slice_bounds-alike-end : goal.slice_bounds-alike-end
slice_bounds-alike-end g c = let a = c.args in sym (length-take-le a.n a.room.now (omega arith))

pub returns-then-alike : goal.returns-then-alike
unfolding another
returns-then-alike g c =
    let a = c.args in
    rw (le-leb a.n (length a.room.now) c.if-room-n.false, ← c.alike.ensures, c.if-alike.true) refl

pub slice_bounds-another-end : goal.slice_bounds-another-end
slice_bounds-another-end g c = let a = c.args in sym (length-take-le a.n a.room.now (omega arith))

pub returns : goal.returns
unfolding another
returns g c =
    let a = c.args in
    rw (le-leb a.n (length a.room.now) c.if-room-n.false, ← c.alike.ensures, c.if-alike.false) refl
