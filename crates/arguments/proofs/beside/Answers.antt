use native.Mathlib.Omega.{arith}
use Rattle.arguments.proofs.NewName.{beside_not, beside_is}
use Rattle.arguments.proofs.beside.Goals as goal
use Rattle.arguments.proofs.beside.Goals.{then-room-lt4-via-then-room-lt4, then-room-lt4-via-else-room-lt4+then-room-n}

pub returns-then-room-lt4 : goal.returns-then-room-lt4
returns-then-room-lt4 c =
    let a = c.args in
    let e = beside_not a.path.now a.room.now (elim c.then-room-lt4.branch [ then-room-lt4-via-then-room-lt4 w ↦ omega arith | then-room-lt4-via-else-room-lt4+then-room-n w ↦ omega arith ]) in
    record { count = e.0; left = e.1 }

pub returns : goal.returns
returns c =
    let a = c.args in
    let e = beside_is a.path.now a.room.now _ _ (omega arith) c.put.ensures c.put-2.ensures in
    record { count = e.0; left = e.1 }
