-- The end of the command against its MAC.
use Rattle.std.proofs.Common.{ap, ap₂, ◌∙◌, ◌-◌, length, take}
use native.Mathlib.Omega.{arith}
use lib.ListN.{length-take}
use lib.Seq.{length-take-le, take_all}
use Rattle.base.specs.Bytes.{same}
use Rattle.messaging.specs.Protect.{message_mac, message_mac_cost}
use Rattle.opening.proofs.command.mac_right.Goals as goal

pub returns-clause-right : goal.returns-clause-right
returns-clause-right c =
    let a = c.args in
    let x = a.x.now in
    let m = c.message_mac-m.ensures in
    let f = c.split_at.ensures.front in
    let b = c.split_at.ensures.back in
    let t = take_all 293 (take (length x - 8) x) (simp length-take (omega arith)) in
    c.alike.ensures ∙ ap₂ same b (ap (λ y. y.bytes) m ∙ rw f (ap (message_mac a.s a.cmd) t))

pub returns-clause-cost : goal.returns-clause-cost
returns-clause-cost c =
    let a = c.args in
    let x = a.x.now in
    let m = c.message_mac-m.ensures in
    let t = take_all 293 (take (length x - 8) x) (simp length-take (omega arith)) in
    ap (λ y. y.cost) m ∙ rw c.split_at.ensures.front (ap message_mac_cost (ap length t ∙ length-take-le (length x - 8) x (omega arith)))
