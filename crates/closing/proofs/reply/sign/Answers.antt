-- The MAC behind what stands there.
use Rattle.std.proofs.Common.{◌≡◌, ap, ◌∙◌, ◌+◌, ◌-◌, length, take, rules}
use native.Mathlib.Omega.{arith}
use lib.ListN.{length-take}
use lib.Seq.{length-take-le, take_all}
use Rattle.base.proofs.Pieces.{also, fronted}
use Rattle.messaging.specs.Protect.{message_mac, message_mac_cost}
use Rattle.padding.proofs.Unpadding.{put_laid}
use Rattle.closing.proofs.Closing.{seals}
use Rattle.closing.proofs.reply.sign.Goals as goal

pub returns-clause-bytes : goal.returns-clause-bytes
returns-clause-bytes c =
    let a = c.args in
    let m = c.message_mac-mac in
    let l : length m.result.bytes ≡ 8 = search rules in
    let t = take_all 293 (take a.n a.room.now) (simp length-take (omega arith)) in
    let b : m.result.bytes ≡ message_mac a.s a.code (take a.n a.room.now) = ap (λ x. x.bytes) m.ensures ∙ ap (message_mac a.s a.code) t in
    let e : c.copy_from_slice.new.self ≡ m.result.bytes = c.copy_from_slice.ensures.after in
    rw (e, ← b)
    (seals (also (fronted a.n a.room.now (omega arith)) m.result.bytes (a.n + 8) (omega arith) (omega arith)
    (put_laid a.n (a.n + 8 - a.n) a.room.now m.result.bytes (omega arith) (omega arith))))

pub returns-clause-cost : goal.returns-clause-cost
returns-clause-cost c =
    let a = c.args in
    let t = take_all 293 (take a.n a.room.now) (simp length-take (omega arith)) in
    ap (λ x. x.cost) c.message_mac-mac.ensures ∙ ap message_mac_cost (ap length t ∙ length-take-le a.n a.room.now (omega arith))
