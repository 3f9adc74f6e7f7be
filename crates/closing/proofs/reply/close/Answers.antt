-- Mode by mode.
use mathlib.Core.Path.{◌≡◌, sym, subst, ap, ◌∙◌}
use Prim.Native.Nat.{◌+◌, ◌≤◌}
use native.Mathlib.Omega.{arith}
use lib.ListN.{length, take}
use lib.Seq.{length-take-le}
use Rattle.base.proofs.Pieces.{fronted}
use Rattle.messaging.specs.declared.Mode.TheVariants.{Full}
use Rattle.messaging.specs.Protect.{message_mac, message_mac_cost, sent, reply_iv}
use Rattle.messaging.proofs.Costs.{mac_few, part_few}
use Rattle.closing.specs.Reply.{filled, closed_length, closed_cost, hidden_length, Seals, closed}
use Rattle.closing.proofs.Closing.{closes_over, closes_small, closes, closed_long, short, seals, seals_signed, closed-plain, closed-mac, closed_full, cost-plain, cost-mac, cost_full}
use borrow.Author.Rules.{rules}
use Rattle.closing.proofs.reply.close.Goals as goal

pub returns-then-too_long : goal.returns-then-too_long
returns-then-too_long c =
    let a = c.args in
    closes_over a.s a.m a.code a.n a.room.now (sym c.too_long.ensures ∙ c.if-too_long.true)

pub closed_length-requires : goal.closed_length-requires
closed_length-requires c = let a = c.args in omega (arith, closed_long a.m a.n, short a.m a.n (sym c.too_long.ensures ∙ c.if-too_long.false))

pub returns-then-room-closed_length : goal.returns-then-room-closed_length
returns-then-room-closed_length c =
    let a = c.args in
    closes_small a.s a.m a.code a.n a.room.now (sym c.too_long.ensures ∙ c.if-too_long.false) (omega (arith, c.closed_length.ensures))

pub sign-requires : goal.sign-requires
unfolding closed_length
sign-requires c =
    let a = c.args in
    let f : a.n + 8 ≤ length a.room.now = subst (λ m. closed_length m a.n ≤ length a.room.now) c.in-Mac.is
    (omega (arith, c.closed_length.ensures)) in
    let g : a.n + 8 ≤ 256 = subst (λ m. closed_length m a.n ≤ 256) c.in-Mac.is
    (short a.m a.n (sym c.too_long.ensures ∙ c.if-too_long.false)) in
    (f, omega arith)

pub hide-hidden-requires : goal.hide-hidden-requires
unfolding closed_length
hide-hidden-requires c =
    let a = c.args in
    let f : hidden_length a.n + 8 ≤ length a.room.now = subst (λ m. closed_length m a.n ≤ length a.room.now) c.in-Full.is
    (omega (arith, c.closed_length.ensures)) in
    omega arith

pub sign-signed-requires : goal.sign-signed-requires
unfolding closed_length
sign-signed-requires c =
    let a = c.args in
    let f : hidden_length a.n + 8 ≤ length a.room.now = subst (λ m. closed_length m a.n ≤ length a.room.now) c.in-Full.is
    (omega (arith, c.closed_length.ensures)) in
    let g : hidden_length a.n + 8 ≤ 256 = subst (λ m. closed_length m a.n ≤ 256) c.in-Full.is
    (short a.m a.n (sym c.too_long.ensures
    ∙ c.if-too_long.false)) in
    let l : length c.hide-hidden.new.room ≡ length a.room.now = search rules in
    (omega (arith, c.hide-hidden.ensures.bytes.count), omega (arith, c.hide-hidden.ensures.bytes.count))

pub overflow_add-result : goal.overflow_add-result
unfolding closed_length
overflow_add-result c =
    let a = c.args in
    let h = c.hide-hidden.ensures in
    let g : hidden_length a.n + 8 ≤ 256 = subst (λ m. closed_length m a.n ≤ 256) c.in-Full.is
    (short a.m a.n (sym c.too_long.ensures ∙ c.if-too_long.false)) in
    omega (arith, h.bytes.count, h.cost, part_few Full (filled a.n) (hidden_length a.n), c.sign-signed.ensures.cost, mac_few c.hide-hidden.result.length)

pub returns-in-Plain : goal.returns-in-Plain
unfolding closed_length
returns-in-Plain c =
    let a = c.args in
    let d = take a.n a.room.now in
    let e = sym c.in-Plain.is in
    let f : closed_length a.m a.n ≤ length a.room.now = omega (arith, c.closed_length.ensures) in
    (closes a.s a.m a.code a.n a.room.now a.n 0 a.room.now (sym c.too_long.ensures ∙ c.if-too_long.false) f
    (subst (λ m. Seals (closed a.s m a.code d) (closed_length m a.n) a.room.now a.n a.room.now) e
    (rw (closed-plain a.s a.code d) (seals (fronted a.n a.room.now (omega (arith, closed_long a.m a.n))))))
    (subst (λ m. 0 ≡ closed_cost m a.n) e (cost-plain a.n)))

pub returns-in-Mac : goal.returns-in-Mac
unfolding closed_length
returns-in-Mac c =
    let a = c.args in
    let d = take a.n a.room.now in
    let e = sym c.in-Mac.is in
    let t = c.sign in
    let new = t.new.room in
    let f : closed_length a.m a.n ≤ length a.room.now = omega (arith, c.closed_length.ensures) in
    (closes a.s a.m a.code a.n a.room.now t.result.length t.result.cost new
    (sym c.too_long.ensures ∙ c.if-too_long.false) f
    (subst (λ m. Seals (closed a.s m a.code d) (closed_length m a.n) a.room.now t.result.length new) e
    (rw (closed-mac a.s a.code d) t.ensures.bytes))
    (t.ensures.cost ∙ subst (λ m. message_mac_cost a.n ≡ closed_cost m a.n) e (cost-mac a.n)))

pub returns-in-Full : goal.returns-in-Full
unfolding closed_length
returns-in-Full c =
    let a = c.args in
    let d = take a.n a.room.now in
    let p = sent Full a.s (reply_iv a.s) (filled a.n) d in
    let e = sym c.in-Full.is in
    let h = c.hide-hidden in
    let t = c.sign-signed in
    let new = t.new.room in
    let r = t.result.length in
    let k = h.result.cost + t.result.cost in
    let f : closed_length a.m a.n ≤ length a.room.now = omega (arith, c.closed_length.ensures, c.if-room-closed_length.false) in
    let l : length d ≡ a.n = length-take-le a.n a.room.now (omega (arith, closed_long a.m a.n)) in
    (closes a.s a.m a.code a.n a.room.now r k new
    (sym c.too_long.ensures ∙ c.if-too_long.false) f
    (subst (λ m. Seals (closed a.s m a.code d) (closed_length m a.n) a.room.now r new) e
    (rw (closed_full a.s a.code a.n d l)
    (seals_signed (message_mac a.s a.code) p a.room.now h.new.room new (hidden_length a.n) h.result.length r h.ensures.bytes t.ensures.bytes)))
    (subst (λ m. k ≡ closed_cost m a.n) e (omega (arith, h.ensures.cost, t.ensures.cost, ap message_mac_cost h.ensures.bytes.count, cost_full a.n))))
