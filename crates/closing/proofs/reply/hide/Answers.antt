-- Padded, then encrypted in place.
use Rattle.std.proofs.Common.{◌≡◌, refl, sym, ap, ◌∙◌, ◌+◌, ◌*◌, ◌/◌, ◌≤◌, length, take, rules}
use native.Mathlib.Omega.{arith}
use lib.Seq.{length-take-le}
use Rattle.cbc.specs.Cbc.{cbc_cost}
use Rattle.cbc.proofs.Turns.{chains_ok}
use Rattle.closing.specs.Reply.{hidden_length}
use Rattle.messaging.specs.Protect.{reply_iv, part_cost}
use Rattle.closing.proofs.Closing.{seals_none, seals_some, hidden_some, hidden_cost_lem, reply_under, pads_to}
use Rattle.closing.proofs.reply.hide.Goals as goal

pub returns-then-n-eq0-clause-bytes : goal.returns-then-n-eq0-clause-bytes
returns-then-n-eq0-clause-bytes c = seals_none c.args.s (reply_iv c.args.s) c.args.room.now _ c.args.n (omega arith)

pub returns-then-n-eq0-clause-cost : goal.returns-then-n-eq0-clause-cost
unfolding part_cost
returns-then-n-eq0-clause-cost c = rw c.if-n-eq0.true refl

pub unwrap-length-requires : goal.unwrap-length-requires
unwrap-length-requires c = rw (pads_to c.pad.ensures (omega arith) c.requires) (search rules)

pub slice_bounds-cbc_encrypt-end : goal.slice_bounds-cbc_encrypt-end
slice_bounds-cbc_encrypt-end c =
    let p = pads_to c.pad.ensures (omega arith) c.requires in
    let u : c.unwrap-length.result ≡ c.args.n / 16 * 16 + 16 = cc in
    let f : hidden_length c.args.n ≤ length c.args.room.now = c.requires in
    let l : length c.pad.new.room ≡ length c.args.room.now = search rules in
    omega (arith, hidden_some c.args.n (omega arith))

pub slice_bounds-cbc_encrypt-end-2 : goal.slice_bounds-cbc_encrypt-end-2
slice_bounds-cbc_encrypt-end-2 c =
    let p = pads_to c.pad.ensures (omega arith) c.requires in
    let u : c.unwrap-length.result ≡ c.args.n / 16 * 16 + 16 = cc in
    let f : hidden_length c.args.n ≤ length c.args.room.now = c.requires in
    let l : length c.pad.new.room ≡ length c.args.room.now = search rules in
    sym (length-take-le c.unwrap-length.result c.pad.new.room (omega (arith, hidden_some c.args.n (omega arith))))

pub unwrap-blocks-requires : goal.unwrap-blocks-requires
unwrap-blocks-requires c =
    let p = pads_to c.pad.ensures (omega arith) c.requires in
    let u : c.unwrap-length.result ≡ c.args.n / 16 * 16 + 16 = cc in
    let f : hidden_length c.args.n ≤ length c.args.room.now = c.requires in
    let l : length c.pad.new.room ≡ length c.args.room.now = search rules in
    let k : length (take c.unwrap-length.result c.pad.new.room) ≡ c.unwrap-length.result = length-take-le c.unwrap-length.result c.pad.new.room (omega (arith, hidden_some c.args.n (omega arith))) in
    rw (chains_ok c.cbc_encrypt.ensures (rw k (omega arith))) (search rules)

pub overflow_add-result : goal.overflow_add-result
unfolding cbc_cost
overflow_add-result c =
    let p = pads_to c.pad.ensures (omega arith) c.requires in
    let u : c.unwrap-length.result ≡ c.args.n / 16 * 16 + 16 = cc in
    let f : hidden_length c.args.n ≤ length c.args.room.now = c.requires in
    let l : length c.pad.new.room ≡ length c.args.room.now = search rules in
    let k : length (take c.unwrap-length.result c.pad.new.room) ≡ c.unwrap-length.result = length-take-le c.unwrap-length.result c.pad.new.room (omega (arith, hidden_some c.args.n (omega arith))) in
    let o = chains_ok c.cbc_encrypt.ensures (rw k (omega arith)) in
    let w : c.unwrap-blocks.result ≡ cbc_cost (length (take c.unwrap-length.result c.pad.new.room)) = cc in
    omega (arith, ap (λ x. x.cost) c.reply_vector-v.ensures, k)

pub returns-clause-bytes : goal.returns-clause-bytes
returns-clause-bytes c =
    let a = c.args in
    let p = c.pad in
    let b = c.cbc_encrypt in
    let x = c.expand-w in
    let v = c.reply_vector-v in
    let z : 1 ≤ a.n = omega arith in
    let q = pads_to p.ensures z c.requires in
    let u : c.unwrap-length.result ≡ a.n / 16 * 16 + 16 = cc in
    let f : hidden_length a.n ≤ length a.room.now = c.requires in
    let g : a.n / 16 * 16 + 16 ≤ length a.room.now = omega (arith, hidden_some a.n z) in
    let l : length p.new.room ≡ length a.room.now = search rules in
    let m : length b.new.buf ≡ length (take c.unwrap-length.result p.new.room) = search rules in
    seals_some a.s v.result.bytes a.room.now p.new.room b.new.buf x.result a.n _ _ _ z g p.ensures x.ensures
    (ap (λ y. y.bytes) v.ensures ∙ reply_under a.s _ x.ensures) u b.ensures (m ∙ length-take-le _ p.new.room (omega arith))

pub returns-clause-cost : goal.returns-clause-cost
returns-clause-cost c =
    let a = c.args in
    let z : 1 ≤ a.n = omega arith in
    let p = pads_to c.pad.ensures z c.requires in
    let u : c.unwrap-length.result ≡ a.n / 16 * 16 + 16 = cc in
    let f : hidden_length a.n ≤ length a.room.now = c.requires in
    let l : length c.pad.new.room ≡ length a.room.now = search rules in
    let k : length (take c.unwrap-length.result c.pad.new.room) ≡ c.unwrap-length.result = length-take-le c.unwrap-length.result c.pad.new.room (omega (arith, hidden_some a.n z)) in
    let o = chains_ok c.cbc_encrypt.ensures (rw k (omega arith)) in
    hidden_cost_lem a.n _ _ _ z (k ∙ u) (ap (λ y. y.cost) c.reply_vector-v.ensures) cc
