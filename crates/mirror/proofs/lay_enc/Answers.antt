use mathlib.Core.Path.{sym, ap, ap₂, ◌∙◌}
use native.Mathlib.Omega.{arith}
use Prim.Native.Nat.{◌+◌, ◌/◌}
use Rattle.base.specs.Decide.{pick}
use Rattle.aes.specs.Block.{counted}
use Rattle.sdm.specs.Tap.{tap_key_cost, hidden_cost}
use Rattle.mirror.specs.Mirrors.{mirror_at, enc_data, with_enc, enc_mirror_cost}
use Rattle.mirror.proofs.Laying.{mirror_off}
use Rattle.mirror.proofs.Costs.{key_few, hidden_few}
use Rattle.mirror.proofs.lay_enc.Goals as goal

pub overflow_add-result : goal.overflow_add-result
overflow_add-result c =
    let n = hidden_few (c.args.r.enc.size / 2) (omega (arith, c.requires.enc)) in
    omega (arith, key_few, n, ap (λ x. x.cost) c.tap_enc_key-k.ensures, ap (λ x. x.cost) c.hide-h.ensures)

pub returns-then-r : goal.returns-then-r
unfolding with_enc enc_mirror_cost
returns-then-r c =
    let a = c.args in
    let k = c.tap_enc_key-k.ensures in
    let h = c.hide-h.ensures in
    ap₂ counted
    (ap (λ x. x.bytes) h
    ∙ ap (λ x. mirror_at a.r.enc (enc_data x.bytes a.m.tap.counter a.r.enc a.stored) a.file) k)
    (ap₂ ◌+◌ (ap (λ x. x.cost) k) (ap (λ x. x.cost) h)
    ∙ sym (ap (λ t. pick t (tap_key_cost + hidden_cost (a.r.enc.size / 2)) 0) c.if-r.true))

pub returns : goal.returns
unfolding with_enc enc_mirror_cost
returns c =
    let a = c.args in
    ap₂ counted (sym (mirror_off a.r.enc _ a.file c.if-r.false))
    (sym (ap (λ t. pick t (tap_key_cost + hidden_cost (a.r.enc.size / 2)) 0) c.if-r.false))
