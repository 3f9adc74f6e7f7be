use mathlib.Core.Path.{◌≡◌, sym, ap, ap₂, ◌∙◌}
use native.Mathlib.Omega.{arith}
use lib.ListN.{length}
use Rattle.base.specs.Decide.{pick}
use Rattle.aes.specs.Block.{counted}
use Rattle.sdm.specs.Tap.{picc_cost}
use Rattle.mirror.specs.Mirrors.{mirror_at, with_uid, with_counter, with_picc, picc_mirror_cost}
use Rattle.mirror.proofs.Inside.{uid-inside, counter-inside, picc-inside}
use Rattle.mirror.proofs.Laying.{mirror_off}
use borrow.Author.Rules.{rules}
use Rattle.mirror.proofs.lay_picc.Goals as goal

pub lay_hex-f-requires : goal.lay_hex-f-requires
lay_hex-f-requires c =
    let l : length c.args.m.tap.uid ≡ 7 = search rules in
    λ h. let i = uid-inside c.args.r c.requires h in omega arith

pub lay_hex-g-requires : goal.lay_hex-g-requires
lay_hex-g-requires c =
    let l : length c.high_first.result ≡ 3 = search rules in
    λ h. let i = counter-inside c.args.r c.requires h in omega arith

pub lay_hex-requires : goal.lay_hex-requires
lay_hex-requires c =
    let l : length c.picc_data-p.result.bytes ≡ 16 = search rules in
    λ h. let i = picc-inside c.args.r c.requires h in omega arith

pub returns-then-r : goal.returns-then-r
unfolding with_uid with_counter with_picc picc_mirror_cost
returns-then-r c =
    let a = c.args in
    let p = c.picc_data-p.ensures in
    ap₂ counted
    (c.lay_hex.ensures ∙ ap₂ (mirror_at a.r.picc) (ap (λ x. x.bytes) p)
    (c.lay_hex-g.ensures ∙ ap₂ (mirror_at a.r.counter) c.high_first.ensures c.lay_hex-f.ensures))
    (ap (λ x. x.cost) p ∙ sym (ap (λ t. pick t picc_cost 0) c.if-r.true))

pub returns : goal.returns
unfolding with_uid with_counter with_picc picc_mirror_cost
returns c =
    let a = c.args in
    ap₂ counted
    (c.lay_hex-g.ensures
    ∙ ap₂ (mirror_at a.r.counter) c.high_first.ensures c.lay_hex-f.ensures
    ∙ sym (mirror_off a.r.picc _ _ c.if-r.false))
    (sym (ap (λ t. pick t picc_cost 0) c.if-r.false))
