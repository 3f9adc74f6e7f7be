use mathlib.Core.Path.{ap, ap₂, ◌∙◌}
use native.Mathlib.Omega.{arith}
use Prim.Native.Nat.{◌+◌}
use Rattle.aes.specs.Block.{counted}
use Rattle.mirror.specs.Mirrors.{with_enc, with_mac, dynamic_data, dynamic_cost}
use Rattle.mirror.proofs.Costs.{picc_mirror_few, enc_mirror_few, mac_mirror_few}
use Rattle.mirror.proofs.lay.Goals as goal

pub overflow_add-result : goal.overflow_add-result
overflow_add-result c =
    let r = c.args.r in
    let n = picc_mirror_few r in
    let k = enc_mirror_few r c.requires in
    omega (arith, n, k, ap (λ x. x.cost) c.lay_picc-p.ensures, ap (λ x. x.cost) c.lay_enc-e.ensures)

pub overflow_add-result-2 : goal.overflow_add-result-2
overflow_add-result-2 c =
    let r = c.args.r in
    let n = picc_mirror_few r in
    let k = enc_mirror_few r c.requires in
    let m = mac_mirror_few r c.requires in
    let p = ap (λ x. x.cost) c.lay_picc-p.ensures in
    let e = ap (λ x. x.cost) c.lay_enc-e.ensures in
    omega (arith, n, k, m, p, e, ap (λ x. x.cost) c.lay_mac-c.ensures)

pub returns : goal.returns
unfolding dynamic_data dynamic_cost
returns c =
    let a = c.args in
    let p = c.lay_picc-p.ensures in
    let e = c.lay_enc-e.ensures in
    let m = c.lay_mac-c.ensures in
    ap₂ counted
    (ap (λ x. x.bytes) m
    ∙ ap (with_mac a.r a.m) (ap (λ x. x.bytes) e ∙ ap (λ x. with_enc a.r a.m a.file x.bytes) p))
    (ap₂ ◌+◌ (ap₂ ◌+◌ (ap (λ x. x.cost) p) (ap (λ x. x.cost) e)) (ap (λ x. x.cost) m))
