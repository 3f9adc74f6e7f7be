use mathlib.Core.Path.{◌≡◌, sym, ap, ap₂, ◌∙◌}
use native.Mathlib.Omega.{arith}
use Prim.Native.Nat.{◌+◌, ◌-◌}
use lib.ListN.{length}
use Rattle.base.specs.Decide.{pick}
use Rattle.aes.specs.Block.{counted}
use Rattle.cmac.specs.Cmac.{mac, cmac_cost}
use Rattle.sdm.specs.Tap.{tap_key_cost}
use Rattle.mirror.specs.Mirrors.{mirror_at, stretch, with_mac, mac_mirror_cost}
use Rattle.mirror.proofs.Inside.{mac-inside}
use Rattle.mirror.proofs.Laying.{mirror_off}
use Rattle.mirror.proofs.Costs.{key_few, tap-mac_few}
use borrow.Author.Rules.{rules}
use Rattle.mirror.proofs.lay_mac.Goals as goal

pub overflow_cast-input : goal.overflow_cast-input
overflow_cast-input c = search rules

pub lay_hex-requires : goal.lay_hex-requires
lay_hex-requires c =
    let o = c.mac_between-t.type_inv in
    let l : length c.mac_between-t.result.bytes ≡ 8 = search rules in
    λ h. let i = mac-inside c.args.r c.requires h in omega arith

pub overflow_add-result : goal.overflow_add-result
overflow_add-result c =
    let n = tap-mac_few (c.args.r.mac.start - c.args.r.settings.places.input) (omega (arith, c.requires.mac)) in
    omega (arith, key_few, n, ap (λ x. x.cost) c.tap_mac_key-k.ensures, ap (λ x. x.cost) c.mac_between-t.ensures)

pub returns-then-r : goal.returns-then-r
unfolding with_mac mac_mirror_cost
returns-then-r c =
    let a = c.args in
    let i = a.r.settings.places.input in
    let k = c.tap_mac_key-k.ensures in
    let t = c.mac_between-t.ensures in
    ap₂ counted
    (c.lay_hex.ensures
    ∙ ap (λ x. mirror_at a.r.mac x a.file)
    (ap (λ x. x.bytes) t ∙ ap (λ x. mac x.bytes (stretch i a.r.mac.start a.file)) k))
    (ap₂ ◌+◌ (ap (λ x. x.cost) k) (ap (λ x. x.cost) t)
    ∙ sym (ap (λ b. pick b (tap_key_cost + cmac_cost (a.r.mac.start - i)) 0) c.if-r.true))

pub returns : goal.returns
unfolding with_mac mac_mirror_cost
returns c =
    let a = c.args in
    ap₂ counted (sym (mirror_off a.r.mac _ a.file c.if-r.false))
    (sym (ap (λ b. pick b (tap_key_cost + cmac_cost (a.r.mac.start - a.r.settings.places.input)) 0) c.if-r.false))
