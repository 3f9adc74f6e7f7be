use mathlib.Core.Path.{◌≡◌, ap, ap₂, ◌∙◌}
use native.Mathlib.Omega.{arith}
use Prim.Native.Nat.{◌+◌, ◌-◌, ◌*◌, ◌/◌}
use lib.ListN.{length, drop, length-drop}
use lib.Seq.{length-take-le}
use Rattle.cbc.specs.Cbc.{cbc_out, cbc_cost}
use Rattle.key_expansion.specs.Keys.{key_expansion}
use Rattle.aes.specs.Block.{counted}
use Rattle.sdm.specs.Tap.{tap_iv, hidden_cost}
use Rattle.mirror.specs.Mirrors.{mirror_at, stretch, enc_data}
use Rattle.mirror.proofs.Laying.{enc-blocks}
use borrow.Author.Rules.{rules}
use Rattle.mirror.proofs.hide.Goals as goal

pub returns : goal.returns
unfolding enc_data hidden_cost cbc_cost
returns c =
    let a = c.args in
    let w = key_expansion a.key in
    let v = tap_iv a.key a.counter in
    let at = a.s.start in
    let n = a.s.size / 32 * 16 in
    let l : length a.stored ≡ 256 = search rules in
    let e : n ≡ a.s.size / 2 / 16 * 16 = omega arith in
    let k : length (stretch at (at + n) a.stored) ≡ at + n - at =
    length-take-le (at + n - at) (drop at a.stored) (omega (arith, length-drop at a.stored, c.requires)) in
    c.lay_hidden.ensures
    ∙ ap₂ counted
    (ap (λ i. mirror_at a.s (cbc_out w v (stretch at (at + i) a.stored)) a.file) e
    ∙ ap (λ t. mirror_at a.s t a.file) (enc-blocks w v at (a.s.size / 2) a.stored (omega (arith, c.requires))))
    (omega (arith, k))
