use mathlib.Core.Path.{sym, ap, ap₂, ◌∙◌}
use Prim.Native.Nat.{◌%◌}
use lib.ListN.{length}
use borrow.Author.Tests.{eq-eqb}
use Rattle.base.specs.Decide.{pick}
use Rattle.cbc.specs.Cbc.{cbc_out, chained_cost}
use Rattle.key_expansion.specs.Keys.{key_expansion}
use Rattle.aes.specs.Block.{counted}
use Rattle.sdm.specs.Tap.{tap_iv, hidden_cost}
use Rattle.mirror.specs.Mirrors.{mirror_at}
use Rattle.mirror.proofs.lay_hidden.Goals as goal

pub returns : goal.returns
returns c =
    let a = c.args in
    let x = a.text.now in
    let h = c.tap_encrypt.ensures in
    let w = eq-eqb (length x % 16) 0 c.requires.text_len in
    ap₂ counted
    (c.lay_hex.ensures
    ∙ ap (λ t. mirror_at a.s t a.file)
    (h.text ∙ ap (λ b. pick b (cbc_out (key_expansion a.key) (tap_iv a.key a.counter) x) x) w))
    (ap chained_cost (sym c.unwrap-cost.ensures) ∙ h.cost ∙ ap (λ b. pick b (hidden_cost (length x)) 0) w)
