-- `session_keys::session_keys` meets its contract: both keys.
use mathlib.Core.Path.{◌≡◌, ap, refl, ◌∙◌}
use lib.ListN.{length}
use native.Mathlib.Omega.{arith}
use Rattle.cmac.specs.Cmac.{cmac_cost, blocks_of}
use Rattle.session_keys.specs.Keys.{session_keys, enc_key, mac_key}
use borrow.Author.Rules.{rules}
use borrow.Author.Rules.{rules}
use Rattle.session_keys.proofs.session_keys.Goals as goal

pub overflow_add-result : goal.overflow_add-result
unfolding cmac_cost blocks_of
overflow_add-result c =
    let l : length c.vector-one.result ≡ 32 = search rules in
    let m : length c.vector-two.result ≡ 32 = search rules in
    omega (arith, ap (λ x. x.cost) c.cmac_of-e.ensures ∙ ap cmac_cost l, ap (λ x. x.cost) c.cmac_of-m.ensures ∙ ap cmac_cost m)

pub returns : goal.returns
unfolding session_keys enc_key mac_key
returns c =
    let l : length c.vector-one.result ≡ 32 = search rules in
    let m : length c.vector-two.result ≡ 32 = search rules in
    let e = c.vector-one.ensures in
    let f = c.vector-two.ensures in
    rw (c.cmac_of-e.ensures, c.cmac_of-m.ensures, l, m, e, f, c.expand-w.ensures) refl
