-- `authentication::encipher` meets its contract: the blocks are whole.
use mathlib.Core.Path.{◌≡◌, sym, ap, ap₂, ◌∙◌}
use borrow.Author.Rules.{rules}
use lib.ListN.{length}
use Rattle.aes.specs.Block.{counted}
use Rattle.cbc.specs.Cbc.{cbc_out, cbc_cost, chained_cost}
use Rattle.cbc.proofs.Turns.{chains_whole, chains_cost}
use Rattle.authentication.specs.Authentication.{enciphered}
use Rattle.authentication.proofs.encipher.Goals as goal

pub returns : goal.returns
unfolding enciphered
returns g c =
    let x = c.args.x in
    let l : length x ≡ g.row.N = search rules in
    let e = c.cbc_encrypt.ensures in
    ap₂ counted (chains_whole e (rw l c.requires) ∙ ap (λ w. cbc_out w _ x) c.expand-w.ensures)
    (ap chained_cost (sym c.unwrap-cost.ensures) ∙ chains_cost e (rw l c.requires) ∙ ap cbc_cost l)
