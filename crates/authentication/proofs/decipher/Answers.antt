-- `authentication::decipher` meets its contract: both blocks are decrypted.
use mathlib.Core.Path.{◌≡◌, refl, sym, ap, ap₂, ◌∙◌}
use lib.ListN.{length}
use Rattle.aes.specs.Block.{counted}
use Rattle.cbc.specs.Cbc.{cbc_back, cbc_cost, chained_cost}
use Rattle.cbc.proofs.Turns.{chains_whole, chains_cost}
use Rattle.authentication.specs.Authentication.{deciphered, zeros}
use Rattle.authentication.proofs.decipher.Goals as goal

pub returns : goal.returns
unfolding deciphered
returns c =
    let x = c.args.x.now in
    let l : length x ≡ 32 = c.requires in
    let e = c.copy_from_slice.ensures.after in
    let h = c.cbc_decrypt.ensures in
    let n = ap length e ∙ l in
    ap₂ counted (chains_whole h (rw n refl) ∙ ap₂ (λ w y. cbc_back w (zeros 16) y) c.expand-w.ensures e)
    (ap chained_cost (sym c.unwrap-cost.ensures) ∙ chains_cost h (rw n refl) ∙ ap cbc_cost n)
