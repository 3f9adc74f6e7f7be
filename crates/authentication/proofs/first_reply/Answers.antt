-- `authentication::first_reply` meets its contract: four pieces fill the buffer.
use mathlib.Core.Path.{◌≡◌, ap, ◌∙◌}
use borrow.Author.Rules.{rules}
use mathlib.Core.List.{◌++◌}
use native.Mathlib.Omega.{arith}
use lib.ListN.{length}
use Rattle.base.proofs.Bytes.{none}
use Rattle.base.proofs.Pieces.{also, full}
use Rattle.cbc.specs.Cbc.{cbc_cost}
use Rattle.aes.specs.Block.{counted}
use Rattle.authentication.specs.Authentication.{zeros, enciphered, first_reply}
use Rattle.authentication.proofs.first_reply.Goals as goal

pub returns : goal.returns
unfolding first_reply
returns c =
    let a = c.args in
    let l : length a.ti ≡ 4 = search rules in
    let m : length a.cap ≡ 6 = search rules in
    let n : length c.turn.result ≡ 16 = search rules in
    c.encipher.ensures ∙ ap (λ x. counted (enciphered a.kx x) (cbc_cost 32))
    (full (also (also (also (also (none _) a.ti 4 (omega arith) (omega arith) c.put.ensures)
    c.turn.result 20 (omega arith) (omega arith)
    c.put-2.ensures) (zeros 6) 26 (omega arith) (omega arith) c.put-3.ensures) a.cap 32 (omega arith) (omega arith)
    c.put-4.ensures) (omega arith) ∙ ap (λ t. a.ti ++ t ++ zeros 6 ++ a.cap) c.turn.ensures)
