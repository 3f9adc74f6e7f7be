-- The array is the definition's block.
use Rattle.std.proofs.Common.{◌≡◌, ap₂, ◌∙◌, ◌++◌, length, replicate, rules}
use Rattle.base.specs.Bytes.{low}
use Rattle.base.proofs.Pieces.{tab_of}
use Rattle.aes.specs.Block.{cipher, counted, block_cost}
use Rattle.messaging.proofs.protect.vector.Goals as goal

pub returns : goal.returns
unfolding low
returns c =
    let a = c.args in
    let k : length a.label ≡ 2 = search rules in
    let l : length a.s.ti ≡ 4 = search rules in
    c.encrypt.ensures ∙ rw c.to_le_bytes.ensures (ap₂ (λ p t. counted (cipher a.w.now (p ++ t ++ low 2 a.s.counter ++ replicate 8 0)) block_cost)
    (tab_of 2 a.label k) (tab_of 4 a.s.ti l))
