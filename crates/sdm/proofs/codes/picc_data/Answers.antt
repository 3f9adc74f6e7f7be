-- `sdm::codes::picc_data` meets its contract: the text, encrypted.
use mathlib.Core.Path.{ap, ap₂, ◌∙◌}
use mathlib.Core.List.{List, ◌∷◌, ◌++◌}
use Prim.Native.Nat.{ℕ, ◌-◌}
use lib.ListN.{take, replicate}
use Rattle.aes.specs.Block.{cipher, counted, block_cost}
use Rattle.sdm.specs.Tap.{picc_tag, mirrored_of, picc_text, picc_data}
use Rattle.sdm.proofs.Mirroring.{mirrors_front}
use Rattle.sdm.proofs.codes.picc_data.Goals as goal

pub returns : goal.returns
unfolding picc_data picc_text
returns c =
    let a = c.args in
    let m = c.mirror_of-m.ensures in
    let n = c.mirror_of-m.result.count in
    c.encrypt.ensures
    ∙ ap₂ (λ w s. counted (cipher w s) block_cost) c.expand.ensures
    (c.picc_text-text.ensures
    ∙ ap (λ p. c.picc_tag-tag.result ∷ take n c.mirror_of-m.result.bytes ++ take (15 - n) p) c.with_zeros.ensures
    ∙ ap₂ (λ (t : ℕ) (p : List ℕ). t ∷ p ++ take (15 - n) (a.padding ++ replicate 3 0)) c.picc_tag-tag.ensures (mirrors_front m)
    ∙ ap (λ i. picc_tag a.t.names a.t.counts ∷ mirrored_of a.t ++ take (15 - i) (a.padding ++ replicate 3 0)) m.count)
