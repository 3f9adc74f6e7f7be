-- `storing::parts::tap_bytes` meets its contract.
use mathlib.Core.List.{[], ◌∷◌}
use mathlib.Core.Path.{◌≡◌, refl, ap, ◌∙◌}
use lib.ListN.{length, replicate}
use Rattle.base.proofs.Numbers.{low-length}
use Rattle.storing.proofs.Little.{little_4, flag_of}
use Rattle.base.specs.Bytes.{laid, low}
use Rattle.image.specs.Image.{tap_pieces, flag_byte}
use Rattle.image.proofs.Pieces.{laid_all}
use borrow.Author.Rules.{rules}
use Rattle.storing.proofs.parts.tap_bytes.Goals as goal

pub returns : goal.returns
returns c =
    let t = c.args.t in
    let h : length t.padding ≡ 12 = search rules in
    let head : c.from.result ∷ c.from-2.result ∷ [] ≡ flag_byte t.on ∷ flag_byte t.iso ∷ [] = λ i. flag_of t.on _ c.from.ensures i ∷ flag_of t.iso _ c.from-2.ensures i ∷ [] in
    let count = c.to_le_bytes.ensures ∙ little_4 t.counter in
    (c.put-3.ensures ∙ ap (λ s. laid t.padding 6 s) (c.put-2.ensures
    ∙ (λ i. laid (count i) 2 (c.put.ensures i)) ∙ ap (λ x. laid (low 4 t.counter) 2 (laid x 0 (replicate 18 0))) head))
    ∙ laid_all (2 ∷ 4 ∷ 12 ∷ []) (tap_pieces t) (replicate 18 0) (λ i. 2 ∷ low-length 4 t.counter i ∷ h i ∷ []) refl
