-- `storing::parts::joined` meets its contract.
use mathlib.Core.List.{[], ◌∷◌}
use mathlib.Core.Path.{sym, ap, ◌∙◌}
use Rattle.base.specs.Bytes.{laid}
use Rattle.image.specs.Image.{image_version}
use Rattle.image.proofs.Pieces.{laid_all}
use Rattle.storing.proofs.parts.joined.Goals as goal

pub returns : goal.returns
returns c =
    let a = c.args in
    let h = c.requires in
    (c.put-8.ensures
    ∙ ap (λ x. laid a.tap.now 666 x) (c.put-7.ensures
    ∙ ap (λ x. laid a.place.now 664 x) (c.put-6.ensures
    ∙ ap (λ x. laid a.pending.now 633 x) (c.put-5.ensures
    ∙ ap (λ x. laid a.live.now 593 x) (c.put-4.ensures
    ∙ ap (λ x. laid a.secrets.now 508 x) (c.put-3.ensures
    ∙ ap (λ x. laid a.files.now 8 x) (c.put-2.ensures
    ∙ ap (λ x. laid a.uid.now 1 x) c.put.ensures)))))))
    ∙ laid_all (1 ∷ 7 ∷ 500 ∷ 85 ∷ 40 ∷ 31 ∷ 2 ∷ 18 ∷ [])
    ((image_version ∷ []) ∷ a.uid.now ∷ a.files.now ∷ a.secrets.now ∷ a.live.now ∷ a.pending.now ∷ a.place.now ∷ a.tap.now ∷ [])
    a.s.now
    (λ i. 1 ∷ h.0 i ∷ h.1 i ∷ h.2 i ∷ h.3 i ∷ h.4 i ∷ h.5 i ∷ h.6 i ∷ [])
    (sym h.7)
