-- `keeping::kept` meets its contract.
use mathlib.Core.Path.{◌≡◌, refl, sym, ◌∙◌}
use mathlib.Core.Bool.{Bool, true, false, not}
use Rattle.base.proofs.Bytes.{pointwise-same}
use Rattle.keeping.proofs.Keeping.{keeps_earlier, keeps_none, keeps_unsound, keeps_other, keeps_tag}
use Rattle.keeping.proofs.kept.Goals as goal

not_true : (b : Bool) → true ≡ not b → b ≡ false
not_true true e = e
not_true false e = refl

not_false : (b : Bool) → false ≡ not b → b ≡ true
not_false true e = refl
not_false false e = e

pub returns-then-is_earlier : goal.returns-then-is_earlier
returns-then-is_earlier c = keeps_earlier _ _ _ (sym c.is_earlier.ensures ∙ c.if-is_earlier.true) cc

pub returns-in_err-tag : goal.returns-in_err-tag
returns-in_err-tag c = keeps_none _ _ _ _ (sym c.if-is_earlier.false ∙ c.is_earlier.ensures) c.in_err-tag.ensures.told c.from_residual.ensures.1

pub returns-then-not-sound : goal.returns-then-not-sound
returns-then-not-sound c =
    let told = c.in_ok-tag.ensures.told in
    keeps_unsound _ _ c.in_ok-tag.tag (sym c.if-is_earlier.false ∙ c.is_earlier.ensures) told _ (sym c.sound.ensures ∙ c.if-not-sound.true) cc

pub returns-then-ne : goal.returns-then-ne
returns-then-ne c =
    let uid = c.args.uid.now in
    let t = c.in_ok-tag.tag in
    keeps_other _ uid t (sym c.if-is_earlier.false ∙ c.is_earlier.ensures) c.in_ok-tag.ensures.told _ (sym c.sound.ensures ∙ c.if-not-sound.false)
    (sym (pointwise-same uid t.uid) ∙ not_true _ (sym c.if-ne.true ∙ c.ne.ensures)) cc

pub returns : goal.returns
returns c =
    let uid = c.args.uid.now in
    let t = c.in_ok-tag.tag in
    keeps_tag _ uid t (sym c.if-is_earlier.false ∙ c.is_earlier.ensures) c.in_ok-tag.ensures.told (sym c.sound.ensures ∙ c.if-not-sound.false)
    (sym (pointwise-same uid t.uid) ∙ not_false _ (sym c.if-ne.false ∙ c.ne.ensures))
