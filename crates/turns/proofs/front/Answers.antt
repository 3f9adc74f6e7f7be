use mathlib.Core.Path.{refl, ap, ◌∙◌}
use Rattle.telling.proofs.Naming.{front_of}
use Rattle.turns.specs.Acts.{played_as}
use Rattle.turns.proofs.front.Goals as goal

pub returns : goal.returns
returns c =
    let a = c.args in
    let front = ap (λ x. x.now) c.unwrap_or.ensures ∙ front_of a.c.now a.n _ _ c.get.ensures.lookup refl in
    c.play.ensures ∙ ap (λ x. played_as a.tag x a.x.now a.e.now) front
