use mathlib.Core.Path.{refl, ap, ◌∙◌}
use Rattle.base.specs.Bytes.{same}
use Rattle.telling.proofs.Naming.{front_of}
use Rattle.telling.proofs.names.has_key.Goals as goal

pub returns : goal.returns
returns c =
    let front = ap (λ x. x.now) c.unwrap_or.ensures ∙ front_of c.args.line.now 4 _ _ c.get.ensures.lookup refl in
    c.alike.ensures ∙ ap (λ x. same x c.args.key.now) front
