-- An answer that is equal.
use mathlib.Core.Path.{◌≡◌, subst}
use Rattle.replies.specs.declared.Done.{Done}
use Rattle.replies.specs.Answer.{Answer, Gives}

pub gives_as : {a b : Answer} {r : Done} → Gives a r → a ≡ b → Gives b r
gives_as {r = r} g e = subst (λ x. Gives x r) e g
