-- A good string's normal form. It stands in a file of its own: an edit that must fail changes the statement of `normal_twice`, and the file that it changes has
-- nothing that rests on that.
use mathlib.Core.Path.{◌≡◌, ◌∙◌}
use mathlib.Core.List.{List}
use Prim.Native.Nat.{ℕ}
use Rattle.std.specs.Prelude.{Ok}
use Rattle.fields.specs.Normal.{normal}
use Rattle.settings.specs.Answers.{judged}
use Rattle.meanings.proofs.NormalForm.{normal_twice, normal-judged}

-- A normal form is good and its own normal form
pub normal-good : (n : ℕ) (s : List ℕ) → judged n s ≡ Ok tt → (judged n (normal s) ≡ Ok tt) × (normal (normal s) ≡ normal s)
normal-good n s e = (normal-judged n s ∙ e, normal_twice s)
