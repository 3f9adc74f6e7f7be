use mathlib.Core.Path.{◌≡◌, ap, ◌∙◌}
use Prim.Native.Nat.{ℕ, ◌%◌}
use native.Mathlib.Omega.{arith}
use mathlib.Core.List.{[], ◌∷◌}
use Rattle.forms.proofs.Laying.{writes_none, writes_as}
use Rattle.base.proofs.Bytes.{tests}
use Rattle.forms.specs.Forms.{shown_as}
use Rattle.lines.specs.Hex.{char_of}
use Rattle.forms.proofs.page.Page.shown.Goals as goal

last_of : (v : ℕ) → v % 16 % 16 ≡ v % 16
last_of v = omega arith

pub returns-in-35 : goal.returns-in-35
unfolding shown_as
returns-in-35 c = writes_as c.decimal.ensures (grind (arith, tests))

pub returns-in-37 : goal.returns-in-37
unfolding shown_as
returns-in-37 c = writes_as c.append.ensures (ap (λ x. x ∷ []) (c.character.ensures ∙ ap char_of (last_of c.args.v)) ∙ grind (arith, tests))

pub returns-in-123 : goal.returns-in-123
unfolding shown_as
returns-in-123 c = writes_as (writes_none _) (grind (arith, tests))

pub returns-in_default : goal.returns-in_default
unfolding shown_as
returns-in_default c = writes_as c.append-in_default.ensures (grind (arith, tests))
