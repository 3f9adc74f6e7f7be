use lib.ListN.{drop}
use Prim.Native.Nat.{◌≤◌}
use Rattle.forms.proofs.Laying.{Going}
use mathlib.Core.Bool.{true}
use Rattle.forms.specs.Forms.{form_of}
use Rattle.forms.proofs.page.Page.append_form.Given as goal

abbrev pub invariant-loop-c : goal.invariant-loop-c
invariant-loop-c l = (l.k ≤ l.c-index) × (l.j ≤ l.c-index)
    × Going (form_of true l.form l.numbers l.flags) l.initial.self l.self
    (form_of l.on (drop l.c-index l.form) (drop l.k l.numbers) (drop l.j l.flags))
