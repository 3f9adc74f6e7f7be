use mathlib.Core.Path.{◌≡◌}
use lib.ListN.{length, drop}
use Prim.Native.Nat.{◌≤◌}
use Rattle.forms.specs.Forms.{digits_before, decimal_of}
use Rattle.forms.proofs.form.digits.Given as goal

abbrev pub invariant-loop-i : goal.invariant-loop-i
invariant-loop-i l = (length l.d ≡ 20) × (l.i ≤ 19) × (digits_before l.i l.rest (drop l.i l.d) ≡ decimal_of l.v)

abbrev pub decreases-loop-i : goal.decreases-loop-i
decreases-loop-i l = l.i
