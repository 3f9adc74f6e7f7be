use mathlib.Core.Path.{refl, sym, ◌∙◌}
use native.Mathlib.Omega.{arith}
use lib.ListN.{drop, length-set}
use Prim.Native.Nat.{◌-◌}
use Rattle.std.proofs.Common.{rules}
use Rattle.forms.proofs.Forming.{digits_more, digits_done, digits_full, digits_all}
use Rattle.forms.proofs.form.digits.Goals as goal

pub loop-i-init : goal.loop-i-init
loop-i-init c = (search rules, omega arith, digits_all c.args.v c.args.d.now _ (search rules) refl)

pub loop-i-preserved : goal.loop-i-preserved
loop-i-preserved c = (
  length-set c.loop-i.d (c.loop-i.i - 1) _ ∙ c.loop-i.invariant.0,
  omega arith,
  digits_more c.loop-i.i c.loop-i.rest _ c.loop-i.d c.loop-i-test.true (omega (arith, c.loop-i.invariant.0, c.loop-i.invariant.1)) c.if-rest-ne0.true refl
      ∙ c.loop-i.invariant.2,
)

pub returns-else-rest-ne0 : goal.returns-else-rest-ne0
returns-else-rest-ne0 c = record {
  fits = omega arith;
  told = sym (digits_done c.loop-i.i c.loop-i.rest (drop c.loop-i.i c.loop-i.d) c.if-rest-ne0.false) ∙ c.loop-i.invariant.2;
}

pub returns-after-loop-i : goal.returns-after-loop-i
returns-after-loop-i c = record {
  fits = omega arith;
  told = sym (digits_full c.loop-i.i c.loop-i.rest (drop c.loop-i.i c.loop-i.d) c.loop-i-test.false) ∙ c.loop-i.invariant.2;
}
