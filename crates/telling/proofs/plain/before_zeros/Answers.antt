use mathlib.Core.Path.{refl, sym, ◌∙◌}
use native.Mathlib.Omega.{arith}
use Rattle.telling.proofs.Plainly.{zeros-step, zeros-here, zeros_none}
use Rattle.telling.proofs.plain.before_zeros.Goals as goal

pub loop-n-init : goal.loop-n-init
loop-n-init c = (omega arith, refl)

pub loop-n-preserved : goal.loop-n-preserved
loop-n-preserved c =
    let loop = c.loop-n in
    (omega arith, sym (zeros-step loop.n c.args.s.now c.loop-n-test.true c.if-s-n-eq0.true) ∙ loop.invariant.1)

pub returns-else-s-n-eq0 : goal.returns-else-s-n-eq0
returns-else-s-n-eq0 c =
    let loop = c.loop-n in
    record { fits = omega arith; told = sym (zeros-here loop.n c.args.s.now c.loop-n-test.true c.if-s-n-eq0.false) ∙ loop.invariant.1 }

pub returns-after-loop-n : goal.returns-after-loop-n
returns-after-loop-n c = record { fits = omega arith; told = sym (zeros_none c.loop-n.n c.args.s.now c.loop-n-test.false) ∙ c.loop-n.invariant.1 }
