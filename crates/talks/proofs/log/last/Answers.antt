use mathlib.Core.Path.{◌≡◌, sym, ap, ◌∙◌}
use native.Mathlib.Omega.{arith}
use lib.ListN.{length}
use lib.Seq.{take_all}
use Rattle.talks.specs.Log.{trimmed}
use Rattle.talks.proofs.Walking.{last-solid, last-blank, last_none}
use Rattle.talks.proofs.log.last.Goals as goal

pub loop-n-init : goal.loop-n-init
loop-n-init c = (omega arith, ap trimmed (take_all (length c.args.text.now) c.args.text.now (omega arith)))

pub loop-n-preserved : goal.loop-n-preserved
loop-n-preserved c =
    let s = c.args.text.now in
    let i = c.loop-n in
    (omega arith, sym (last-blank s i.n c.loop-n-test.true i.invariant.0 (sym c.solid.ensures ∙ c.if-not-solid.true)) ∙ i.invariant.1)

pub returns-else-not-solid : goal.returns-else-not-solid
returns-else-not-solid c =
    let s = c.args.text.now in
    let i = c.loop-n in
    sym (last-solid s i.n c.loop-n-test.true i.invariant.0 (sym c.solid.ensures ∙ c.if-not-solid.false)) ∙ i.invariant.1

pub returns-after-loop-n : goal.returns-after-loop-n
returns-after-loop-n c =
    let i = c.loop-n in
    let z : i.n ≡ 0 = omega arith in
    z ∙ sym (last_none c.args.text.now i.n c.loop-n-test.false) ∙ i.invariant.1
