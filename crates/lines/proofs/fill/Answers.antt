use mathlib.Core.Path.{refl, sym, ap, ◌∙◌}
use Prim.Native.Nat.{◌*◌}
use native.Mathlib.Omega.{arith}
use lib.ListN.{length-set}
use Rattle.lines.proofs.Steps.{filled, filled_all}
use Rattle.lines.proofs.fill.Goals as goal

pub loop-i-preserved : goal.loop-i-preserved
loop-i-preserved c = (
  c.loop-i.invariant.0 ∙ ap (λ n. n * 2) (sym (length-set c.loop-i.room c.loop-i.i c.byte.result)),
  filled c.args.text.now c.loop-i.room c.loop-i.i c.byte.result (omega arith) (omega arith) c.byte.ensures ∙ c.loop-i.invariant.1,
)

pub returns : goal.returns
returns c = sym (filled_all c.args.text.now c.loop-i.room c.loop-i.i (omega arith) (omega arith)) ∙ c.loop-i.invariant.1
