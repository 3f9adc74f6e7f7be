use mathlib.Core.Path.{sym, ap, ◌∙◌}
use native.Mathlib.Omega.{arith}
use lib.ListN.{take}
use lib.Seq.{length-take-le}
use Rattle.talks.specs.Log.{without_return, field_in}
use Rattle.talks.proofs.Reading.{counted_within}
use Rattle.talks.proofs.log.of_line.Goals as goal

pub slice_bounds-of_digits-end : goal.slice_bounds-of_digits-end
slice_bounds-of_digits-end c =
    let s = c.args.line.now in
    let w = counted_within s in
    sym (length-take-le c.counted.result s (omega (arith, c.counted.ensures)))

pub returns : goal.returns
unfolding without_return
returns c = c.of_digits.ensures ∙ ap (λ k. field_in (take k c.args.line.now)) c.counted.ensures
