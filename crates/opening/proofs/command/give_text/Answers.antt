-- What unpadding says, given.
use Rattle.std.proofs.Common.{sym, ◌∙◌}
use native.Mathlib.Omega.{arith}
use lib.Seq.{length-take-le}
use Rattle.padding.proofs.Unpadding.{unpad-below}
use Rattle.opening.proofs.command.give_text.Goals as goal

pub slice_bounds-give-end : goal.slice_bounds-give-end
slice_bounds-give-end c =
    let s = c.args.s.now in
    let n = c.in-Some.n in
    sym (length-take-le n s (omega (arith, unpad-below s n (sym c.unpad.ensures.told ∙ c.in-Some.is))))
