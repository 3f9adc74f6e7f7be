-- `first_lines::heading::first_line` meets its contract.
use Rattle.first_lines.proofs.Begins.{line_end, line_silent, line_here}
use Rattle.first_lines.specs.Begins.{line_from, first_line_of}
use Rattle.lines.proofs.Steps.{seek-from, seek_within}
use lib.ListN.{length}
use Prim.Native.Nat.{suc, ◌+◌, ◌-◌}
use native.Mathlib.Omega.{arith}
use mathlib.Core.Path.{◌≡◌, sym, ap, ◌∙◌}
use Rattle.first_lines.proofs.heading.first_line.Goals as goal

pub loop-at-init : goal.loop-at-init
loop-at-init c =
    let x = c.args.text.now in
    let e : length x + 1 - 1 ≡ length x = omega arith in
    (omega arith, omega arith, ap (λ k. line_from k x c.mark-at.result 1) e)

pub slice_bounds-silent-count : goal.slice_bounds-silent-count
slice_bounds-silent-count c =
    let x = c.args.text.now in
    let f = seek-from x c.loop-at.at 10 in
    let g = seek_within x c.loop-at.at 10 (omega (arith, c.loop-at-test.true)) in
    omega (arith, c.find-end.ensures)

pub slice_bounds-silent-start : goal.slice_bounds-silent-start
slice_bounds-silent-start c =
    let x = c.args.text.now in
    let f = seek-from x c.loop-at.at 10 in
    let g = seek_within x c.loop-at.at 10 (omega (arith, c.loop-at-test.true)) in
    omega (arith, c.find-end.ensures)

pub slice_bounds-silent-end : goal.slice_bounds-silent-end
slice_bounds-silent-end c =
    let x = c.args.text.now in
    let f = seek-from x c.loop-at.at 10 in
    let g = seek_within x c.loop-at.at 10 (omega (arith, c.loop-at-test.true)) in
    omega (arith, c.find-end.ensures)

pub overflow_add-number : goal.overflow_add-number
overflow_add-number c =
    let x = c.args.text.now in
    let f = seek-from x c.loop-at.at 10 in
    let g = seek_within x c.loop-at.at 10 (omega (arith, c.loop-at-test.true)) in
    omega (arith, c.find-end.ensures)

pub overflow_add-at : goal.overflow_add-at
overflow_add-at c =
    let x = c.args.text.now in
    let f = seek-from x c.loop-at.at 10 in
    let g = seek_within x c.loop-at.at 10 (omega (arith, c.loop-at-test.true)) in
    omega (arith, c.find-end.ensures)

pub loop-at-smaller : goal.loop-at-smaller
loop-at-smaller c =
    let x = c.args.text.now in
    let f = seek-from x c.loop-at.at 10 in
    let g = seek_within x c.loop-at.at 10 (omega (arith, c.loop-at-test.true)) in
    omega (arith, c.find-end.ensures)

pub loop-at-preserved : goal.loop-at-preserved
loop-at-preserved c =
    let x = c.args.text.now in
    let f = seek-from x c.loop-at.at 10 in
    let g = seek_within x c.loop-at.at 10 (omega (arith, c.loop-at-test.true)) in
    let e : length x + 1 - c.loop-at.number ≡ suc
    (length x - c.loop-at.number) =
    omega (
      arith,
      c.loop-at.invariant.0,
      c.loop-at-test.true,
    ) in
    let d : length x + 1 - (c.loop-at.number + 1) ≡ length x - c.loop-at.number = omega arith in (
      omega (arith, c.find-end.ensures, c.loop-at.invariant.0),
      omega (arith, c.loop-at.invariant.0, c.loop-at-test.true),
      ap (λ k. line_from k x (c.find-end.result + 1) (c.loop-at.number + 1)) d
          ∙ sym (line_silent (length x - c.loop-at.number) x
          c.loop-at.at c.find-end.result
          c.loop-at.number c.loop-at-test.true
          c.find-end.ensures (sym c.silent.ensures ∙ c.if-not-silent.false))
          ∙ ap (λ k. line_from k x c.loop-at.at c.loop-at.number) (sym e)
          ∙ c.loop-at.invariant.2,
    )

pub returns-then-not-silent : goal.returns-then-not-silent
unfolding first_line_of
returns-then-not-silent c =
    let x = c.args.text.now in
    let f = seek-from x c.loop-at.at 10 in
    let g = seek_within x c.loop-at.at 10 (omega (arith, c.loop-at-test.true)) in
    let e : length x + 1 - c.loop-at.number ≡ suc
    (length x - c.loop-at.number) =
    omega (
      arith,
      c.loop-at.invariant.0,
      c.loop-at-test.true,
    ) in
    record {
      told =
          sym (line_here (length x - c.loop-at.number) x
          c.loop-at.at c.find-end.result
          c.loop-at.number c.loop-at-test.true
          c.find-end.ensures (sym c.silent.ensures ∙ c.if-not-silent.true))
          ∙ ap (λ k. line_from k x c.loop-at.at c.loop-at.number) (sym e)
          ∙ c.loop-at.invariant.2
          ∙ ap (λ m. line_from (length x) x m 1) c.mark-at.ensures;
      order = omega (arith, c.find-end.ensures);
      inside = omega (arith, c.find-end.ensures);
      counted = omega (arith, c.find-end.ensures, c.loop-at.invariant.0);
    }

pub returns : goal.returns
unfolding first_line_of
returns c =
    let x = c.args.text.now in record {
      told = sym (line_end (length x + 1 - c.loop-at.number) x c.loop-at.at c.loop-at.number c.loop-at-test.false)
          ∙ c.loop-at.invariant.2
          ∙ ap (λ m. line_from (length x) x m 1) c.mark-at.ensures;
      order = omega arith;
      inside = omega arith;
      counted = omega (arith, c.loop-at.invariant.1);
    }
