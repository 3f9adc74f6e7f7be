-- `telling::names::look_up` meets its contract.
use mathlib.Core.Path.{refl, sym, ◌∙◌}
use native.Mathlib.Omega.{arith}
use Rattle.forms.proofs.Laying.{writes_as, writes_in}
use Rattle.lines.proofs.Steps.{seek-from, seek_within}
use Rattle.telling.proofs.Naming.{row_here, row_next, row_none}
use Rattle.telling.proofs.names.look_up.Goals as goal

pub loop-at-init : goal.loop-at-init
loop-at-init c = (refl, refl)

pub overflow_add-at : goal.overflow_add-at
overflow_add-at c =
    let x = c.args.table.now in let e = seek-from x c.loop-at.at
    10 in let f = seek_within x c.loop-at.at 10 (omega (arith, c.loop-at-test.true)) in omega (arith, c.find-end.ensures)

pub slice_bounds-has_key-count : goal.slice_bounds-has_key-count
slice_bounds-has_key-count c = let x = c.args.table.now in let e = seek-from x c.loop-at.at 10 in let f = seek_within x c.loop-at.at 10 (omega (arith, c.loop-at-test.true)) in omega (arith, c.find-end.ensures)

pub slice_bounds-has_key-start : goal.slice_bounds-has_key-start
slice_bounds-has_key-start c =
    let x = c.args.table.now in let e = seek-from x c.loop-at.at 10 in let f = seek_within x c.loop-at.at 10 (omega (arith, c.loop-at-test.true)) in omega (
      arith,
      c.find-end.ensures,
    )

pub slice_bounds-has_key-end : goal.slice_bounds-has_key-end
slice_bounds-has_key-end c =
    let x = c.args.table.now in let e = seek-from x c.loop-at.at 10 in let f = seek_within x c.loop-at.at 10 (omega (arith, c.loop-at-test.true)) in omega (
      arith,
      c.find-end.ensures,
    )

pub slice_bounds-append_from-count : goal.slice_bounds-append_from-count
slice_bounds-append_from-count c =
    let loop = c.loop-at in
    let x = c.args.table.now in let e = seek-from x loop.at 10
    in let f = seek_within x loop.at 10 (omega (arith, c.loop-at-test.true)) in omega (
      arith,
      c.find-end.ensures,
    )

pub slice_bounds-append_from-start : goal.slice_bounds-append_from-start
slice_bounds-append_from-start c =
    let loop = c.loop-at in
    let x = c.args.table.now in let e = seek-from x loop.at 10
    in let f = seek_within x loop.at 10 (omega (arith, c.loop-at-test.true)) in omega (
      arith,
      c.find-end.ensures,
    )

pub slice_bounds-append_from-end : goal.slice_bounds-append_from-end
slice_bounds-append_from-end c =
    let loop = c.loop-at in
    let x = c.args.table.now in let e = seek-from x loop.at 10
    in let f = seek_within x loop.at 10 (omega (arith, c.loop-at-test.true)) in omega (
      arith,
      c.find-end.ensures,
    )

pub returns-then-has_key : goal.returns-then-has_key
returns-then-has_key c =
    let loop = c.loop-at in
    let a = c.args in
    let t = sym (row_here a.table.now a.key.now a.other.now loop.at _ c.loop-at-test.true c.find-end.ensures (sym c.has_key.ensures ∙ c.if-has_key.true)) ∙ loop.invariant.1 in
    writes_in (writes_as c.append_from.ensures t) loop.invariant.0

pub loop-at-smaller : goal.loop-at-smaller
loop-at-smaller c =
    let loop = c.loop-at in
    let x = c.args.table.now in let e = seek-from x loop.at 10
    in let f = seek_within x loop.at 10 (omega (arith, c.loop-at-test.true)) in omega (
      arith,
      c.find-end.ensures,
    )

pub loop-at-preserved : goal.loop-at-preserved
loop-at-preserved c =
    let loop = c.loop-at in
    let a = c.args in (
      loop.invariant.0,
      sym (row_next a.table.now a.key.now a.other.now loop.at _ c.loop-at-test.true c.find-end.ensures (sym c.has_key.ensures ∙ c.if-has_key.false)) ∙ loop.invariant.1,
    )

pub returns : goal.returns
returns c =
    let loop = c.loop-at in
    let a = c.args in
    let t = sym (row_none a.table.now a.key.now a.other.now loop.at c.loop-at-test.false) ∙ loop.invariant.1 in
    writes_in (writes_as c.append.ensures t) loop.invariant.0
