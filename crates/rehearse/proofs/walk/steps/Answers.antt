-- `rehearse::walk::steps` meets its contract.
use Rattle.rehearse.proofs.Walking.{walked_end, walked_line}
use Rattle.rehearse.specs.Counts.{Walked}
use Rattle.tallies.specs.declared.Tally.{Tally}
use Rattle.rehearse.specs.declared.walk.Rehearsal.{Rehearsal}
use Rattle.lines.proofs.Steps.{seek-from, seek_within}
use lib.ListN.{length, drop}
use Prim.Native.Nat.{suc, ◌+◌, ◌-◌}
use native.Mathlib.Omega.{arith}
use mathlib.Core.Path.{◌≡◌, subst}
use Rattle.rehearse.proofs.walk.steps.Goals as goal

pub loop-at-init : goal.loop-at-init
loop-at-init g c =
    let a = c.args in
    let x = a.text.now in
    let n = c.none-n.result in
    let e : length x - (a.number - a.number) ≡ length x = omega arith in (
      omega arith,
      omega arith,
      c.requires,
      λ r w. subst (λ k. Walked k a.number (drop a.from x) a.tag n r) e w,
    )

pub overflow_add-at : goal.overflow_add-at
overflow_add-at g c =
    let x = c.args.text.now in
    let e = seek-from x c.loop-at.at 10 in
    let f = seek_within x c.loop-at.at 10 (omega (arith, c.loop-at-test.true)) in
    omega (arith, c.find-end.ensures)

pub overflow_add-line : goal.overflow_add-line
overflow_add-line g c =
    let x = c.args.text.now in
    let e = seek-from x c.loop-at.at 10 in
    let f = seek_within x c.loop-at.at 10 (omega (arith, c.loop-at-test.true)) in
    omega (arith, c.find-end.ensures)

pub slice_bounds-step-count : goal.slice_bounds-step-count
slice_bounds-step-count g c =
    let x = c.args.text.now in
    let e = seek-from x c.loop-at.at 10 in
    let f = seek_within x c.loop-at.at 10 (omega (arith, c.loop-at-test.true)) in
    omega (arith, c.find-end.ensures)

pub slice_bounds-step-start : goal.slice_bounds-step-start
slice_bounds-step-start g c =
    let x = c.args.text.now in
    let e = seek-from x c.loop-at.at 10 in
    let f = seek_within x c.loop-at.at 10 (omega (arith, c.loop-at-test.true)) in
    omega (arith, c.find-end.ensures)

pub slice_bounds-step-end : goal.slice_bounds-step-end
slice_bounds-step-end g c =
    let x = c.args.text.now in
    let e = seek-from x c.loop-at.at 10 in
    let f = seek_within x c.loop-at.at 10 (omega (arith, c.loop-at-test.true)) in
    omega (arith, c.find-end.ensures)

pub loop-at-smaller : goal.loop-at-smaller
loop-at-smaller g c =
    let x = c.args.text.now in
    let e = seek-from x c.loop-at.at 10 in
    let f = seek_within x c.loop-at.at 10 (omega (arith, c.loop-at-test.true)) in
    omega (arith, c.find-end.ensures)

pub loop-at-preserved : goal.loop-at-preserved
loop-at-preserved g c =
    let x = c.args.text.now in
    let e = seek-from x c.loop-at.at 10 in
    let f = seek_within x c.loop-at.at 10 (omega (arith, c.loop-at-test.true)) in
    let l = c.loop-at in
    let p = c.args.number in
    let s = c.step-w in
    let q = c.counted-n in
    let n = l.n in
    let m : suc (length x - (l.line + 1 - p)) ≡ length x - (l.line - p) = omega (arith, l.invariant.0, l.invariant.1, c.loop-at-test.true) in (
      omega (arith, l.invariant.0),
      omega (arith, c.find-end.ensures, l.invariant.1),
      omega (arith, c.find-end.ensures, l.invariant.2),
      λ r w. l.invariant.3 r
          (subst (λ k. Walked k l.line (drop l.at x) l.t n r) m
          (walked_line (length x - (l.line + 1 - p)) l.line x l.at c.find-end.result
          l.t n s.result r c.loop-at-test.true
          c.find-end.ensures
          s.ensures
          (subst (λ (k : Tally). Walked (length x - (l.line + 1 - p)) (l.line + 1) (drop (c.find-end.result + 1) x) s.result.tag k r) q.ensures w))),
    )

pub returns : goal.returns
returns g c =
    let a = c.args in
    let x = a.text.now in
    let l = c.loop-at in
    let q : Rehearsal = record { tag = l.t; tally = l.n } in
    let w = walked_end (length x - (l.line - a.number)) l.line x l.at l.t l.n c.loop-at-test.false in
    subst (λ (k : Tally). Walked (length x) a.number (drop a.from x) a.tag k q) c.none-n.ensures (l.invariant.3 q w)
