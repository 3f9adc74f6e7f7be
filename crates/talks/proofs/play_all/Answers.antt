-- `talks::play_all` is safe and ends: each turn passes a line, and no more exchanges are counted than bytes passed.
use mathlib.Core.Path.{◌≡◌}
use mathlib.Core.Bool.{Bool, true, false}
use Rattle.std.specs.Int.{from_bool}
use Prim.Native.Nat.{ℕ, ◌≤◌}
use native.Mathlib.Omega.{arith}
use Rattle.talks.proofs.Walking.{next_within, after_within, after_on, inside}
use Rattle.talks.proofs.play_all.Goals as goal

-- an exchange counts one at most
one_or_none : (k : ℕ) (b : Bool) → k ≡ from_bool b → k ≤ 1
one_or_none k true e = omega arith
one_or_none k false e = omega arith

pub loop-at-init : goal.loop-at-init
loop-at-init g c =
    let w = next_within c.args.text.now 0 in
    (omega arith, omega arith, omega (arith, c.next-at.ensures))

pub overflow_add-number : goal.overflow_add-number
overflow_add-number g c =
    let s = c.args.text.now in
    let e = c.last-last in
    let l = inside s c.loop-at.at e.result e.ensures c.loop-at-test.true in
    omega (arith, c.loop-at.invariant.0)

pub run-played-requires : goal.run-played-requires
run-played-requires g c =
    let s = c.args.text.now in
    let e = c.last-last in
    let l = inside s c.loop-at.at e.result e.ensures c.loop-at-test.true in
    (omega arith, omega (arith, c.loop-at.invariant.0, c.requires))

pub overflow_add-differ : goal.overflow_add-differ
overflow_add-differ g c =
    let s = c.args.text.now in
    let e = c.last-last in
    let i = c.loop-at in
    let l = inside s i.at e.result e.ensures c.loop-at-test.true in
    omega (arith, i.invariant.0, i.invariant.1, one_or_none _ c.run-played.result.differs c.from-differ.ensures)

pub loop-at-smaller : goal.loop-at-smaller
loop-at-smaller g c =
    let s = c.args.text.now in
    let e = c.last-last in
    let i = c.loop-at in
    let l = inside s i.at e.result e.ensures c.loop-at-test.true in
    let o = after_on s i.at l in
    omega (arith, c.after-at.ensures)

pub loop-at-preserved : goal.loop-at-preserved
loop-at-preserved g c =
    let s = c.args.text.now in
    let e = c.last-last in
    let i = c.loop-at in
    let l = inside s i.at e.result e.ensures c.loop-at-test.true in
    let o = after_on s i.at l in
    let w = after_within s i.at in
    (omega (arith, c.after-at.ensures, i.invariant.0), omega (arith, one_or_none _ c.run-played.result.differs c.from-differ.ensures, i.invariant.1), omega (arith, c.after-at.ensures))
