-- `rehearse::play_target` meets its contract.
use Prim.Native.Nat.{◌≤◌}
use mathlib.Core.Path.{◌≡◌}
use lib.ListN.{length, replicate, length-take}
use native.Mathlib.Omega.{arith}
use Rattle.arguments.proofs.NewName.{beside_fits}
use borrow.Author.Rules.{rules}
use Rattle.rehearse.proofs.play_target.Goals as goal

pub slice_bounds-name-end : goal.slice_bounds-name-end
slice_bounds-name-end g c =
    let h : c.in-Some.n ≤ 4096 = beside_fits c.args.path.now (replicate 4096 0) c.in-Some.n c.in-Some.ensures.count in
    let k : length c.beside.new.room ≡ 4096 = search rules in
    omega arith

pub slice_bounds-hold-end : goal.slice_bounds-hold-end
slice_bounds-hold-end g c =
    let h : c.in-Some.n ≤ 4096 = beside_fits c.args.path.now (replicate 4096 0) c.in-Some.n c.in-Some.ensures.count in
    let k : length c.beside.new.room ≡ 4096 = search rules in
    simp length-take (omega arith)

pub slice_bounds-name-end-in-Some-hold : goal.slice_bounds-name-end-in-Some-hold
slice_bounds-name-end-in-Some-hold g c =
    let h : c.in-Some.n ≤ 4096 = beside_fits c.args.path.now (replicate 4096 0) c.in-Some.n c.in-Some.ensures.count in
    let k : length c.beside.new.room ≡ 4096 = search rules in
    omega arith

pub slice_bounds-play_held-end : goal.slice_bounds-play_held-end
slice_bounds-play_held-end g c =
    let h : c.in-Some.n ≤ 4096 = beside_fits c.args.path.now (replicate 4096 0) c.in-Some.n c.in-Some.ensures.count in
    let k : length c.beside.new.room ≡ 4096 = search rules in
    simp length-take (omega arith)
