use mathlib.Core.Path.{◌≡◌, sym}
use native.Mathlib.Omega.{arith}
use Prim.Native.Nat.{◌+◌, ◌-◌, ◌*◌}
use lib.ListN.{length}
use Rattle.mirror.proofs.Laying.{mirror_off, mirror_put}
use borrow.Author.Rules.{rules}
use Rattle.mirror.proofs.lay_hex.Goals as goal

pub overflow_add-e : goal.overflow_add-e
overflow_add-e c = let h = c.requires c.if-s.true in omega arith

pub slice_bounds-f-end : goal.slice_bounds-f-end
slice_bounds-f-end c =
    let a = c.args in
    let h = c.requires c.if-s.true in
    let l : length a.file ≡ 256 = search rules in
    omega arith

pub returns-then-s : goal.returns-then-s
returns-then-s c =
    let a = c.args in
    let h = c.requires c.if-s.true in
    let l : length a.file ≡ 256 = search rules in
    let n : a.s.start + length a.text.now * 2 - a.s.start ≡ length a.text.now * 2 = omega arith in
    mirror_put a.s a.text.now a.file c.encode.new.room _ c.if-s.true n (omega arith) c.encode.ensures

pub returns : goal.returns
returns c = let a = c.args in sym (mirror_off a.s a.text.now a.file c.if-s.false)
