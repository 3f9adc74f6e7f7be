-- `sdm::codes::mirror_of` meets its contract: two pieces over zeros.
use Rattle.sdm.proofs.Mirroring.{pick_le, mirrors}
use Rattle.sdm.specs.Tap.{mirrored}
use lib.ListN.{length}
use native.Mathlib.Omega.{arith}
use mathlib.Core.Path.{◌≡◌}
use borrow.Author.Rules.{rules}
use Rattle.sdm.proofs.codes.mirror_of.Goals as goal

pub overflow_add-result : goal.overflow_add-result
overflow_add-result c = omega (arith, c.where_there-i.ensures, pick_le c.args.t.names 7, c.where_there-j.ensures, pick_le c.args.t.counts 3)

pub returns : goal.returns
unfolding mirrored
returns c =
    let a = c.args.t in
    let l : length a.uid ≡ 7 = search rules in
    let m : length c.three-low.result ≡ 3 = search rules in
    rw (← c.three-low.ensures) (mirrors a.uid c.three-low.result _ _ a.names a.counts c.where_there-i.result c.where_there-j.result l m
    c.where_there-i.ensures c.where_there-j.ensures c.put.ensures c.put-2.ensures)
