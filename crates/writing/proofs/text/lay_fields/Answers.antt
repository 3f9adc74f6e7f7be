use Rattle.std.proofs.Common.{rules, arith, ◌≡◌, length}
use Rattle.writing.proofs.Laying.{still_all, still_more, still_none, eight_small}
use Rattle.writing.proofs.text.lay_fields.Goals as goal

pub loop-i-init : goal.loop-i-init
loop-i-init c = still_all _ _ _

pub lay_field-at-requires : goal.lay_field-at-requires
lay_field-at-requires c =
    let s = c.loop-i.invariant in
    (omega (arith, s.place), omega (arith, s.long, c.requires))

pub loop-i-preserved : goal.loop-i-preserved
loop-i-preserved c =
    let ps = c.args.there in
    let l : length ps ≡ 8 = search rules in
    let m : length c.args.v ≡ 8 = search rules in
    let f = eight_small ps c.args.v l in
    let laid = c.lay_field-at.ensures in
    still_more c.loop-i.invariant (omega arith) (omega arith) (omega (arith, c.requires)) laid.place.0 laid.left

pub shape_of-room : goal.shape_of-room
shape_of-room c = c.loop-i.invariant.long

pub returns : goal.returns
returns c =
    let ps = c.args.there in
    let l : length ps ≡ 8 = search rules in
    let f = eight_small ps c.args.v l in
    let s = c.loop-i.invariant in
    let e = still_none s (omega arith) (omega (arith, s.place, s.long, c.requires)) in
    record { place = (e.0, omega (arith, e.0)); left = e.1 }
