use Rattle.std.proofs.Common.{arith, ◌≤◌, sym, length}
use Rattle.normalising.proofs.Normals.{laid-normal}
use Rattle.change_settings.proofs.Changes.{good-changes, bad_changes}
use Rattle.change_settings.proofs.change_settings.Goals as goal

pub overflow_cast-length : goal.overflow_cast-length
overflow_cast-length c =
    let h = laid-normal _ _ _ _ _ (sym c.in-Ok.ensures.answer) c.in-Ok.ensures.left in
    let z : length c.args.p.now ≤ 27 = h.fits in
    omega (arith, h.len)

pub returns-in-Ok : goal.returns-in-Ok
returns-in-Ok c =
    good-changes _ _ _ _ _ _ _ _ _ _ _ _
    (laid-normal _ _ _ _ _ (sym c.in-Ok.ensures.answer) c.in-Ok.ensures.left)
    c.with_rules-files.ensures
    c.sdm_on.ensures
    c.restring-changed.ensures
    c.empty.ensures.text
    c.accept.ensures

pub returns-in-Err : goal.returns-in-Err
returns-in-Err c = bad_changes _ _ _ _ _ _ _ _ c.in-Err.ensures.answer c.refusal_of.ensures c.refuse.ensures
