use Rattle.turns.proofs.Acting.{played_is}
use lib.ListN.{length, length-take}
use native.Mathlib.Omega.{arith}
use mathlib.Core.Path.{◌≡◌}
use borrow.Author.Rules.{rules}
use Rattle.turns.proofs.play.Goals as goal

pub slice_bounds-told-end : goal.slice_bounds-told-end
slice_bounds-told-end c =
    let k : length c.call-d.new.room ≡ 258 = search rules in
    simp length-take (omega (arith, c.call-d.ensures.short))

pub returns : goal.returns
returns c =
    let a = c.args in
    let d = c.call-d in
    played_is a.tag a.command.now a.random.now a.expected.now d.result d.new.room _ _ d.ensures.told d.ensures.left
    c.told-went.ensures c.noted-why.ensures
