-- `taps::taps::give_part` meets its contract.
use mathlib.Core.Path.{◌≡◌}
use lib.ListN.{length}
use Rattle.replies.proofs.Equal.{gives_as}
use Rattle.taps.proofs.Giving.{part-given_of}
use borrow.Author.Rules.{rules}
use Rattle.taps.proofs.taps.give_part.Goals as goal

pub returns : goal.returns
returns c =
    let a = c.args in
    let x = c.tap_text-shown in
    let o = x.type_inv in
    let l : length x.result.bytes ≡ 256 = search rules in
    gives_as c.give.ensures (part-given_of a.tag a.r a.iso a.at a.count _ x.result _ c.accepting.ensures x.ensures l c.cut-part.ensures.text)
