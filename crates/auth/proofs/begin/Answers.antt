-- `auth::begin` meets its contract.
use mathlib.Core.Path.{◌≡◌, ap}
use native.Mathlib.Omega.{arith}
use lib.ListN.{length}
use Rattle.replies.proofs.Equal.{gives_as}
use Rattle.replies.proofs.Given.{room_whole}
use Rattle.auth.specs.Parts.{begun}
use borrow.Author.Rules.{rules}
use Rattle.auth.proofs.begin.Goals as goal

pub returns : goal.returns
unfolding begun
returns c =
    let e = c.part_one-e in
    let l : length e.result.bytes ≡ 16 = search rules in
    rw (
      ← c.key_of.ensures,
      ← ap (λ x. x.bytes) e.ensures,
      ← ap (λ x. x.cost) e.ensures,
      ← c.no_live.ensures,
      ← c.talking-begun.ensures,
    ) (gives_as c.give_text.ensures (room_whole e.result.cost c.talking-begun.result 0x91AF e.result.bytes (omega arith)))
