-- `part_two::enter_first` meets its contract.
use mathlib.Core.Path.{◌≡◌, ap}
use Prim.Native.Nat.{◌+◌}
use native.Mathlib.Omega.{arith}
use lib.ListN.{length}
use Rattle.cbc.specs.Cbc.{cbc_cost}
use Rattle.cmac.specs.Cmac.{cmac_cost, blocks_of}
use Rattle.replies.proofs.Equal.{gives_as}
use Rattle.replies.proofs.Given.{room_whole}
use Rattle.part_two.specs.PartTwo.{entered_first}
use borrow.Author.Rules.{rules}
use Rattle.part_two.proofs.enter_first.Goals as goal

pub overflow_add-s : goal.overflow_add-s
unfolding cbc_cost cmac_cost blocks_of
overflow_add-s c = omega (arith, c.session-s.ensures.cost, ap (λ x. x.cost) c.first_reply-e.ensures)

pub returns : goal.returns
unfolding entered_first
returns c =
    let r = c.first_reply-e in
    let s = c.session-s in
    let t = c.talking-next in
    let l : length r.result.bytes ≡ 32 = search (rules, r.type_inv) in
    rw (
      ← c.ti_of-ti.ensures,
      ← s.ensures.live,
      ← s.ensures.cost,
      ← ap (λ x. x.bytes) r.ensures,
      ← ap (λ x. x.cost) r.ensures,
      ← c.no_pending.ensures,
      ← t.ensures,
    ) (gives_as c.give_text.ensures (room_whole (s.result.cost + r.result.cost) t.result 0x9100 r.result.bytes (omega arith)))
