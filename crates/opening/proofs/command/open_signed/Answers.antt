-- The MAC, then the part.
use Rattle.std.proofs.Common.{◌≡◌, refl, sym, ap, ap₂, ◌∙◌, ◌+◌, ◌-◌, true, false, length, take, drop, rules}
use Rattle.std.proofs.lemmas.Bool.{not-true, not-false}
use native.Mathlib.Omega.{arith}
use lib.ListN.{length-drop}
use lib.Seq.{length-take-le}
use Rattle.base.proofs.Pieces.{part_of}
use Rattle.padding.specs.Padding.{blocks}
use Rattle.messaging.specs.declared.Mode.TheVariants.{Full}
use Rattle.messaging.specs.Protect.{plain, content, command_iv, part_cost}
use Rattle.messaging.proofs.Costs.{mac_few, part_few}
use Rattle.opening.specs.Command.{checked, checked_cost}
use Rattle.opening.proofs.Opening.{signed_wrong, signed_wrong_cost, signed_given, signed_given_cost, checked_full, full_blocks, cost_full, into_as}
use Rattle.opening.proofs.command.open_signed.Goals.{else-there-via-then-there+else-eq, else-there-via-else-there}
use Rattle.opening.proofs.command.open_signed.Goals as goal

pub returns-then-not-mac : goal.returns-then-not-mac
returns-then-not-mac c =
    let a = c.args in
    let k = c.mac_right-mac.ensures in
    let e = sym k.right ∙ not-true _ c.if-not-mac.true in
    rw c.refused.ensures (into_as (record { answer = refl; room = refl; cost = refl }) (sym (signed_wrong a.s a.m a.cmd a.x.now a.h a.there c.requires.signed e))
    (k.cost ∙ signed_wrong_cost a.s a.m a.cmd a.x.now a.h a.there c.requires.signed e))

pub give_hidden-opened-requires : goal.give_hidden-opened-requires
give_hidden-opened-requires c =
    let a = c.args in
    let f : a.m ≡ Full = search rules in
    let n = length a.x.now - 8 - a.h in
    let w = c.requires.within in
    let l : length (take n (drop a.h a.x.now)) ≡ n = length-take-le n (drop a.h a.x.now) (simp length-drop (omega arith)) in
    (omega arith, omega arith, ap blocks l ∙ full_blocks n (rw (f, c.if-there.true) at c.requires.part))

pub overflow_add-result : goal.overflow_add-result
overflow_add-result c =
    let a = c.args in
    let n = length a.x.now - 8 - a.h in
    let w = c.requires.within in
    let l : length (take n (drop a.h a.x.now)) ≡ n = length-take-le n (drop a.h a.x.now) (simp length-drop (omega arith)) in
    omega (
      arith,
      c.mac_right-mac.ensures.cost,
      mac_few (length a.x.now - 8),
      c.give_hidden-opened.ensures.cost,
      part_few Full true (length (take n (drop a.h a.x.now))),
    )

pub returns-then-eq : goal.returns-then-eq
returns-then-eq c =
    let a = c.args in
    let x = a.x.now in
    let k = c.mac_right-mac.ensures in
    let f : a.m ≡ Full = search rules in
    let w = c.requires.within in
    let e = sym k.right ∙ not-false _ c.if-not-mac.false in
    let g = c.give_hidden-opened.ensures in
    let n = length x - 8 - a.h in
    let l : length (take n (drop a.h x)) ≡ n = length-take-le n (drop a.h x) (simp length-drop (omega arith)) in
    into_as (record { answer = g.answer; room = g.room; cost = refl })
    (ap (content Full a.s (command_iv a.s) true) (part_of a.h (length x - 8) x (omega arith)) ∙ sym (checked_full a.s a.cmd x a.h true e)
    ∙ sym (ap₂ (λ m t. checked m a.s a.cmd x a.h t) f c.if-there.true))
    (ap₂ (λ i j. i + j) k.cost (g.cost ∙ ap (part_cost Full true) l) ∙ cost_full a.s a.cmd x a.h true e
    ∙ sym (ap₂ (λ m t. checked_cost m a.s a.cmd x a.h t) f c.if-there.true))

pub returns : goal.returns
returns c =
    let a = c.args in
    let x = a.x.now in
    let k = c.mac_right-mac.ensures in
    let w = c.requires.within in
    let e = sym k.right ∙ not-false _ c.if-not-mac.false in
    let f : a.m ≡ Full → a.there ≡ false = elim c.else-there.branch [
      | else-there-via-then-there+else-eq w ↦ (λ q. search (rules, q))
      | else-there-via-else-there w ↦ λ q. w.if-there.false
    ] in
    into_as c.give.ensures (ap plain (part_of a.h (length x - 8) x (omega arith)) ∙ signed_given a.s a.m a.cmd x a.h a.there c.requires.signed f e)
    (k.cost ∙ signed_given_cost a.s a.m a.cmd x a.h a.there c.requires.signed f e)
