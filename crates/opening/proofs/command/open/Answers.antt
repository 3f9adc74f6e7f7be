-- The refusals, then each mode.
use mathlib.Core.Path.{◌≡◌, refl, sym, ap, ◌∙◌}
use Prim.Native.Nat.{◌-◌, ◌+◌, ◌≤◌}
use mathlib.Core.Logic.{⊎_elim}
use native.Mathlib.Omega.{arith}
use lib.ListN.{length, drop, length-drop}
use lib.Seq.{take_all}
use Rattle.messaging.specs.Protect.{plain, mac_length}
use Rattle.opening.specs.Command.{checked, checked_cost}
use Rattle.opening.proofs.Opening.{opens_long, opens_no_room, right_long, right-part, into_as, into_opens, opening-right, opening_wrong, checked-plain}
use Rattle.opening.proofs.Opening.{opening-right-cost, opening_wrong_cost, cost-plain}
use borrow.Author.Rules.{rules}
use Rattle.opening.proofs.command.open.Goals as goal

pub returns-then-x-gt255 : goal.returns-then-x-gt255
returns-then-x-gt255 c = let a = c.args in rw c.refused.ensures (opens_long a.x.now a.room.now _ _ (omega arith))

pub returns-then-room-x : goal.returns-then-room-x
returns-then-room-x c = let a = c.args in rw c.refused-then-room-x.ensures (opens_no_room a.x.now a.room.now _ _ (omega arith) (omega arith))

pub slice_bounds-give-count : goal.slice_bounds-give-count
slice_bounds-give-count c =
    let a = c.args in
    omega (arith, right_long a.m a.there a.h (length a.x.now) (sym c.length_right.ensures ∙ c.if-not-length_right.false))

pub slice_bounds-give-start : goal.slice_bounds-give-start
slice_bounds-give-start c =
    let a = c.args in
    let e = sym c.length_right.ensures ∙ c.if-not-length_right.false in
    let f : a.h ≤ length a.x.now = omega (arith, right_long a.m a.there a.h (length a.x.now) e) in
    search rules

pub returns-in-Plain : goal.returns-in-Plain
returns-in-Plain c =
    let a = c.args in
    let x = a.x.now in
    let e = sym c.length_right.ensures ∙ c.if-not-length_right.false in
    let t = sym c.in-Plain.is in
    into_opens (omega arith) (omega arith) (into_as c.give.ensures
    (ap plain (take_all (length x - a.h) (drop a.h x) (simp length-drop (omega arith))) ∙ sym (checked-plain a.s a.cmd x a.h a.there)
    ∙ ap (λ m. checked m a.s a.cmd x a.h a.there) t ∙ sym (opening-right a.s a.m a.cmd x a.h a.there e))
    (cost-plain a.s a.cmd x a.h a.there ∙ ap (λ m. checked_cost m a.s a.cmd x a.h a.there) t
    ∙ sym (opening-right-cost a.s a.m a.cmd x a.h a.there e)))

pub open_signed-requires : goal.open_signed-requires
open_signed-requires c =
    let a = c.args in
    let e = sym c.length_right.ensures ∙ c.if-not-length_right.false in
    let l : mac_length a.m ≡ 8 = ⊎_elim (ap mac_length) (ap mac_length) c.in-Mac.is in
    let f : a.h + 8 ≤ length a.x.now = rw l at (right_long a.m a.there a.h (length a.x.now) e) in record {
      signed = l;
      within = (f, omega arith, omega arith);
      part = rw l at (right-part a.m a.there a.h (length a.x.now) e);
    }

pub returns-in-Mac : goal.returns-in-Mac
returns-in-Mac c =
    let a = c.args in
    let x = a.x.now in
    let e = sym c.length_right.ensures ∙ c.if-not-length_right.false in
    into_opens (omega arith) (omega arith)
    (into_as c.open_signed.ensures (sym (opening-right a.s a.m a.cmd x a.h a.there e)) (sym (opening-right-cost a.s a.m a.cmd x a.h a.there e)))

pub returns-then-not-length_right : goal.returns-then-not-length_right
returns-then-not-length_right c =
    let a = c.args in
    let e = sym c.length_right.ensures ∙ c.if-not-length_right.true in
    rw c.refused-then-not-length_right.ensures (into_opens (omega arith) (omega arith) (into_as (record { answer = refl; room = refl; cost = refl })
    (sym (opening_wrong a.s a.m a.cmd a.x.now a.h a.there e)) (opening_wrong_cost a.s a.m a.cmd a.x.now a.h a.there e)))
