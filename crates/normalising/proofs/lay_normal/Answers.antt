use Rattle.std.proofs.Common.{arith, ℕ, List, ◌≤◌, sym, ap, ◌∙◌, length, set, ltb}
use mathlib.Core.Path.{ap₂}
use lib.ListN.{length-set}
use borrow.Author.Tests.{le-leb}
use Rattle.base.specs.Decide.{pick}
use Rattle.base.specs.Bytes.{over}
use Rattle.fields.specs.Normal.{plain_mode, free_bits, normal}
use Rattle.normalising.specs.Answers.{normal_room}
use Rattle.normalising.proofs.Laying.{laid-front, adjusted}
use Rattle.normalising.proofs.lay_normal.Goals as goal

pub returns-clause-left : goal.returns-clause-left
unfolding normal_room normal
returns-clause-left c =
    let s = c.args.s.now in
    let d = c.args.room.now in
    let fits : length s ≤ length d = omega (arith, c.if-room-n.false) in
    let x = c.plain_mode.result in
    let y = c.free_bits.result in
    let plain = c.plain_mode.ensures ∙ ap plain_mode c.at.ensures in
    let free = c.free_bits.ensures ∙ ap₂ free_bits c.sdm_on.ensures c.at-2.ensures in
    let one =
    c.adjust.ensures
    ∙ ap (λ (z : List ℕ). pick (ltb 0 (length s)) (set z 0 x) z) (c.lay_front.ensures ∙ laid-front s d fits)
    ∙ adjusted s d 0 x in
    let two =
    c.adjust-2.ensures
    ∙ ap (λ (z : List ℕ). pick (ltb 4 (length s)) (set z 4 y) z) one
    ∙ ap (λ n. pick (ltb 4 n) (set (over (set s 0 x) d) 4 y) (over (set s 0 x) d)) (sym (length-set s 0 x))
    ∙ adjusted (set s 0 x) d 4 y in
    rw (le-leb _ _ fits) (two ∙ ap₂ (λ u v. over (set (set s 0 u) 4 v) d) plain free)
