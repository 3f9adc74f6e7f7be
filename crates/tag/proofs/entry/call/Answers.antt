-- `tag::entry::call` meets its contract: each outcome.
use mathlib.Core.Path.{refl, sym, ap, subst, ◌∙◌}
use Rattle.base.specs.Decide.{pick}
use Rattle.soundness.specs.declared.Judged.{Judged}
use Rattle.soundness.specs.Sound.{judged_tag}
use Rattle.soundness.proofs.Readings.{sound-judged}
use Rattle.tag.specs.Way.{answered, noted}
use Rattle.tag.specs.Call.{Replies}
use Rattle.tag.specs.declared.Outcome.TheVariants.{Replied, SmallRoom, WrongRandom, Unsound}
use Rattle.tag.proofs.Calling.{small_room, wrong_random, sound-or-not, no_length, calls}
use Rattle.tag.proofs.entry.call.Goals as goal

pub returns-then-room-lt258 : goal.returns-then-room-lt258
returns-then-room-lt258 c =
    let a = c.args in
    calls a.tag a.command.now a.random.now a.room.now _ _ SmallRoom (small_room a.tag a.random.now a.room.now c.if-room-lt258.true) c.unanswered.ensures refl
    (no_length SmallRoom a.tag _ c.unanswered.ensures)

pub returns-in_default : goal.returns-in_default
returns-in_default c =
    let a = c.args in
    calls a.tag a.command.now a.random.now a.room.now _ _ WrongRandom
    (wrong_random a.tag a.random.now a.room.now c.if-room-lt258.false c.in_default.ensures.1)
    c.unanswered-in_default.ensures refl
    (no_length WrongRandom a.tag _ c.unanswered-in_default.ensures)

pub reply-requires-clause-tag_value : goal.reply-requires-clause-tag_value
reply-requires-clause-tag_value c = sym (ap (λ (x : Judged). x.sound) c.judge_tag-j.ensures ∙ sound-judged c.args.tag) ∙ c.if-j.true

pub returns-then-j : goal.returns-then-j
unfolding judged_tag
returns-then-j c =
    let a = c.args in
    let w = c.in-Ok.ensures.1 in
    let y = subst (λ x. Replies (answered a.tag a.command.now x) (noted a.tag a.command.now) a.room.now c.reply.result c.reply.new.room) w.same c.reply.ensures in
    calls a.tag a.command.now a.random.now a.room.now _ _ Replied
    (sound-or-not a.tag a.random.now a.room.now c.if-room-lt258.false w.long
    ∙ ap (λ b. pick b Replied Unsound) (sym (ap (λ (j : Judged). j.sound) c.judge_tag-j.ensures) ∙ c.if-j.true))
    y.told y.left y.short

pub returns : goal.returns
unfolding judged_tag
returns c =
    let a = c.args in
    let w = c.in-Ok.ensures.1 in
    calls a.tag a.command.now a.random.now a.room.now _ _ Unsound
    (sound-or-not a.tag a.random.now a.room.now c.if-room-lt258.false w.long
    ∙ ap (λ b. pick b Replied Unsound) (sym (ap (λ (j : Judged). j.sound) c.judge_tag-j.ensures) ∙ c.if-j.false))
    c.unanswered-2.ensures refl (no_length Unsound a.tag _ c.unanswered-2.ensures)
