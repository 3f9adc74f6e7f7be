-- `playing::answer` meets its contract.
use mathlib.Core.Path.{refl}
use Rattle.playing.proofs.Border.{replies, answers}
use Rattle.tag.specs.Call.{refusal_number}
use Rattle.tag.specs.declared.Outcome.TheVariants.{SmallRoom, WrongRandom, Unsound}
use Rattle.playing.proofs.answer.Goals as goal

pub returns-in-Replied : goal.returns-in-Replied
returns-in-Replied c =
    let a = c.args in
    replies a.tag a.state.now a.command.now a.random.now a.room.now c.call-called.result _ _ _ c.call-called.ensures c.note.ensures
    c.in-Replied.is c.requires.0 c.to_image.ensures.left

pub returns-in-SmallRoom : goal.returns-in-SmallRoom
unfolding refusal_number
returns-in-SmallRoom c =
    let a = c.args in
    let called = c.call-called in
    answers a.tag a.state.now a.command.now a.random.now a.room.now called.result _ _ _ called.ensures c.note.ensures
    _ SmallRoom c.in-SmallRoom.is refl refl refl

pub returns-in-WrongRandom : goal.returns-in-WrongRandom
unfolding refusal_number
returns-in-WrongRandom c =
    let a = c.args in
    let called = c.call-called in
    answers a.tag a.state.now a.command.now a.random.now a.room.now called.result _ _ _ called.ensures c.note.ensures
    _ WrongRandom c.in-WrongRandom.is refl refl refl

pub returns-in-Unsound : goal.returns-in-Unsound
unfolding refusal_number
returns-in-Unsound c =
    let a = c.args in
    let called = c.call-called in
    answers a.tag a.state.now a.command.now a.random.now a.room.now called.result _ _ _ called.ensures c.note.ensures
    _ Unsound c.in-Unsound.is refl refl refl
