-- `talks::exchange::refusal_of` meets its contract: each outcome.
use mathlib.Core.Path.{sym, ap}
use Rattle.tag.specs.Call.{refusal_number}
use Rattle.talks.proofs.exchange.refusal_of.Goals as goal

pub returns-in-Replied : goal.returns-in-Replied
unfolding refusal_number
returns-in-Replied c = sym (ap refusal_number c.in-Replied.is)

pub returns-in-SmallRoom : goal.returns-in-SmallRoom
unfolding refusal_number
returns-in-SmallRoom c = sym (ap refusal_number c.in-SmallRoom.is)

pub returns-in-WrongRandom : goal.returns-in-WrongRandom
unfolding refusal_number
returns-in-WrongRandom c = sym (ap refusal_number c.in-WrongRandom.is)

pub returns-in-Unsound : goal.returns-in-Unsound
unfolding refusal_number
returns-in-Unsound c = sym (ap refusal_number c.in-Unsound.is)
