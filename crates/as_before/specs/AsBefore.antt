-- 02, request 5: "Statuses and states stay the same."
use Rattle.std.specs.Prelude.{List, ◌≡◌, ℕ}
use Rattle.fields.specs.declared.Head.{Head}
use Rattle.order.specs.declared.Name.{Name}
use Rattle.state.specs.declared.Live.{Live}
use Rattle.state.specs.declared.Tag.{Tag}
use Rattle.access.specs.declared.Grant.{Grant}
use Rattle.access.specs.declared.Grant.TheVariants.{ByKey, ByTap, Free, Unasked, Never, Denied}
use Rattle.access.specs.Access.{decided, grant_status}
use Rattle.tag.specs.Way.{answered}
use Rattle.as_before.specs.Before.{Was, by_key, by_tap, free, unasked, never, denied, grant_was, mode_was, status_was, decided_was, answered_was}

-- how, without the right
unfoldable pub how_alone : Grant → Was
how_alone (ByKey r) = by_key
how_alone ByTap = by_tap
how_alone (Free r) = free
how_alone Unasked = unasked
how_alone Never = never
how_alone Denied = denied

-- the decision on every command, in every session or none, over any settings
pub record SameDecision (n : Name) (l : Live) (h : Head) : Type 0 where
  pub how : how_alone (decided n l h).grant ≡ grant_was n l h
  pub mode : (decided n l h).mode ≡ mode_was n (grant_was n l h) l.on h.mode
  pub tap : (g : Grant) → (decided n l h).tap ≡ (decided_was g n l h).tap
  pub status : (class : ℕ) → grant_status class (decided n l h).grant ≡ status_was class (grant_was n l h)

abbrev pub SameDecisions : Type 0
SameDecisions = (n : Name) (l : Live) (h : Head) → SameDecision n l h

-- status, reply and next state of every command, in every state, and what it costs (request 10)
abbrev pub SameAnswers : Type 0
SameAnswers = (g : Grant) (t : Tag) (c random : List ℕ) → answered t c random ≡ answered_was g t c random
