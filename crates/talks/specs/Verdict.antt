-- Whether an exchange differs.
use Rattle.std.specs.Prelude.{Result, Bool, true, false, List, ℕ, eqb, leb, length, take}
use Rattle.base.specs.Decide.{pick, or}
use Rattle.base.specs.Bytes.{same}
use Rattle.state.specs.declared.Tag.{Tag}
use Rattle.tag.specs.declared.Outcome.{Outcome}
use Rattle.tag.specs.Call.{refusal_number}
use Rattle.talks.specs.declared.Unread.{Unread}
use Rattle.talks.specs.declared.Played.{Played}
use Rattle.talks.specs.Log.{log_line_number, field_at, next_line}

-- n bytes at the front of the room are another reply than the logged one; more than it has are none
unfoldable pub another : List ℕ → List ℕ → ℕ → Bool
another logged room n = pick (leb n (length room)) (pick (same logged (take n room)) false true) true

-- a refusal is another answer than any reply
unfoldable pub differs : List ℕ → Outcome → List ℕ → ℕ → Bool
differs logged o room n = pick (eqb (refusal_number o) 0) (another logged room n) true

-- a line that can't be read
unfoldable pub unread : Result (List ℕ) Unread → Bool
unread f = pick (eqb (log_line_number f) 0) false true

-- one of the three lines of the exchange that begins at i
unfoldable pub broken : List ℕ → ℕ → Bool
broken s i =
    or (unread (field_at s i)) (or (unread (field_at s (next_line s i))) (unread (field_at s (next_line s (next_line s i)))))

-- such an exchange differs and leaves the tag
unfoldable pub unplayed : Tag → Played
unplayed t = record { differs = true; tag = t }
