-- What the lines of a plan come to.
use Rattle.std.specs.Prelude.{List, ◌≡◌, ℕ, zero, suc, ◌+◌, eqb, length, take, drop}
use Rattle.base.specs.Decide.{pick}
use Rattle.lines.specs.Lines.{before}
use Rattle.state.specs.declared.Tag.{Tag}
use Rattle.turns.specs.declared.Turn.{Turn}
use Rattle.tallies.specs.declared.Tally.{Tally}
use Rattle.tallies.specs.Counts.{counted_by}
use Rattle.rehearse.specs.declared.walk.Rehearsal.{Rehearsal}
use Rattle.turns.specs.Steps.{Stepped}

-- one thing and then another, with a line between them
pub record Between (P Q : Turn → Type 0) : Type 0 where
  pub mid : Turn
  pub here : P mid
  pub on : Q mid

-- the lines of a text, each with the tag that the one before it left; the line before the text has this number, and f is at least the
-- number of lines
unfoldable pub Walked : ℕ → ℕ → List ℕ → Tag → Tally → Rehearsal → Type 0
Walked zero number text t n r = r ≡ record { tag = t; tally = n }
Walked (suc f) number text t n r =
    pick (eqb (length text) 0) (r ≡ record { tag = t; tally = n })
    (Between (λ m. Stepped t (take (before 10 text) text) m)
    (λ m. Walked f (number + 1) (drop (before 10 text + 1) text) m.tag (counted_by n (number + 1) m.went) r))
