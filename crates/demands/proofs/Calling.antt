-- What `call` promises is what the words of a series say: of one call, and of any series.
use Rattle.std.specs.Prelude.{Option}
use Rattle.access.specs.declared.Grant.{Grant}
use mathlib.Core.Path.{◌≡◌, refl, sym, ◌∙◌, ap, ap₂}
use mathlib.Core.List.{List, [], ◌∷◌}
use Prim.Native.Nat.{ℕ}
use lib.ListN.{length, drop}
use lib.Seq.{take-append_seam, drop-append_seam}
use Rattle.state.specs.declared.Tag.{Tag}
use Rattle.replies.specs.Answer.{Answer}
use Rattle.tag.specs.declared.Called.{Called}
use Rattle.tag.specs.declared.Outcome.{Outcome}
use Rattle.tag.specs.declared.Outcome.TheVariants.{Replied, SmallRoom, WrongRandom, Unsound}
use Rattle.tag.specs.Way.{answered, noted}
use Rattle.tag.specs.Call.{reply_of, outcome_of, replied, unanswered, by_outcome, room_by, noted_by, cost_by, Calls}
use Rattle.series.specs.Series.{Asked, step, after}
use Rattle.demands.specs.Talks.{Said, heard, said, said_all, Had, saying, Speaks, Played, held, sayings, SpeaksAll}

-- ---- each outcome
says-outcome : (t : Tag) (x : Answer) (n : Option Grant) (room : List ℕ) (o : Outcome)
    → saying (record { result = by_outcome t x n o; room = room_by x room o })
    ≡ record { outcome = o; reply = heard x o; noted = noted_by n o; cost = cost_by x o }
unfolding replied unanswered
says-outcome t x n room Replied =
    let said-by : List ℕ → Said = λ s. record { outcome = Replied; reply = s; noted = n; cost = x.cost } in
    ap said-by (take-append_seam (reply_of x) (drop (length (reply_of x)) room))
says-outcome t x n room SmallRoom = refl
says-outcome t x n room WrongRandom = refl
says-outcome t x n room Unsound = refl

rest-outcome : (t : Tag) (x : Answer) (n : Option Grant) (room : List ℕ) (o : Outcome)
    → drop (by_outcome t x n o).length (room_by x room o) ≡ drop (by_outcome t x n o).length room
unfolding replied unanswered
rest-outcome t x n room Replied = drop-append_seam (reply_of x) (drop (length (reply_of x)) room)
rest-outcome t x n room SmallRoom = refl
rest-outcome t x n room WrongRandom = refl
rest-outcome t x n room Unsound = refl

-- ---- a call
pub call_speaks : (t : Tag) (a : Asked) (h : Had) → Calls t a.command a.random a.room h.result h.room → Speaks t a h
unfolding step said
call_speaks t a h p =
    let x = answered t a.command a.random in
    let n = noted t a.command in
    let o = outcome_of t a.random a.room in
    record {
      state = ap (λ (r : Called). r.tag) p.told;
      says =
          ap₂ (λ (r : Called) (new : List ℕ). saying (record { result = r; room = new })) p.told p.left
          ∙ says-outcome t x n a.room o;
      rest =
          ap₂ (λ (r : Called) (new : List ℕ). drop r.length new) p.told p.left
          ∙ rest-outcome t x n a.room o
          ∙ sym (ap (λ (r : Called). drop r.length a.room) p.told);
    }

-- ---- any series
pub series_speaks : (t : Tag) (asked : List Asked) (had : List Had) → Played t asked had → SpeaksAll t asked had
unfolding Played held sayings after said_all
series_speaks t [] [] p = record { state = refl; says = refl }
series_speaks t [] (h ∷ had) p = absurd p
series_speaks t (a ∷ more) [] p = absurd p
series_speaks t (a ∷ more) (h ∷ had) p =
    let first = call_speaks t a h p.0 in
    let others = series_speaks h.result.tag more had p.1 in
    record {
      state = others.state ∙ ap (λ u. after u more) first.state;
      says = ap₂ (λ (x : Said) (xs : List Said). x ∷ xs) first.says (others.says ∙ ap (λ u. said_all u more) first.state);
    }
