-- A status other than 9000, 9100 and 91AF has no data and only ends what runs; files, settings, keys and versions change only with an
-- accepting reply.
use Rattle.std.specs.Prelude.{Err}
use mathlib.Core.Path.{◌≡◌, refl, sym, ◌∙◌, ap}
use mathlib.Core.Bool.{Bool, true, false}
use mathlib.Core.List.{List, []}
use Prim.Native.Nat.{ℕ}
use lib.Dec.{eqb, ltb}
use lib.ListN.{length}
use Rattle.base.specs.Decide.{pick, and, or}
use Rattle.messaging.specs.declared.Mode.{Mode}
use Rattle.messaging.specs.declared.Mode.TheVariants.{Plain, Mac, Full}
use Rattle.closing.specs.declared.NotClosed.TheVariants.{TooLong}
use Rattle.closing.specs.Reply.{overlong, closed_length, hidden_length, closed_status}
use Rattle.state.specs.declared.Pending.{Pending}
use Rattle.state.specs.declared.Tag.{Tag}
use Rattle.state.specs.State.{reading_in, ended_of, talking}
use Rattle.soundness.specs.Sound.{sound_tag}
use Rattle.replies.specs.Answer.{Answer, given_for, costing, refusal, accepted}
use Rattle.file_parts.specs.Filing.{stored_iso}
use Rattle.taps.specs.Taps.{read_status, tap_status, tap_part, tap_read}
use Rattle.auth.specs.Parts.{begun}
use Rattle.part_two.specs.PartTwo.{entered_first, entered_next, entered}
use Rattle.selects.specs.Selects.{moved, selected_file}
use Rattle.tag.specs.declared.Outcome.{Outcome}
use Rattle.tag.specs.declared.Outcome.TheVariants.{Replied, SmallRoom, WrongRandom, Unsound}
use Rattle.tag.specs.Way.{answered, noted}
use Rattle.tag.specs.Call.{outcome_of, replied, unanswered, by_outcome}
use Rattle.series.specs.Series.{Asked, step, accepting, passing, replies, accepts, Ended, Same}
use Rattle.series.proofs.Choices.{not_both, way}
use Rattle.series.proofs.Walk.{Kinds, every_answer}

abbrev EndedOr : Tag → Answer → Type 0
EndedOr t a = passing a.status ≡ false → Ended t a

abbrev SameOr : Tag → Answer → Type 0
SameOr t a = accepting a.status ≡ false → Same t a.tag

-- ---- statuses
passes : (status : ℕ) → accepting status ≡ true → {A : Type 0} → passing status ≡ false → A
unfolding passing
passes status e {A} h = absurd (not_both (sym h ∙ ap (λ b. or b (eqb status 0x91AF)) e))

yes_9000 : accepting 0x9000 ≡ true
unfolding accepting
yes_9000 = refl

yes_9100 : accepting 0x9100 ≡ true
unfolding accepting
yes_9100 = refl

yes_tap : (iso : Bool) → accepting (pick iso 0x9000 0x9100) ≡ true
yes_tap true = yes_9000
yes_tap false = yes_9100

yes_91AF : passing 0x91AF ≡ true
unfolding passing accepting
yes_91AF = refl

-- an empty reply is short enough in every mode, so a change is accepted
pub short_none : (m : Mode) → overlong m 0 ≡ false
unfolding overlong closed_length hidden_length
short_none Plain = refl
short_none Mac = refl
short_none Full = refl

pub accepted_none : (t : Tag) (m : Mode) → accepting (accepted t m []).status ≡ true
unfolding accepted accepting
accepted_none t m = rw (short_none m) refl

-- ---- what holds of each answer that accepts, of each refusal and of part one, whatever it costs, holds of every answer
by_status_lem : (t : Tag) (c random : List ℕ) (P : Answer → Type 0) → ((a : Answer) → accepting a.status ≡ true → P a)
    → ((s : ℕ) → P (refusal t s)) → ((p : Pending) → P (begun t p))
    → ((n : ℕ) (a : Answer) → P a → P (costing n a)) → Kinds t c random P
unfolding entered entered_first entered_next accepted tap_read tap_part stored_iso moved selected_file
by_status_lem t c random P on-accepting on-refusal on-begun on-cost =
    record {
      refuses = on-refusal;
      begins = λ p k a. on-begun p;
      enters = λ p kx a. way P t.pending.first (λ e. fair _ 0x9100 _ yes_9100) (λ e. fair _ 0x9100 _ yes_9100);
      answers = λ m d. way P (overlong m (length d)) (λ e. on-refusal (closed_status (Err TooLong))) (λ e. fair _ 0x9100 _ yes_9100);
      rekeys = λ s. on-accepting (accepted _ Full []) (accepted_none _ Full);
      rekeys_first = λ s. fair _ 0x9100 _ yes_9100;
      writes = λ n at p m w. on-accepting (accepted _ m []) (accepted_none _ m);
      writes_iso = λ n at p w. fair _ 0x9000 _ yes_9000;
      restrings = λ n p m s g. on-accepting (accepted _ m []) (accepted_none _ m);
      taps =
          λ n iso at count s l p f.
          let status = read_status t.tap (reading_in t.files n) iso in
          way P (eqb status 0) (λ z. fair _ (pick iso 0x9000 0x9100) _ (yes_tap iso)) (λ z. on-refusal (tap_status iso status));
      reads_iso = λ n at count. fair _ 0x9000 _ yes_9000;
      moves = λ application. fair _ 0x9000 _ yes_9000;
      selects = λ n h. way P t.place.application (λ e. fair _ 0x9000 _ yes_9000) (λ e. on-refusal 0x6A82);
      costs = on-cost;
    }
  where
    fair : {n : ℕ} (u : Tag) (status : ℕ) (text : List ℕ) → accepting status ≡ true → P (given_for n u status text)
    fair {n} u status text e = on-accepting (given_for n u status text) e

-- ---- a status that does not pass
ended_kinds : (t : Tag) (c random : List ℕ) → Kinds t c random (EndedOr t)
unfolding refusal begun
ended_kinds t c random =
    by_status_lem t c random (EndedOr t) (λ a e. passes a.status e) (λ s h. record { state = refl; empty = refl })
    (λ p h. absurd (not_both (sym h ∙ yes_91AF))) (λ n a f h. record { state = (f h).state; empty = (f h).empty })

pub otherwise_ended : (t : Tag) (c random : List ℕ) → passing (answered t c random).status ≡ false → Ended t (answered t c random)
otherwise_ended t c random = every_answer t c random (EndedOr t) (ended_kinds t c random)

-- ---- a status that does not accept
same_kinds : (t : Tag) (c random : List ℕ) → Kinds t c random (SameOr t)
unfolding refusal ended_of begun talking
same_kinds t c random =
    by_status_lem t c random (SameOr t) (λ a e h. absurd (not_both (sym h ∙ e))) (λ s h. record { files = refl; secrets = refl })
    (λ p h. record { files = refl; secrets = refl }) (λ n a f. f)

pub changed-accepted : (t : Tag) (c random : List ℕ) → accepting (answered t c random).status ≡ false → Same t (answered t c random).tag
changed-accepted t c random = every_answer t c random (SameOr t) (same_kinds t c random)

-- ---- a call
-- a tag that replies is sound
sound_by : (small twenty sound : Bool) → pick small SmallRoom (pick twenty (pick sound Replied Unsound) WrongRandom) ≡ Replied → sound ≡ true
sound_by true twenty sound e = absurd (not_both (ap replies e))
sound_by false false sound e = absurd (not_both (ap replies e))
sound_by false true true e = refl
sound_by false true false e = absurd (not_both (ap replies e))

pub sound-outcome : (t : Tag) (random room : List ℕ) → outcome_of t random room ≡ Replied → sound_tag t ≡ true
unfolding outcome_of
sound-outcome t random room = sound_by (ltb (length room) 258) (eqb (length random) 20) (sound_tag t)

-- refusals 1 to 3 leave the tag as it was
pub refused_call : (t : Tag) (a : Asked) → replies (outcome_of t a.random a.room) ≡ false → step t a ≡ t
unfolding step unanswered
refused_call t a = by (outcome_of t a.random a.room)
  where
    by : (o : Outcome) → replies o ≡ false → (by_outcome t (answered t a.command a.random) (noted t a.command) o).tag ≡ t
    by Replied e = absurd (not_both (sym e))
    by SmallRoom e = refl
    by WrongRandom e = refl
    by Unsound e = refl

-- a reply leaves the tag of its answer
pub replied_call : (t : Tag) (a : Asked) → outcome_of t a.random a.room ≡ Replied → step t a ≡ (answered t a.command a.random).tag
unfolding step replied
replied_call t a e = ap (λ o. (by_outcome t (answered t a.command a.random) (noted t a.command) o).tag) e

-- a reply with a status that does not pass only ends session, pending part two and tap
pub ended_call : (t : Tag) (a : Asked) → replies (outcome_of t a.random a.room) ≡ true
    → passing (answered t a.command a.random).status ≡ false → step t a ≡ ended_of t
unfolding step replied
ended_call t a = by (outcome_of t a.random a.room)
  where
    by : (o : Outcome) → replies o ≡ true → passing (answered t a.command a.random).status ≡ false
        → (by_outcome t (answered t a.command a.random) (noted t a.command) o).tag ≡ ended_of t
    by Replied e h = (otherwise_ended t a.command a.random h).state
    by SmallRoom e h = absurd (not_both e)
    by WrongRandom e h = absurd (not_both e)
    by Unsound e h = absurd (not_both e)

-- files, settings, keys and versions change only in a call with an accepting reply
pub changed_call : (t : Tag) (a : Asked) → accepts t a ≡ false → Same t (step t a)
unfolding step accepts replied unanswered
changed_call t a = by (outcome_of t a.random a.room)
  where
    by : (o : Outcome) → and (replies o) (accepting (answered t a.command a.random).status) ≡ false
        → Same t (by_outcome t (answered t a.command a.random) (noted t a.command) o).tag
    by Replied e = changed-accepted t a.command a.random e
    by SmallRoom e = record { files = refl; secrets = refl }
    by WrongRandom e = record { files = refl; secrets = refl }
    by Unsound e = record { files = refl; secrets = refl }
