-- Laws of the reply in the room, and of a call's outcome.
use mathlib.Core.Path.{◌≡◌, refl, sym, ap, ap₂, ◌∙◌}
use mathlib.Core.Bool.{Bool, true, false}
use mathlib.Core.List.{List, [], ◌∷◌}
use Rattle.std.specs.Prelude.{Option}
use Prim.Native.Nat.{ℕ, ◌+◌, ◌≤◌, ◌<◌, ◌/◌, ◌%◌}
use native.Mathlib.Omega.{arith}
use lib.Dec.{eqb, ltb}
use lib.ListN.{length}
use borrow.Author.Tests.{lt-ltb, le-ltb, eq-eqb, ne_eqb}
use Rattle.base.specs.Decide.{pick}
use Rattle.base.specs.Bytes.{laid, over}
use Rattle.base.proofs.Bytes.{none}
use Rattle.base.proofs.Pieces.{also}
use Rattle.state.specs.declared.Tag.{Tag}
use Rattle.soundness.specs.Sound.{sound_tag}
use Rattle.access.specs.declared.Grant.{Grant}
use Rattle.buffers.specs.Text.{text_of}
use Rattle.statuses.specs.Words.{status_word}
use Rattle.replies.specs.declared.Done.{Done}
use Rattle.replies.specs.Answer.{Answer, Gives, answer_of}
use Rattle.tag.specs.declared.Outcome.{Outcome}
use Rattle.tag.specs.declared.Outcome.TheVariants.{Replied, SmallRoom, WrongRandom, Unsound}
use Rattle.tag.specs.declared.Called.{Called}
use Rattle.tag.specs.Way.{answered, noted}
use Rattle.tag.specs.Call.{with_status, reply_of, replied, unanswered, outcome_of, refusal_number, refusal_of, by_outcome, room_by, Laid, Calls, Replies}

-- ---- the reply
-- data and status bytes laid one behind the other, over the room
pub laid-reply : (text : List ℕ) (n s : ℕ) (old mid new : List ℕ) → length text ≡ n → n ≤ 256 → 258 ≤ length old → mid ≡ laid text 0 old
    → new ≡ laid ((s / 256 % 256) ∷ (s % 256) ∷ []) n mid → Laid (with_status text s) old (n + 2) new
unfolding with_status
laid-reply text n s old mid new e f r p q =
    let h = also (also (none old) text n (omega arith) (omega arith) p) ((s / 256 % 256) ∷ (s % 256) ∷ []) (n + 2) (omega arith) (omega arith) q in
    record { count = h.len; room = h.is; short = omega arith }

-- what the code's answer says is the reply, and what it notes is noted
pub replies : (a : Answer) (d : Done) (old new : List ℕ) (n : ℕ) → Gives a d → Laid (with_status (text_of d.«data») (status_word d.status)) old n new
    → (m k : Option Grant) → m ≡ k → Replies a k old (record { outcome = Replied; length = n; tag = d.tag; noted = m; cost = d.cost }) new
unfolding replied reply_of answer_of
replies a d old new n g h m k e =
    record {
      told = ap (λ i. record { outcome = Replied; length = i; tag = d.tag; noted = m; cost = d.cost }) h.count ∙ ap₂ replied g.says e;
      left = h.room ∙ ap (λ x. over (reply_of x) old) g.says;
      short = h.short;
    }

-- ---- the outcome
-- refusals 1 to 3, in their order
module _ (t : Tag) (random room : List ℕ) where
  pub small_room : length room < 258 → outcome_of t random room ≡ SmallRoom
  unfolding outcome_of
  small_room h = rw (lt-ltb (length room) 258 h)

  pub wrong_random : 258 ≤ length room → (length random ≡ 20 → ⊥) → outcome_of t random room ≡ WrongRandom
  unfolding outcome_of
  wrong_random h k = rw (le-ltb (length room) 258 h, ne_eqb (length random) 20 k)

  pub sound-or-not : 258 ≤ length room → length random ≡ 20 → outcome_of t random room ≡ pick (sound_tag t) Replied Unsound
  unfolding outcome_of
  sound-or-not h k = rw (le-ltb (length room) 258 h, eq-eqb (length random) 20 k)

-- the numbers of the outcomes, in the same order
number_is : (t : Tag) (random room : List ℕ) → refusal_number (outcome_of t random room) ≡ refusal_of t random room
unfolding outcome_of refusal_of refusal_number
number_is t random room = by (ltb (length room) 258) (eqb (length random) 20) (sound_tag t)
  where
    by : (small twenty sound : Bool)
        → refusal_number (pick small SmallRoom (pick twenty (pick sound Replied Unsound) WrongRandom)) ≡ pick small 1 (pick twenty (pick sound 0 3) 2)
    by true twenty sound = refl
    by false false sound = refl
    by false true true = refl
    by false true false = refl

outcome-number : (t : Tag) (a : Answer) (n : Option Grant) (o : Outcome) → refusal_number (by_outcome t a n o).outcome ≡ refusal_number o
unfolding replied unanswered
outcome-number t a n Replied = refl
outcome-number t a n SmallRoom = refl
outcome-number t a n WrongRandom = refl
outcome-number t a n Unsound = refl

-- a refusal has length 0
pub no_length : (o : Outcome) (t : Tag) (r : Called) → r ≡ unanswered o t → r.length ≤ 258
unfolding unanswered
no_length o t r e = let q : r.length ≡ 0 = ap (λ (x : Called). x.length) e in omega arith

-- a call by its outcome
pub calls : (t : Tag) (c random old : List ℕ) (r : Called) (new : List ℕ) (o : Outcome) → outcome_of t random old ≡ o
    → r ≡ by_outcome t (answered t c random) (noted t c) o → new ≡ room_by (answered t c random) old o → r.length ≤ 258 → Calls t c random old r new
calls t c random old r new o e p q l =
    record {
      number = ap (λ (x : Called). refusal_number x.outcome) p ∙ outcome-number t (answered t c random) (noted t c) o ∙ ap refusal_number (sym e) ∙ number_is t random old;
      told = rw e p;
      left = rw e q;
      short = l;
    }
