-- Laws of a call at the C border: each case by its number, with what image, room and journal hold.
use mathlib.Core.Path.{◌≡◌, refl, sym, ap, ap₂, subst, ◌∙◌}
use mathlib.Core.Bool.{true, false}
use mathlib.Core.List.{List}
use Prim.Native.Nat.{ℕ}
use Rattle.std.specs.Prelude.{Option}
use lib.ListN.{length}
use lib.Dec.{leb}
use borrow.Author.Tests.{le-leb, eq-eqb, ne_eqb}
use Rattle.state.specs.declared.Tag.{Tag}
use Rattle.image.specs.Image.{image_of}
use Rattle.image.specs.Answers.{right_length, image_in}
use Rattle.replies.specs.Answer.{Answer}
use Rattle.tag.specs.declared.Outcome.{Outcome}
use Rattle.tag.specs.declared.Outcome.TheVariants.{Replied, SmallRoom, WrongRandom, Unsound}
use Rattle.tag.specs.declared.Called.{Called}
use Rattle.access.specs.declared.Grant.{Grant}
use Rattle.tag.specs.Way.{answered, noted}
use Rattle.tag.specs.Call.{replied, unanswered, outcome_of, by_outcome, noted_by, cost_by, Calls}
use Rattle.playing.specs.Answers.{call_number, call_image, is_reply, journal_length, journal_of, Answers, state_in, fit, Plays}

right : (s : List ℕ) → length s ≡ 684 → right_length s ≡ true
unfolding right_length
right s l = eq-eqb (length s) 684 l

wrong : (s : List ℕ) → (length s ≡ 684 → ⊥) → right_length s ≡ false
unfolding right_length
wrong s l = ne_eqb (length s) 684 l

-- an image over bytes of its length
image_laid : (t : Tag) (s s' : List ℕ) → length s ≡ 684 → s' ≡ image_in t s → s' ≡ image_of t
unfolding image_in
image_laid t s s' l q = q ∙ rw (right s l) refl

-- ---- a call
outcome_is : (t : Tag) (a : Answer) (n : Option Grant) (o : Outcome) → (by_outcome t a n o).outcome ≡ o
unfolding replied unanswered
outcome_is t a n Replied = refl
outcome_is t a n SmallRoom = refl
outcome_is t a n WrongRandom = refl
outcome_is t a n Unsound = refl

noted_is : (t : Tag) (a : Answer) (n : Option Grant) (o : Outcome) → (by_outcome t a n o).noted ≡ noted_by n o
unfolding replied unanswered
noted_is t a n Replied = refl
noted_is t a n SmallRoom = refl
noted_is t a n WrongRandom = refl
noted_is t a n Unsound = refl

cost_is : (t : Tag) (a : Answer) (n : Option Grant) (o : Outcome) → (by_outcome t a n o).cost ≡ cost_by a o
unfolding replied unanswered
cost_is t a n Replied = refl
cost_is t a n SmallRoom = refl
cost_is t a n WrongRandom = refl
cost_is t a n Unsound = refl

length_is : (a : Answer) (n : Option Grant) → (replied a n).length ≡ call_number a Replied
unfolding replied
length_is a n = refl

tag_is : (a : Answer) (n : Option Grant) (s : List ℕ) → image_of (replied a n).tag ≡ call_image a s Replied
unfolding replied
tag_is a n s = refl

module _ (t : Tag) (s c random room : List ℕ) (d : Called) (s' room' j' : List ℕ) (k : Calls t c random room d room')
    (w : j' ≡ journal_of d.noted d.cost) where
  outcome_was : (x : Outcome) → d.outcome ≡ x → outcome_of t random room ≡ x
  outcome_was x e = sym (ap (λ z. z.outcome) k.told ∙ outcome_is t (answered t c random) (noted t c) (outcome_of t random room)) ∙ e

  -- by its outcome
  pub answers : (r : ℕ) (x : Outcome) → d.outcome ≡ x → r ≡ call_number (answered t c random) x
      → s' ≡ call_image (answered t c random) s x → leb r 258 ≡ is_reply x → Answers t s c random room r s' room' j'
  answers r x e p q a =
      let was = sym (outcome_was x e) in
      let a' = answered t c random in
      let n = noted t c in
      let o = outcome_of t random room in
      record {
        number = p ∙ ap (λ o. call_number (answered t c random) o) was;
        kept = q ∙ ap (λ o. call_image (answered t c random) s o) was;
        left = k.left;
        notes = w ∙ ap (λ (z : Called). journal_of z.noted z.cost) k.told ∙ ap₂ journal_of (noted_is t a' n o) (cost_is t a' n o);
        apart = a ∙ ap is_reply was;
      }

  -- a reply
  pub replies : d.outcome ≡ Replied → length s ≡ 684 → s' ≡ image_in d.tag s → Answers t s c random room d.length s' room' j'
  replies e l q =
      let n = noted t c in
      let g : d ≡ replied (answered t c random) n = k.told ∙ ap (λ o. by_outcome t (answered t c random) n o) (outcome_was Replied e) in
      answers d.length Replied e (ap (λ z. z.length) g ∙ length_is (answered t c random) n)
      (image_laid d.tag s s' l q ∙ ap (λ z. image_of z.tag) g ∙ tag_is (answered t c random) n s)
      (le-leb d.length 258 k.short)

-- ---- the lengths of image and journal
no_image : (s j : List ℕ) → (length s ≡ 684 → ⊥) → fit s j ≡ false
unfolding fit
no_image s j h = rw (wrong s h) refl

no_journal : (s j : List ℕ) → length s ≡ 684 → (length j ≡ journal_length → ⊥) → fit s j ≡ false
unfolding fit
no_journal s j l h = rw (right s l, ne_eqb (length j) journal_length h) refl

both_fit : (s j : List ℕ) → length s ≡ 684 → length j ≡ journal_length → fit s j ≡ true
unfolding fit
both_fit s j l h = rw (right s l, eq-eqb (length j) journal_length h) refl

pub wrong_plays : (s c random room j : List ℕ) → (length s ≡ 684 → ⊥) → Plays s c random room j 1005 s room j
wrong_plays s c random room j h =
    let f = no_image s j h in
    record { number = rw (wrong s h) refl; kept = rw f refl; left = rw f refl; notes = rw f refl; apart = rw f refl }

pub wrong_journal_lem : (s c random room j : List ℕ) → length s ≡ 684 → (length j ≡ journal_length → ⊥) → Plays s c random room j 1007 s room j
wrong_journal_lem s c random room j l h =
    let f = no_journal s j l h in
    record { number = rw (right s l, f) refl; kept = rw f refl; left = rw f refl; notes = rw f refl; apart = rw f refl }

pub plays : (s c random room j : List ℕ) (r : ℕ) (s' room' j' : List ℕ) (t : Tag) → length s ≡ 684 → length j ≡ journal_length → t ≡ state_in s
    → Answers t s c random room r s' room' j' → Plays s c random room j r s' room' j'
plays s c random room j r s' room' j' t l m e h =
    let g = subst (λ x. Answers x s c random room r s' room' j') e h in
    let f = both_fit s j l m in
    record {
      number = rw (right s l, f) g.number;
      kept = rw f g.kept;
      left = rw f g.left;
      notes = rw f g.notes;
      apart = rw f g.apart;
    }
