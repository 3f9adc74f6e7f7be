-- Laws of what a line does.
use mathlib.Core.Path.{◌≡◌, refl, sym, ap, ap₂, subst, ◌∙◌}
use mathlib.Core.Bool.{Bool, true, false}
use mathlib.Core.List.{List}
use Prim.Native.Nat.{ℕ}
use lib.Dec.{ltb, eqb}
use lib.ListN.{length, take, replicate}
use borrow.Author.Tests.{eqb-true}
use Rattle.std.specs.Prelude.{Result, Ok, Err}
use Rattle.base.specs.Decide.{pick}
use Rattle.state.specs.declared.Tag.{Tag}
use Rattle.plans.specs.declared.Meaning.{Meaning}
use Rattle.plans.specs.declared.Meaning.TheVariants.{Blank, Drawn, Given}
use Rattle.plans.specs.declared.Reason.{Reason}
use Rattle.tag.specs.Way.{answered, noted}
use Rattle.telling.specs.declared.Why.{Why}
use Rattle.tag.specs.Call.{outcome_of, by_outcome, room_by}
use Rattle.tag.specs.declared.Called.{Called}
use Rattle.verdict.specs.Replies.{status_in, refusing, differing}
use Rattle.tallies.specs.declared.Went.{Went}
use Rattle.turns.specs.declared.Turn.{Turn}
use Rattle.turns.specs.Steps.{next_of, reply_to, cost_of, went_by, told_by, played, stays, Drew, Draws, Carried}
use Rattle.turns.specs.Acts.{Act, why_with, acted_of, played_as, silent, drawn_by, acted_by}

-- what is said of a command, by what was computed for it
pub went_is : (reply expected : List ℕ) (k s : ℕ) (f u : Bool) → s ≡ status_in reply → f ≡ refusing s → u ≡ differing expected reply
    → ◌≡◌ {A = Went}
    (record {
      played = true;
      refused = f;
      skipped = false;
      undrawn = false;
      expecting = ltb 0 (length expected);
      unmet = u;
      blocks = k;
    })
    (went_by reply expected k)
unfolding went_by
went_is reply expected k s f u p q r =
    λ i. record {
      played = true;
      refused = (q ∙ ap refusing p) i;
      skipped = false;
      undrawn = false;
      expecting = ltb 0 (length expected);
      unmet = r i;
      blocks = k;
    }

-- a turn by what the call answered and left in the room
pub played_is : (t : Tag) (c random expected : List ℕ) (d : Called) (room : List ℕ) (w : Went) (y : Why)
    → d ≡ by_outcome t (answered t c random) (noted t c) (outcome_of t random (replicate 258 0))
    → room ≡ room_by (answered t c random) (replicate 258 0) (outcome_of t random (replicate 258 0))
    → w ≡ went_by (take d.length room) expected d.cost → y ≡ why_with d.noted t.live.key
    → ◌≡◌ {A = Act} (record { turn = record { tag = d.tag; went = w }; reply = take d.length room; why = y }) (played_as t c random expected)
unfolding played_as acted_of told_by
played_is t c random expected d room w y p q h k =
    (λ i. record { turn = record { tag = d.tag; went = h i }; reply = take d.length room; why = k i })
    ∙ ap₂ (λ (e : Called) (x : List ℕ). acted_of e t.live.key x expected) p q

-- ---- the machine gave random bytes, and it gave none
played_drew : (t : Tag) (c random expected : List ℕ) (r : Turn) → r ≡ played t c random expected → r.went.undrawn ≡ false
unfolding played told_by went_by
played_drew t c random expected r p = ap (λ (m : Turn). m.went.undrawn) p

drew : (t : Tag) (c random expected : List ℕ) (r : Turn) → length random ≡ 20 → r ≡ played t c random expected → Draws t c expected r
unfolding Draws
drew t c random expected r h p =
    subst (λ (b : Bool). pick b (r ≡ stays t true true) (Drew t c expected r)) (sym (played_drew t c random expected r p))
    (record { random = random; twenty = h; is = p })

stays_undrawn : (t : Tag) (r : Turn) → r ≡ stays t true true → r.went.undrawn ≡ true
unfolding stays
stays_undrawn t r p = ap (λ (m : Turn). m.went.undrawn) p

undrew : (t : Tag) (c expected : List ℕ) (r : Turn) → r ≡ stays t true true → Draws t c expected r
unfolding Draws
undrew t c expected r p =
    subst (λ (b : Bool). pick b (r ≡ stays t true true) (Drew t c expected r)) (sym (stays_undrawn t r p)) p

-- ---- a line as it is computed is carried out
played-turn : (t : Tag) (c random expected : List ℕ) → (played_as t c random expected).turn ≡ played t c random expected
unfolding played_as acted_of played next_of reply_to cost_of
played-turn t c random expected = refl

silent-turn : (u : Turn) → (silent u).turn ≡ u
unfolding silent
silent-turn u = refl

by_twenty : (b : Bool) (t : Tag) (c expected drawn : List ℕ) → eqb (length drawn) 20 ≡ b
    → Draws t c expected (pick b (played_as t c drawn expected) (silent (stays t true true))).turn
by_twenty true t c expected drawn h =
    drew t c drawn expected (played_as t c drawn expected).turn (eqb-true (length drawn) 20 h) (played-turn t c drawn expected)
by_twenty false t c expected drawn h = undrew t c expected (silent (stays t true true)).turn (silent-turn (stays t true true))

drawn_carried : (n : ℕ) (t : Tag) (c expected drawn : List ℕ) → Draws t (take n c) expected (drawn_by n t c expected drawn).turn
unfolding drawn_by
drawn_carried n t c expected drawn = by_twenty (eqb (length drawn) 20) t (take n c) expected drawn refl

pub acted_carried : (m : Result Meaning Reason) (t : Tag) (c random expected drawn : List ℕ)
    → Carried m t c random expected (acted_by m t c random expected drawn).turn
unfolding Carried acted_by
acted_carried (Ok Blank) t c random expected drawn = silent-turn (stays t false false)
acted_carried (Err e) t c random expected drawn = silent-turn (stays t true false)
acted_carried (Ok (Drawn n)) t c random expected drawn = drawn_carried n t c expected drawn
acted_carried (Ok (Given n)) t c random expected drawn = played-turn t (take n c) random expected
