-- What a call reports (specs/CipherWork.antt): the formula of every mirrored read, its bound, and the bound of any call.
use Rattle.std.specs.Prelude.{Ok}
use mathlib.Core.Bool.{Bool, true}
use mathlib.Core.Path.{◌≡◌, refl, ◌∙◌}
use Prim.Native.Nat.{◌≤◌}
use native.Mathlib.Omega.{arith}
use Rattle.fields.specs.Fields.{head_of, sdm_on, read_of}
use Rattle.spans.specs.Spans.{reading_of}
use Rattle.settings.specs.Answers.{judged}
use Rattle.state.specs.declared.Tag.{Tag}
use Rattle.state.specs.State.{rules_of, reading_in}
use Rattle.soundness.specs.Sound.{sound_tag}
use Rattle.soundness.proofs.Inside.{rules-good, second-sound, sound-spans}
use Rattle.tag.specs.declared.Outcome.{Outcome}
use Rattle.tag.specs.declared.Outcome.TheVariants.{Replied, SmallRoom, WrongRandom, Unsound}
use Rattle.tag.specs.Way.{answered}
use Rattle.tag.specs.Call.{outcome_of, cost_by}
use Rattle.series.specs.Series.{Asked, Typed}
use Rattle.demands.specs.Talks.{said}
use Rattle.one_tap.specs.OneTap.{Taps}
use Rattle.series.proofs.Changes.{sound-outcome}
use Rattle.one_tap.proofs.OneTap.{has_reply, one_read}
use Rattle.cipher_work.specs.CipherWork.{mirrored_blocks, MirroredFormula, MirroredAtMost28, AnyCallAtMost35}
use Rattle.cipher_work.proofs.AnyCall.{answered_few}
use Rattle.cipher_work.proofs.Formula.{formula_is, needs_of, head_on, string_at_most_28}

-- ---- a mirrored read
module _ (t : Tag) (a : Asked) (iso : Bool) (h : Taps t a iso) where
  sound : sound_tag t ≡ true
  sound = sound-outcome t a.random a.room (has_reply t a h.reads.accepted)

  good : judged 2 (rules_of t.files 2) ≡ Ok tt
  good = rules-good t.files 2 (second-sound t sound)

  on : sdm_on (rules_of t.files 2) ≡ true
  unfolding reading_in reading_of read_of head_of
  on = h.sdm

  is_formula : (said t a).cost ≡ mirrored_blocks (read_of (rules_of t.files 2))
  unfolding reading_in
  is_formula = let s = rules_of t.files 2 in (one_read t a iso h).cost ∙ formula_is (read_of s) (head_on s on) (needs_of s good on)

  at_most_28 : (said t a).cost ≤ 28
  at_most_28 = omega (arith, is_formula, string_at_most_28 (rules_of t.files 2) good on)

pub mirrored_formula : MirroredFormula
mirrored_formula = is_formula

pub mirrored_at_most_28 : MirroredAtMost28
mirrored_at_most_28 = at_most_28

-- ---- any call
by_outcome_lem : (t : Tag) (a : Asked) → Typed t → (o : Outcome) → outcome_of t a.random a.room ≡ o
    → cost_by (answered t a.command a.random) o ≤ 35
by_outcome_lem t a y Replied e = answered_few t a.command a.random (sound-spans t (sound-outcome t a.random a.room e) y.lens)
by_outcome_lem t a y SmallRoom e = omega arith
by_outcome_lem t a y WrongRandom e = omega arith
by_outcome_lem t a y Unsound e = omega arith

pub any_call_at_most_35 : AnyCallAtMost35
unfolding said
any_call_at_most_35 t a y = by_outcome_lem t a y (outcome_of t a.random a.room) refl
