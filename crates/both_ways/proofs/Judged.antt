-- Bytes of an image's length that hold no state are judged by refusal 3, as any state that is not sound.
use mathlib.Core.Path.{◌≡◌, refl, ap, ◌∙◌}
use mathlib.Core.Bool.{Bool, true, false}
use mathlib.Core.List.{List}
use Prim.Native.Nat.{ℕ, ◌≤◌}
use native.Mathlib.Omega.{arith}
use lib.Dec.{eqb, leb}
use lib.ListN.{length}
use Rattle.std.specs.Prelude.{Ok, Err}
use Rattle.std.specs.Result.{is_ok}
use Rattle.base.specs.Decide.{pick, and}
use Rattle.base.specs.Bytes.{byte_at}
use Rattle.state.specs.declared.Tag.{Tag}
use Rattle.delivery.specs.Fresh.{blank}
use Rattle.state.specs.State.{reading_in}
use Rattle.soundness.specs.Sound.{rules_sound, keys_sound, alone_sound, padding_sound, level_sound, sound_tag}
use Rattle.image.specs.declared.NoImage.TheVariants.{WrongLength, WrongVersion, NotABoolean}
use Rattle.image.specs.declared.NotRead.{NotRead}
use Rattle.image.specs.Image.{image_version, tag_in}
use Rattle.image.specs.Answers.{bits_at, booleans, right_length, refused_as, read_in}
use Rattle.tag.specs.declared.Outcome.TheVariants.{Replied, Unsound}
use Rattle.tag.specs.Call.{outcome_of}
use Rattle.tag.proofs.Calling.{sound-or-not}
use Rattle.playing.specs.Answers.{read_or_beside, state_in}

fifth_false : (a b c d e : Bool) → and a (and b (and c (and d (and false e)))) ≡ false
fifth_false false b c d e = refl
fifth_false true false c d e = refl
fifth_false true true false d e = refl
fifth_false true true true false e = refl
fifth_false true true true true e = refl

-- a UID that does not start 04
other_uid : (t : Tag) → eqb (byte_at t.uid 0) 4 ≡ false → sound_tag t ≡ false
unfolding sound_tag
other_uid t e =
    rw e
    (fifth_false (rules_sound t.files 1) (rules_sound t.files 2) (rules_sound t.files 3) (leb t.tap.counter 16777215)
    (and (keys_sound t.live.on t.live.key t.pending.on t.pending.key)
    (and (alone_sound t.tap.on t.live.on t.pending.on (reading_in t.files 2).settings.head.sdm)
    (and (padding_sound t.tap.on t.tap.padding)
    (level_sound t.place.application t.live.on t.pending.on t.tap.on t.place.file)))))

zeros-unsound : sound_tag blank ≡ false
unfolding blank
zeros-unsound = other_uid blank refl

zeros_beside : (a b c : Bool) (t : Tag) (e : NotRead)
    → pick a (pick b (pick c (Ok t) (refused_as NotABoolean)) (refused_as WrongVersion)) (refused_as WrongLength) ≡ Err e
    → read_or_beside (pick a (pick b (pick c (Ok t) (refused_as NotABoolean)) (refused_as WrongVersion)) (refused_as WrongLength)) ≡ blank
zeros_beside true true true t e h = let n : ◌≡◌ {A = ℕ} 1 0 = ap (λ r. pick (is_ok r) 1 0) h in absurd (omega arith)
zeros_beside true true false t e h = refl
zeros_beside true false c t e h = refl
zeros_beside false b c t e h = refl

no_state : (s : List ℕ) (e : NotRead) → read_in s ≡ Err e → state_in s ≡ blank
unfolding read_in
no_state s e h = zeros_beside (right_length s) (eqb (byte_at s 0) image_version) (bits_at s booleans) (tag_in s) e h

pub no_state-unsound : (s random room : List ℕ) (e : NotRead) → read_in s ≡ Err e → 258 ≤ length room → length random ≡ 20
    → outcome_of (state_in s) random room ≡ Unsound
no_state-unsound s random room e h k l =
    ap (λ t. outcome_of t random room) (no_state s e h) ∙ sound-or-not blank random room k l
    ∙ ap (λ b. pick b Replied Unsound) zeros-unsound
