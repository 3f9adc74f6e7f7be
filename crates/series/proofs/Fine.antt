-- A sound state, clause by clause; what ends, other keys and other bytes leave it sound.
use Rattle.std.specs.Prelude.{Err}
use mathlib.Core.Path.{◌≡◌}
use mathlib.Core.Bool.{true, false}
use mathlib.Core.List.{List}
use Prim.Native.Nat.{ℕ}
use lib.Dec.{eqb, leb}
use lib.ListN.{length}
use Rattle.base.specs.Bytes.{byte_at}
use Rattle.base.proofs.Bytes.{and_left, and_right}
use Rattle.messaging.specs.declared.Mode.{Mode}
use Rattle.closing.specs.declared.NotClosed.TheVariants.{TooLong}
use Rattle.closing.specs.Reply.{overlong, closed_status}
use Rattle.state.specs.declared.Files.{Files}
use Rattle.state.specs.declared.Secrets.{Secrets}
use Rattle.state.specs.declared.Tag.{Tag}
use Rattle.state.specs.State.{rules_of, reading_in, no_live, no_pending, quieted, ended_of, filed, keyed, talking}
use Rattle.soundness.specs.Sound.{rules_sound, keys_sound, alone_sound, padding_sound, level_sound, sound_tag}
use Rattle.replies.specs.Answer.{Answer, refusal, accepted, afterwards, raised}
use Rattle.file_parts.specs.Filing.{with_bytes}
use Rattle.series.specs.Series.{Typed}
use Rattle.series.proofs.Choices.{way, both_true}
use Rattle.series.proofs.Clauses.{level_still, level_quiet, keys_none, alone_quiet, padding_none}

-- what soundness says of files, tap counter and UID, with the lengths of the settings' places
pub record Lasting (files : Files) (counter : ℕ) (uid : List ℕ) : Type 0 where
  pub rules : length files.rules ≡ 81
  pub lens : length files.lens ≡ 3
  pub one : rules_sound files 1 ≡ true
  pub two : rules_sound files 2 ≡ true
  pub three : rules_sound files 3 ≡ true
  pub range : leb counter 16777215 ≡ true
  pub first : eqb (byte_at uid 0) 4 ≡ true

-- all of soundness but the clauses of taps
pub record Calm (t : Tag) : Type 0 where
  pub lasting : Lasting t.files t.tap.counter t.uid
  pub keys : keys_sound t.live.on t.live.key t.pending.on t.pending.key ≡ true
  pub level : level_sound t.place.application t.live.on t.pending.on t.tap.on t.place.file ≡ true

pub record Fine (t : Tag) : Type 0 where
  pub calm : Calm t
  pub alone : alone_sound t.tap.on t.live.on t.pending.on (reading_in t.files 2).settings.head.sdm ≡ true
  pub padding : padding_sound t.tap.on t.tap.padding ≡ true

-- a sound state's clauses, one by one
pub record Clauses (t : Tag) : Type 0 where
  pub one : rules_sound t.files 1 ≡ true
  pub two : rules_sound t.files 2 ≡ true
  pub three : rules_sound t.files 3 ≡ true
  pub range : leb t.tap.counter 16777215 ≡ true
  pub first : eqb (byte_at t.uid 0) 4 ≡ true
  pub keys : keys_sound t.live.on t.live.key t.pending.on t.pending.key ≡ true
  pub alone : alone_sound t.tap.on t.live.on t.pending.on (reading_in t.files 2).settings.head.sdm ≡ true
  pub padding : padding_sound t.tap.on t.tap.padding ≡ true
  pub level : level_sound t.place.application t.live.on t.pending.on t.tap.on t.place.file ≡ true

pub sound_clauses : (t : Tag) → sound_tag t ≡ true → Clauses t
unfolding sound_tag
sound_clauses t e =
    let b = and_right (rules_sound t.files 1) _ e in
    let c = and_right (rules_sound t.files 2) _ b in
    let d = and_right (rules_sound t.files 3) _ c in
    let f = and_right (leb t.tap.counter 16777215) _ d in
    let g = and_right (eqb (byte_at t.uid 0) 4) _ f in
    let h = and_right (keys_sound t.live.on t.live.key t.pending.on t.pending.key) _ g in
    let sdm = (reading_in t.files 2).settings.head.sdm in
    let i = and_right (alone_sound t.tap.on t.live.on t.pending.on sdm) _ h in
    record {
      one = and_left _ _ e;
      two = and_left _ _ b;
      three = and_left _ _ c;
      range = and_left _ _ d;
      first = and_left _ _ f;
      keys = and_left _ _ g;
      alone = and_left _ _ h;
      padding = and_left _ _ i;
      level = and_right (padding_sound t.tap.on t.tap.padding) _ i;
    }

pub sound_fine : (t : Tag) → Typed t → sound_tag t ≡ true → Fine t
sound_fine t s e =
    let c = sound_clauses t e in
    record {
      calm =
          record {
            lasting =
                record { rules = s.rules; lens = s.lens; one = c.one; two = c.two; three = c.three; range = c.range; first = c.first };
            keys = c.keys;
            level = c.level;
          };
      alone = c.alone;
      padding = c.padding;
    }

pub fine_sound : (t : Tag) → Fine t → sound_tag t ≡ true
unfolding sound_tag
fine_sound t h =
    let c = h.calm in
    let l = c.lasting in
    both_true l.one
    (both_true l.two
    (both_true l.three (both_true l.range (both_true l.first (both_true c.keys (both_true h.alone (both_true h.padding c.level)))))))

-- ---- what ends, and what goes on
pub fine_ended : (t : Tag) → Calm t → Fine (ended_of t)
unfolding ended_of no_live no_pending quieted talking
fine_ended t c =
    record {
      calm =
          record {
            lasting = c.lasting;
            keys = keys_none;
            level = level_still t.place.application t.live.on t.pending.on t.tap.on t.place.file c.level;
          };
      alone = alone_quiet false false (reading_in t.files 2).settings.head.sdm;
      padding = padding_none;
    }

pub fine_after : (t : Tag) → Calm t → Fine (afterwards t)
unfolding afterwards raised quieted talking
fine_after t c =
    record {
      calm =
          record {
            lasting = c.lasting;
            keys = c.keys;
            level = level_quiet t.place.application t.live.on t.pending.on t.tap.on t.place.file c.level;
          };
      alone = alone_quiet t.live.on t.pending.on (reading_in t.files 2).settings.head.sdm;
      padding = padding_none;
    }

abbrev pub FineAfter : Answer → Type 0
FineAfter a = Fine a.tag

pub fine_refused : (t : Tag) → Calm t → (s : ℕ) → FineAfter (refusal t s)
unfolding refusal
fine_refused t c s = fine_ended t c

pub fine_accepted : (t : Tag) → Calm t → (m : Mode) (d : List ℕ) → FineAfter (accepted t m d)
unfolding accepted
fine_accepted t c m d = way FineAfter (overlong m (length d)) (λ e. fine_refused t c (closed_status (Err TooLong))) (λ e. fine_after t c)

-- ---- other keys, other bytes
pub calm_keyed : (t : Tag) → Calm t → (s : Secrets) → Calm (keyed t s)
unfolding keyed
calm_keyed t c s = record { lasting = c.lasting; keys = c.keys; level = c.level }

pub calm_filed : (t : Tag) → Calm t → (n at : ℕ) (p : List ℕ) → Calm (filed t (with_bytes t.files n at p))
unfolding filed with_bytes rules_sound rules_of
calm_filed t c n at p =
    let l = c.lasting in
    record {
      lasting =
          record { rules = l.rules; lens = l.lens; one = l.one; two = l.two; three = l.three; range = l.range; first = l.first };
      keys = c.keys;
      level = c.level;
    }
