-- Sound in, sound out: every call, and so any series, leaves a sound state sound.
use Rattle.std.specs.Prelude.{Option}
use Rattle.access.specs.declared.Grant.{Grant}
use mathlib.Core.Path.{◌≡◌, refl}
use mathlib.Core.Bool.{Bool, true, false}
use mathlib.Core.List.{List, [], ◌∷◌}
use Prim.Native.Nat.{ℕ, ◌≤◌}
use lib.ListN.{drop}
use borrow.Author.Tests.{le-leb}
use Rattle.base.specs.Decide.{or}
use Rattle.messaging.specs.declared.Mode.TheVariants.{Full}
use Rattle.state.specs.declared.Live.{Live}
use Rattle.state.specs.declared.Pending.{Pending}
use Rattle.state.specs.declared.Tag.{Tag}
use Rattle.state.specs.State.{reading_in, no_live, no_pending, quieted, ended_of, filed, keyed, placed, talking, tapped}
use Rattle.soundness.specs.Sound.{keys_sound, sound_tag}
use Rattle.replies.specs.Answer.{Answer}
use Rattle.file_parts.specs.Filing.{stored_iso, with_bytes}
use Rattle.auth.specs.Parts.{begun}
use Rattle.part_two.specs.PartTwo.{session_from, entered_first, entered_next, entered}
use Rattle.selects.specs.Selects.{moved, selected_file}
use Rattle.tag.specs.Way.{answered, noted}
use Rattle.tag.specs.Call.{outcome_of, replied, unanswered, by_outcome}
use Rattle.tag.specs.declared.Outcome.{Outcome}
use Rattle.tag.specs.declared.Outcome.TheVariants.{Replied, SmallRoom, WrongRandom, Unsound}
use Rattle.series.specs.Series.{Asked, step, after, Typed}
use Rattle.series.proofs.Choices.{way}
use Rattle.series.proofs.Walk.{Kinds, every_answer}
use Rattle.series.proofs.Clauses.{level-file, level_on, level_zero, level-pending, level-either, keys_pending, keys_begun, keys_entered, keys_none, alone_quiet, padding_none}
use Rattle.series.proofs.Fine.{Calm, Fine, FineAfter, sound_fine, fine_sound, fine_ended, fine_after, fine_refused, fine_accepted, calm_keyed, calm_filed}
use Rattle.series.proofs.Settled.{fine_restrung, fine_tapped}

-- ---- authentication
fine_talking : (t : Tag) → Calm t → (l : Live) (p : Pending) → keys_sound l.on l.key p.on p.key ≡ true → t.place.application ≡ true
    → Fine (talking t l p)
unfolding talking quieted
fine_talking t c l p k a =
    record {
      calm =
          record {
            lasting = c.lasting;
            keys = k;
            level =
                level_on t.place.application l.on p.on false t.place.file a
                (level-file t.place.application t.live.on t.pending.on t.tap.on t.place.file c.level);
          };
      alone = alone_quiet l.on p.on (reading_in t.files 2).settings.head.sdm;
      padding = padding_none;
    }

fine_begun : (t : Tag) → Calm t → (p : Pending) → p.key ≤ 4 → or t.place.application t.live.on ≡ true → FineAfter (begun t p)
unfolding begun no_live
fine_begun t c p k a =
    fine_talking t c no_live p (keys_begun p.on p.key (le-leb p.key 4 k))
    (level-either t.place.application t.live.on t.pending.on t.tap.on t.place.file c.level a)

fine_entered : (t : Tag) → Calm t → t.pending.on ≡ true → (kx a random : List ℕ) → FineAfter (entered t kx a random)
unfolding entered entered_first entered_next session_from no_pending
fine_entered t c p kx a random =
    let k = keys_entered t.pending.key (keys_pending t.live.on t.pending.on t.live.key t.pending.key c.keys p) in
    let h = level-pending t.place.application t.live.on t.pending.on t.tap.on t.place.file c.level p in
    way FineAfter t.pending.first (λ e. fine_talking t c (session_from t.pending kx a (drop 16 random) 0) no_pending k h)
    (λ e. fine_talking t c (session_from t.pending kx a t.pending.ti t.pending.counter) no_pending k h)

-- ---- selects
fine_moved : (t : Tag) → Calm t → (application : Bool) → FineAfter (moved t application)
unfolding moved no_live no_pending quieted placed ended_of talking
fine_moved t c application =
    record {
      calm =
          record {
            lasting = c.lasting;
            keys = keys_none;
            level = level_zero application;
          };
      alone = alone_quiet false false (reading_in t.files 2).settings.head.sdm;
      padding = padding_none;
    }

fine_selected : (t : Tag) → Calm t → (n : ℕ) → n ≤ 3 → FineAfter (selected_file t n)
unfolding selected_file quieted placed tapped
fine_selected t c n h =
    way FineAfter t.place.application
    (λ e.
    record {
      calm =
          record {
            lasting = c.lasting;
            keys = c.keys;
            level = level_on true t.live.on t.pending.on false n refl (le-leb n 3 h);
          };
      alone = alone_quiet t.live.on t.pending.on (reading_in t.files 2).settings.head.sdm;
      padding = padding_none;
    })
    (λ e. fine_refused t c 0x6A82)

-- ---- every call, and any series
fine_kinds : (t : Tag) → Fine t → (c random : List ℕ) → Kinds t c random FineAfter
unfolding stored_iso
fine_kinds t h c random =
    let h₀ = h.calm in
    record {
      refuses = fine_refused t h₀;
      begins = fine_begun t h₀;
      enters = λ p kx a. fine_entered t h₀ p kx a random;
      answers = fine_accepted t h₀;
      rekeys = λ s. fine_accepted (keyed t s) (calm_keyed t h₀ s) Full [];
      rekeys_first = λ s. fine_ended (keyed t s) (calm_keyed t h₀ s);
      writes = λ n at p m w. fine_accepted (filed t (with_bytes t.files n at p)) (calm_filed t h₀ n at p) m [];
      writes_iso = λ n at p w. fine_after (filed t (with_bytes t.files n at p)) (calm_filed t h₀ n at p);
      restrings = λ n p m s. fine_restrung t h₀ n (reading_in t.files n) p m;
      taps = λ n iso at count. fine_tapped t h n iso random at count;
      reads_iso = λ n at count. fine_after t h₀;
      moves = fine_moved t h₀;
      selects = fine_selected t h₀;
      costs = λ n a f. f;
    }

pub fine_answered : (t : Tag) → Fine t → (c random : List ℕ) → Fine (answered t c random).tag
fine_answered t h c random = every_answer t c random FineAfter (fine_kinds t h c random)

fine_outcome : (t : Tag) → Fine t → (a : Answer) → Fine a.tag → (n : Option Grant) (o : Outcome) → Fine (by_outcome t a n o).tag
unfolding replied unanswered
fine_outcome t h a f n Replied = f
fine_outcome t h a f n SmallRoom = h
fine_outcome t h a f n WrongRandom = h
fine_outcome t h a f n Unsound = h

pub fine_step : (t : Tag) → Fine t → (a : Asked) → Fine (step t a)
unfolding step
fine_step t h a =
    fine_outcome t h (answered t a.command a.random)
    (fine_answered t h a.command a.random) (noted t a.command) (outcome_of t a.random a.room)

pub fine_series : (t : Tag) → Fine t → (more : List Asked) → Fine (after t more)
unfolding after
fine_series t h [] = h
fine_series t h (a ∷ more) = fine_series (step t a) (fine_step t h a) more

-- a sound state stays sound, whatever is asked, once and in any series
pub sound_call : (t : Tag) → Typed t → sound_tag t ≡ true → (a : Asked) → sound_tag (step t a) ≡ true
sound_call t s e a = fine_sound (step t a) (fine_step t (sound_fine t s e) a)

pub sound_series : (t : Tag) → Typed t → sound_tag t ≡ true → (asked : List Asked) → sound_tag (after t asked) ≡ true
sound_series t s e asked = fine_sound (after t asked) (fine_series t (sound_fine t s e) asked)
