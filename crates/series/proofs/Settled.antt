-- Accepted settings leave a sound state sound, and SDM is on in file 2 alone.
use Rattle.std.specs.Prelude.{Err, Ok}
use Rattle.settings.specs.declared.Fault.TheVariants.{File}
use mathlib.Core.Path.{◌≡◌, refl, sym, ◌∙◌, ap, ap₂, subst}
use mathlib.Core.Bool.{Bool, true, false, not}
use mathlib.Core.List.{List, [], ◌∷◌, ◌++◌}
use mathlib.Core.Logic.{⊎_elim}
use Prim.Native.Nat.{ℕ, ◌+◌, ◌-◌, ◌*◌, ◌≤◌}
use native.Mathlib.Omega.{arith}
use lib.Dec.{eqb, leb, ltb}
use lib.ListN.{length, take, replicate, length-append, length-replicate}
use lib.Seq.{take_at}
use borrow.Author.Tests.{eqb-true, eqb-false, ltb-true, ltb-false, le-leb, eq-eqb}
use Rattle.base.specs.Decide.{pick, and, or}
use Rattle.base.specs.Bytes.{byte_at}
use Rattle.base.proofs.Bytes.{le_or_lt, laid-length, same_refl, and_left}
use Rattle.messaging.specs.declared.Mode.{Mode}
use Rattle.spans.specs.declared.Reading.{Reading}
use Rattle.settings.specs.declared.FileFault.TheVariants.{OverThirtyOne, NoSuchFile}
use Rattle.settings.specs.Answers.{verdict_of, judged}
use Rattle.fields.specs.Normal.{normal}
use Rattle.fields.specs.Fields.{read_of, head_of, sdm_on}
use Rattle.spans.specs.Spans.{reading_of}
use Rattle.rules.specs.Rules.{found, sdm_file, rules}
use Rattle.meanings.proofs.Kept.{front_kept}
use Rattle.meanings.proofs.GoodForm.{normal-good}
use Rattle.meanings.proofs.NormalForm.{normal-length, normal_twice}
use Rattle.meanings.proofs.Mirrors.{good_length}
use Rattle.state.specs.declared.Files.{Files}
use Rattle.state.specs.declared.Tapping.{Tapping}
use Rattle.state.specs.declared.Tag.{Tag}
use Rattle.state.specs.State.{slot_of, rules_of, reading_in, filed, tapped}
use Rattle.soundness.specs.Sound.{rules_sound}
use Rattle.soundness.proofs.Inside.{rules-good, no_string}
use Rattle.taps.specs.Taps.{goes_on, read_status, counted, started, tap_of, tap_status, tap_part, tap_read}
use Rattle.change_settings.specs.ChangeSettings.{with_rules, recounted, restrung, by_verdict}
use Rattle.series.proofs.Choices.{not_both, way}
use Rattle.series.proofs.Places.{length_other, length_same, slot_other, slot_same, same_slot, slot_1, slot_2, slot_3, small}
use Rattle.series.proofs.Clauses.{level-file, level_on, level-selected, alone_tap, padding-tap}
use Rattle.series.proofs.Fine.{Calm, Fine, FineAfter, fine_refused, fine_accepted}

-- ---- other settings
normal-sound : (f : Files) (n : ℕ) (s : List ℕ) → byte_at f.lens (slot_of n) ≤ 27 → rules_of f n ≡ s → judged n s ≡ Ok tt → normal s ≡ s
    → rules_sound f n ≡ true
unfolding rules_sound
normal-sound f n s l e g h = rw (le-leb (byte_at f.lens (slot_of n)) 27 l, e, g, h) (same_refl s)

unfoldable pub pad_out : List ℕ → List ℕ
pad_out p = normal p ++ replicate (27 - length p) 0

-- a string is accepted only for a file that there is
pub good-file : (n : ℕ) (p : List ℕ) → judged n p ≡ Ok tt → slot_of n ≤ 2
unfolding judged
good-file n p = by (ltb 31 n) (eqb n 0) (ltb 3 n) refl refl
  where
    by : (over none past : Bool) → eqb n 0 ≡ none → ltb 3 n ≡ past
        → pick over (Err (File OverThirtyOne)) (pick (or none past) (Err (File NoSuchFile)) (verdict_of (found (rules n p)))) ≡ Ok tt → slot_of n ≤ 2
    by true none past z l e = let x : ◌≡◌ {A = ℕ} 0 1 = cc in absurd (omega arith)
    by false true past z l e = let x : ◌≡◌ {A = ℕ} 0 1 = cc in absurd (omega arith)
    by false false true z l e = let x : ◌≡◌ {A = ℕ} 0 1 = cc in absurd (omega arith)
    by false false false z l e = let o = eqb-false n 0 z in small n (⊎_elim (λ h. absurd (o (omega arith))) (λ h. h) (le_or_lt n 0)) (ltb-false 3 n l)

-- an accepted string fills its place
pub whole : (n : ℕ) (p : List ℕ) → judged n p ≡ Ok tt → length (pad_out p) ≡ 27
unfolding pad_out
whole n p g =
    let h : length p ≤ 27 = (good_length n p g).1 in
    length-append (normal p) (replicate (27 - length p) 0) ∙ ap₂ ◌+◌ (normal-length p) (length-replicate (27 - length p) 0) ∙ omega arith

module _ (f : Files) (r : length f.rules ≡ 81) (l : length f.lens ≡ 3) (n : ℕ) (p : List ℕ) (g : judged n p ≡ Ok tt) where
  front : take (length p) (pad_out p) ≡ normal p
  unfolding pad_out
  front = take_at (normal p) (replicate (27 - length p) 0) (length p) (normal-length p)

  pub restored : (k : ℕ) → slot_of n ≡ slot_of k → slot_of k ≤ 2 → rules_of (with_rules f n (pad_out p) (length p)) k ≡ normal p
  restored k e h = slot_same n k f (pad_out p) (length p) (whole n p g) r l e h ∙ front

  changed-sound : (k : ℕ) → slot_of k ≤ 2 → rules_sound f k ≡ true → rules_sound (with_rules f n (pad_out p) (length p)) k ≡ true
  unfolding rules_sound
  changed-sound k h e = by (eqb (slot_of n) (slot_of k)) refl
    where
      by : (b : Bool) → eqb (slot_of n) (slot_of k) ≡ b → rules_sound (with_rules f n (pad_out p) (length p)) k ≡ true
      by true q =
          let s : slot_of n ≡ slot_of k = eqb-true (slot_of n) (slot_of k) q in
          let b : byte_at (with_rules f n (pad_out p) (length p)).lens (slot_of k) ≡ length p = length_same n k f (pad_out p) (length p) l s h in
          let z : length p ≤ 27 = (good_length n p g).1 in
          normal-sound (with_rules f n (pad_out p) (length p)) k (normal p) (omega (arith, b, z)) (restored k s h)
          (subst (λ j. judged j (normal p) ≡ Ok tt) (same_slot n k s h) (normal-good n p g).0) (normal_twice p)
      by false q =
          let o : slot_of n ≡ slot_of k → ⊥ = λ s. not_both (sym q ∙ eq-eqb (slot_of n) (slot_of k) s) in
          rw (length_other n k f (pad_out p) (length p) o, slot_other n k f (pad_out p) (length p) (whole n p g) o) e

rules_stay : (f : Files) (n : ℕ) (text : List ℕ) (len : ℕ) → length (with_rules f n text len).rules ≡ length f.rules
unfolding with_rules
rules_stay f n text len = laid-length text (slot_of n * 27) f.rules

lens_stay : (f : Files) (n : ℕ) (text : List ℕ) (len : ℕ) → length (with_rules f n text len).lens ≡ length f.lens
unfolding with_rules
lens_stay f n text len = laid-length (len ∷ []) (slot_of n) f.lens

-- Turning SDM on from off sets the tap counter to 0; else it stays
counter-restrung : (b : Bool) (counter : ℕ) → leb counter 16777215 ≡ true → leb (pick b 0 counter) 16777215 ≡ true
counter-restrung true counter e = refl
counter-restrung false counter e = e

pub calm_restrung : (t : Tag) → Calm t → (n : ℕ) (p : List ℕ) → judged n p ≡ Ok tt → (before on : Bool)
    → Calm (restrung t before on (with_rules t.files n (pad_out p) (length p)))
unfolding restrung recounted tapped filed
calm_restrung t c n p g before on =
    let f = with_rules t.files n (pad_out p) (length p) in
    let l = c.lasting in
    let stays : (k : ℕ) → slot_of k ≤ 2 → rules_sound t.files k ≡ true → rules_sound f k ≡ true =
    changed-sound t.files l.rules l.lens n p g in
    record {
      lasting =
          record {
            rules = rules_stay t.files n (pad_out p) (length p) ∙ l.rules;
            lens = lens_stay t.files n (pad_out p) (length p) ∙ l.lens;
            one = stays 1 slot_1 l.one;
            two = stays 2 slot_2 l.two;
            three = stays 3 slot_3 l.three;
            range = counter-restrung (and on (not before)) t.tap.counter l.range;
            first = l.first;
          };
      keys = c.keys;
      level = c.level;
    }

pub fine_restrung : (t : Tag) → Calm t → (n : ℕ) (r : Reading) (p : List ℕ) (m : Mode) → judged n p ≡ Ok tt → FineAfter (by_verdict t n r p m (Ok tt))
unfolding pad_out
fine_restrung t c n r p m g =
    let before = r.settings.head.sdm in
    fine_accepted (restrung t before (sdm_on p) (with_rules t.files n (pad_out p) (length p))) (calm_restrung t c n p g before (sdm_on p)) m []

-- ---- taps
-- SDM is on only in file 2
sdm-file : (n : ℕ) (s : List ℕ) → judged n s ≡ Ok tt → (reading_of (read_of s)).settings.head.sdm ≡ true → n ≡ 2
unfolding sdm_file reading_of read_of head_of
sdm-file n s g e = eqb-true n 2 (by (sdm_on s) e (front_kept n s g).file)
  where
    by : (b : Bool) → b ≡ true → or (not b) (eqb n 2) ≡ true → eqb n 2 ≡ true
    by true q h = h
    by false q h = absurd (not_both q)

empty_off : (reading_of (read_of [])).settings.head.sdm ≡ false
unfolding reading_of read_of head_of sdm_on
empty_off = refl

pub tapped-file : (t : Tag) → Calm t → (n : ℕ) → (reading_in t.files n).settings.head.sdm ≡ true → n ≡ 2
unfolding reading_in slot_of
tapped-file t c n e = by (eqb n 1) (eqb n 2) (eqb n 3) refl refl refl
  where
    by : (a b d : Bool) → eqb n 1 ≡ a → eqb n 2 ≡ b → eqb n 3 ≡ d → n ≡ 2
    by true b d p q r = sdm-file n (rules_of t.files n) (subst (λ k. judged k (rules_of t.files k) ≡ Ok tt) (sym (eqb-true n 1 p)) (rules-good t.files 1 c.lasting.one)) e
    by false true d p q r = eqb-true n 2 q
    by false false true p q r = sdm-file n (rules_of t.files n) (subst (λ k. judged k (rules_of t.files k) ≡ Ok tt) (sym (eqb-true n 3 r)) (rules-good t.files 3 c.lasting.three)) e
    by false false false p q r =
        absurd (not_both (sym (ap (λ s. (reading_of (read_of s)).settings.head.sdm) (no_string t.files n c.lasting.lens (rw (p, q, r) refl)) ∙ empty_off) ∙ e))

-- the tap of a read has a counter in range, and runs
counted_range : (counter : ℕ) → leb counter 16777215 ≡ true → leb (counted counter) 16777215 ≡ true
unfolding counted
counted_range counter h =
    way (λ k. leb k 16777215 ≡ true) (ltb counter 16777215) (λ e. let l = ltb-true counter 16777215 e in le-leb (counter + 1) 16777215 (omega arith)) (λ e. h)

tap_range : (t : Tapping) → leb t.counter 16777215 ≡ true → (iso : Bool) (random : List ℕ) → leb (tap_of t iso random).counter 16777215 ≡ true
unfolding tap_of started
tap_range t h iso random =
    way (λ (x : Tapping). leb x.counter 16777215 ≡ true) (goes_on t iso) (λ e. h) (λ e. counted_range t.counter h)

pub tap-runs : (t : Tapping) (iso : Bool) (random : List ℕ) → (tap_of t iso random).on ≡ true
unfolding tap_of started goes_on
tap-runs t iso random = way (λ (x : Tapping). x.on ≡ true) (goes_on t iso) (λ e. and_left t.on _ e) (λ e. refl)

pub fine_tapped : (t : Tag) → Fine t → (n : ℕ) (iso : Bool) (random : List ℕ) (at count : ℕ)
    → (reading_in t.files n).settings.head.sdm ≡ true → t.live.on ≡ false → t.pending.on ≡ false
    → or t.place.application (not (eqb t.place.file 0)) ≡ true → FineAfter (tap_read t (reading_in t.files n) iso at count random)
unfolding tap_read tap_part tapped
fine_tapped t h n iso random at count sdm off free placed =
    let c = h.calm in
    let l = c.lasting in
    let status = read_status t.tap (reading_in t.files n) iso in
    let now = tap_of t.tap iso random in
    way FineAfter (eqb status 0)
    (λ e.
    record {
      calm =
          record {
            lasting =
                record {
                  rules = l.rules;
                  lens = l.lens;
                  one = l.one;
                  two = l.two;
                  three = l.three;
                  range = tap_range t.tap l.range iso random;
                  first = l.first;
                };
            keys = c.keys;
            level =
                level_on t.place.application t.live.on t.pending.on now.on t.place.file
                (level-selected t.place.application t.live.on t.pending.on t.tap.on t.place.file c.level placed)
                (level-file t.place.application t.live.on t.pending.on t.tap.on t.place.file c.level);
          };
      alone =
          alone_tap now.on t.live.on t.pending.on (reading_in t.files 2).settings.head.sdm off free
          (subst (λ k. (reading_in t.files k).settings.head.sdm ≡ true) (tapped-file t c n sdm) sdm);
      padding = padding-tap now.on now.padding (tap-runs t.tap iso random);
    })
    (λ e. fine_refused t c (tap_status iso status))
