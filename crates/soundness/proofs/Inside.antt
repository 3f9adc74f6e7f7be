-- Of a sound state: every span that the settings of a file place ends inside the file.
use mathlib.Core.Path.{◌≡◌, refl, sym, ap, subst, ◌∙◌}
use mathlib.Core.Bool.{Bool, true, false}
use mathlib.Core.List.{List, []}
use Prim.Native.Nat.{ℕ, ◌*◌}
use native.Mathlib.Omega.{arith}
use lib.Dec.{eqb, leb}
use lib.ListN.{length, take, drop, get_or-eq_default}
use borrow.Author.Tests.{eqb-true}
use Rattle.std.specs.Prelude.{Ok, Err}
use Rattle.base.specs.Bytes.{byte_at}
use Rattle.base.proofs.Bytes.{and_left, and_right}
use Rattle.fields.specs.Fields.{read_of, head_of, sdm_on, sdm_byte, has_uid, has_counter, has_picc, has_enc, has_mac}
use Rattle.fields.specs.declared.Settings.{Settings}
use Rattle.spans.specs.Spans.{span, uid_span, counter_span, picc_span, enc_span, mac_span, spans_of, reading_of, SpansFit}
use Rattle.settings.specs.Answers.{Verdict, judged}
use Rattle.meanings.specs.Placing.{Placed}
use Rattle.meanings.proofs.Mirrors.{good_placed}
use Rattle.state.specs.declared.Files.{Files}
use Rattle.state.specs.declared.Tag.{Tag}
use Rattle.state.specs.State.{slot_of, rules_of, reading_in}
use Rattle.soundness.specs.Sound.{good, rules_sound, sound_tag}

-- ---- a file's string
good_is : (v : Verdict) → good v ≡ true → v ≡ Ok tt
good_is (Ok tt) e = refl
good_is (Err f) e = cc

pub rules-good : (f : Files) (n : ℕ) → rules_sound f n ≡ true → judged n (rules_of f n) ≡ Ok tt
unfolding rules_sound
rules-good f n e = good_is (judged n (rules_of f n)) (and_left _ _ (and_right (leb (byte_at f.lens (slot_of n)) 27) _ e))

-- a number that no file has has no string
pub no_string : (f : Files) (n : ℕ) → length f.lens ≡ 3 → slot_of n ≡ 3 → rules_of f n ≡ []
unfolding rules_of
no_string f n l e =
    ap (λ i. take (byte_at f.lens i) (take 27 (drop (slot_of n * 27) f.rules))) e
    ∙ ap (λ k. take k (take 27 (drop (slot_of n * 27) f.rules))) (get_or-eq_default f.lens 0 {n = 3} (omega arith))

-- ---- its spans
placed-spans : (r : Settings) → Placed r → SpansFit (reading_of r)
unfolding reading_of spans_of
placed-spans r p =
    record {
      spans = refl;
      uid = p.end 0;
      counter = p.end 1;
      picc = p.end 2;
      enc = p.end 3;
      mac = p.end 4;
    }

good-spans : (n : ℕ) (s : List ℕ) → judged n s ≡ Ok tt → SpansFit (reading_of (read_of s))
good-spans n s e = placed-spans (read_of s) (good_placed n s e)

empty-spans : SpansFit (reading_of (read_of []))
unfolding reading_of read_of head_of sdm_on sdm_byte uid_span counter_span picc_span enc_span mac_span span has_uid has_counter has_picc has_enc has_mac
empty-spans =
    record { spans = refl; uid = omega arith; counter = omega arith; picc = omega arith; enc = omega arith; mac = omega arith }

-- ---- of a sound state
pub rules-spans : (f : Files) (n : ℕ) → rules_sound f n ≡ true → SpansFit (reading_in f n)
unfolding reading_in
rules-spans f n e = good-spans n (rules_of f n) (rules-good f n e)

first_sound : (t : Tag) → sound_tag t ≡ true → rules_sound t.files 1 ≡ true
unfolding sound_tag
first_sound t e = and_left (rules_sound t.files 1) _ e

pub second-sound : (t : Tag) → sound_tag t ≡ true → rules_sound t.files 2 ≡ true
unfolding sound_tag
second-sound t e = and_left (rules_sound t.files 2) _ (and_right (rules_sound t.files 1) _ e)

third_sound : (t : Tag) → sound_tag t ≡ true → rules_sound t.files 3 ≡ true
unfolding sound_tag
third_sound t e = and_left (rules_sound t.files 3) _ (and_right (rules_sound t.files 2) _ (and_right (rules_sound t.files 1) _ e))

-- whatever the number of the file
pub sound-spans : (t : Tag) → sound_tag t ≡ true → length t.files.lens ≡ 3 → (n : ℕ) → SpansFit (reading_in t.files n)
unfolding reading_in slot_of
sound-spans t s l n = by (eqb n 1) (eqb n 2) (eqb n 3) refl refl refl
  where
    is : (k : ℕ) → rules_sound t.files k ≡ true → eqb n k ≡ true → SpansFit (reading_in t.files n)
    is k r e = subst (λ i. SpansFit (reading_in t.files i)) (sym (eqb-true n k e)) (rules-spans t.files k r)

    by : (a b c : Bool) → eqb n 1 ≡ a → eqb n 2 ≡ b → eqb n 3 ≡ c → SpansFit (reading_in t.files n)
    by true b c p q r = is 1 (first_sound t s) p
    by false true c p q r = is 2 (second-sound t s) q
    by false false true p q r = is 3 (third_sound t s) r
    by false false false p q r =
        subst (λ x. SpansFit (reading_of (read_of x))) (sym (no_string t.files n l (rw (p, q, r) refl))) empty-spans
