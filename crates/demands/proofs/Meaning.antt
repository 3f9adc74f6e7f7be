-- Two accepted changes behave alike exactly when their strings have one normal form.
use Rattle.std.specs.Prelude.{Ok}
use mathlib.Core.Path.{◌≡◌, refl, sym, ◌∙◌, ap, ap₂, subst}
use mathlib.Core.Bool.{Bool, true, false}
use mathlib.Core.List.{List, [], ◌∷◌, ◌++◌}
use Prim.Native.Nat.{ℕ, ◌+◌, ◌-◌, ◌≤◌}
use native.Mathlib.Omega.{arith}
use lib.Dec.{eqb}
use lib.ListN.{length, take, replicate, length-append, length-take, length-drop}
use lib.Seq.{take_at}
use borrow.Author.Tests.{eqb-true, le-ltb}
use Rattle.base.specs.Decide.{pick, and}
use Rattle.base.specs.Bytes.{byte_at, low, same}
use Rattle.base.proofs.Bytes.{and_left, and_right}
use Rattle.messaging.specs.declared.Mode.{Mode}
use Rattle.messaging.specs.declared.Mode.TheVariants.{Plain}
use Rattle.messaging.specs.Protect.{signed, sent}
use Rattle.closing.specs.Reply.{closed, closed_length, overlong}
use Rattle.fields.specs.Fields.{sdm_on}
use Rattle.fields.specs.Normal.{normal}
use Rattle.meanings.proofs.NormalForm.{normal-length, normal-sdm}
use Rattle.meanings.proofs.Mirrors.{good_length}
use Rattle.order.specs.declared.Name.TheVariants.{ChangeFileSettings}
use Rattle.state.specs.declared.Tag.{Tag}
use Rattle.state.specs.State.{size_of, rules_of, reading_in, no_live, no_pending, ended_of, filed, placed, talking, tapped}
use Rattle.soundness.specs.Sound.{sound_tag}
use Rattle.access.specs.Access.{decided}
use Rattle.replies.specs.Answer.{Answer, refusal, accepted, afterwards}
use Rattle.details.specs.Details.{settings_reply, file_settings}
use Rattle.change_settings.specs.ChangeSettings.{with_rules, restrung, by_verdict}
use Rattle.selects.specs.Selects.{moved, by_name, selected}
use Rattle.tag.specs.declared.Outcome.{Outcome}
use Rattle.tag.specs.declared.Outcome.TheVariants.{Replied}
use Rattle.order.specs.Order.{command_data}
use Rattle.order.specs.Commands.{ordered}
use Rattle.tag.specs.Way.{commanded, on_order, answered, noted}
use Rattle.tag.specs.Call.{with_status, reply_of, outcome_of, replied, by_outcome}
use Rattle.series.specs.Series.{Asked, step, accepting, Typed}
use Rattle.series.specs.Worked.{select_application, settings_of}
use Rattle.series.proofs.Choices.{way}
use Rattle.series.proofs.Places.{each-file, small}
use Rattle.series.proofs.Computing.{access, a_message, an_iso_order, a_wrapped-command}
use Rattle.series.proofs.Fine.{Fine, fine_sound, sound_fine}
use Rattle.series.proofs.Soundness.{fine_answered, fine_step}
use Rattle.demands.specs.Talks.{Said, heard, said, said_all, Alike, is_change, string_in, string_of_reply, telling, Tells, Exactly}
use Rattle.demands.proofs.Changing.{Changed, accepted-change, string-sent}
use Rattle.demands.proofs.Series.{answered-rules}
use Rattle.demands.proofs.Readback.{string_read}

-- ---- one normal form, one tag
module _ (t : Tag) (c d : List ℕ) (u v : Tag) (h : Changed t c u) (k : Changed t d v) (file : byte_at (command_data c) 0 ≡ byte_at (command_data d) 0) where
  one_mode : h.mode ≡ k.mode
  one_mode =
      sym h.sent.decides
      ∙ ap (λ n. (decided ChangeFileSettings t.live (reading_in t.files n).settings.head).mode) file
      ∙ k.sent.decides

  one_tag : normal h.text ≡ normal k.text → u ≡ v
  one_tag e =
      let l : length h.text ≡ length k.text = sym (normal-length h.text) ∙ ap length e ∙ normal-length k.text in
      let on : sdm_on h.text ≡ sdm_on k.text = sym (normal-sdm h.text) ∙ ap sdm_on e ∙ normal-sdm k.text in
      let n = byte_at (command_data d) 0 in
      let before = (reading_in t.files n).settings.head.sdm in
      let put : Bool → List ℕ → ℕ → Tag =
      λ o s i. (accepted (restrung t before o (with_rules t.files n (s ++ replicate (27 - i) 0) i)) k.mode []).tag in
      h.is
      ∙ ap₂ (λ j m. (by_verdict t j (reading_in t.files j) h.text m (Ok tt)).tag) file one_mode
      ∙ ap (λ o. put o (normal h.text) (length h.text)) on
      ∙ ap₂ (put (sdm_on k.text)) e l
      ∙ sym k.is

alike_same : (t u : Tag) → t ≡ u → Alike t u
unfolding Alike
alike_same t u e asked = ap (λ v. said_all v asked) e

-- ---- the series that tells: what it is answered
-- selecting the application is answered by every tag with no part two pending
select_moves : (u : Tag) (random : List ℕ) → u.pending.on ≡ false → answered u select_application random ≡ moved u true
unfolding answered an_iso_order commanded select_application selected by_name same
select_moves u random e =
    ap (λ (p : Bool). on_order u select_application random (ordered select_application p u.place.application u.place.file)) e

-- GetFileSettings is answered by every tag in the application, with no session and no part two pending
abbrev answers_settings : Tag → ℕ → List ℕ → Type 0
answers_settings u n random =
    reply_of (answered (moved u true).tag (settings_of n) random)
    ≡ reply_of (accepted (moved u true).tag Plain (settings_reply (rules_of u.files n) (size_of n)))

tells_1 : (u : Tag) (random : List ℕ) → answers_settings u 1 random
unfolding a_wrapped-command access a_message answered settings_of moved no_live no_pending file_settings placed ended_of talking reply_of
tells_1 u random = refl

tells_2 : (u : Tag) (random : List ℕ) → answers_settings u 2 random
unfolding a_wrapped-command access a_message answered settings_of moved no_live no_pending file_settings placed ended_of talking reply_of
tells_2 u random = refl

tells_3 : (u : Tag) (random : List ℕ) → answers_settings u 3 random
unfolding a_wrapped-command access a_message answered settings_of moved no_live no_pending file_settings placed ended_of talking reply_of
tells_3 u random = refl

tells : (u : Tag) (random : List ℕ) (n : ℕ) → 1 ≤ n → n ≤ 3 → answers_settings u n random
tells u random = each-file (λ i. answers_settings u i random) (tells_1 u random) (tells_2 u random) (tells_3 u random)

-- a reply in Plain, under 256 bytes
plain-reply : (u : Tag) (d : List ℕ) → length d ≤ 256 → reply_of (accepted u Plain d) ≡ d ++ 0x91 ∷ 0x00 ∷ []
unfolding reply_of with_status accepted overlong closed_length closed signed sent
plain-reply u d h = rw (le-ltb 256 (length d) h) refl

-- ---- two replies that are equal hold one string
same_front : (x y z : List ℕ) → x ++ z ≡ y ++ z → x ≡ y
same_front x y z e =
    let a : length (x ++ z) ≡ length x + length z = length-append x z in
    let b : length (y ++ z) ≡ length y + length z = length-append y z in
    let c : length (x ++ z) ≡ length (y ++ z) = ap length e in
    let l : length y ≡ length x = omega arith in
    sym (take_at x z (length x) refl) ∙ ap (take (length x)) e ∙ take_at y z (length x) l

reply-short : (s : List ℕ) (size : ℕ) → length s ≤ 27 → length (settings_reply s size) ≤ 256
unfolding settings_reply low
reply-short s size h = simp (length-append, length-take, length-drop) (omega arith)

-- ---- a sound tag with no part two pending answers the series
abbrev zeros20 : List ℕ
zeros20 = replicate 20 0

abbrev zeros258 : List ℕ
zeros258 = replicate 258 0

replied-outcome : (u : Tag) → sound_tag u ≡ true → outcome_of u zeros20 zeros258 ≡ Replied
unfolding outcome_of
replied-outcome u e = rw e refl

abbrev asking : List ℕ → Asked
asking c = record { command = c; random = zeros20; room = zeros258 }

step-moves : (u : Tag) → sound_tag u ≡ true → u.pending.on ≡ false → step u (asking select_application) ≡ (moved u true).tag
unfolding step replied
step-moves u e p = ap₂ (λ (a : Answer) (o : Outcome). (by_outcome u a (noted u select_application) o).tag) (select_moves u zeros20 p) (replied-outcome u e)

telling_is : (n : ℕ) → telling n ≡ asking select_application ∷ asking (settings_of n) ∷ []
unfolding telling
telling_is n = refl

second : List Said → List ℕ
second [] = []
second (x ∷ []) = []
second (x ∷ y ∷ more) = y.reply

second-heard : (u : Tag) → Fine u → u.pending.on ≡ false → (n : ℕ) → 1 ≤ n → n ≤ 3 → length (rules_of u.files n) ≤ 27
    → second (said_all u (telling n)) ≡ settings_reply (rules_of u.files n) (size_of n) ++ 0x91 ∷ 0x00 ∷ []
unfolding second said_all said
second-heard u f p n a b l =
    let v = step u (asking select_application) in
    let d = settings_reply (rules_of u.files n) (size_of n) in
    ap (λ asked. second (said_all u asked)) (telling_is n)
    ∙ ap (λ o. heard (answered v (settings_of n) zeros20) o) (replied-outcome v (fine_sound v (fine_step u f (asking select_application))))
    ∙ ap (λ w. reply_of (answered w (settings_of n) zeros20)) (step-moves u (fine_sound u f) p)
    ∙ tells u zeros20 n a b
    ∙ plain-reply (moved u true).tag d (reply-short (rules_of u.files n) (size_of n) l)

-- ---- what a change leaves
still_idle : (u : Tag) (m : Mode) → u.pending.on ≡ false → (accepted u m []).tag.pending.on ≡ false
unfolding accepted refusal ended_of no_pending afterwards talking
still_idle u m e = way (λ (a : Answer). a.tag.pending.on ≡ false) (overlong m 0) (λ z. refl) (λ z. e)

idle-after : (t : Tag) (c : List ℕ) (u : Tag) → Changed t c u → u.pending.on ≡ false
unfolding restrung tapped filed
idle-after t c u h =
    let n = byte_at (command_data c) 0 in
    let p = h.text in
    ap (λ (x : Tag). x.pending.on) h.is
    ∙ still_idle
    (restrung t (reading_in t.files n).settings.head.sdm (sdm_on p) (with_rules t.files n (normal p ++ replicate (27 - length p) 0) (length p)))
    h.mode h.idle

module _ (t : Tag) (f : Fine t) (n : ℕ) (a : 1 ≤ n) (b : n ≤ 3) (c random : List ℕ) (change : is_change c n ≡ true) (fair : accepting (answered t c random).status ≡ true) where
  next : Tag
  next = (answered t c random).tag

  is_changed : Changed t c (answered t c random).tag
  unfolding is_change
  is_changed =
      accepted-change t c random (eqb-true (byte_at c 0) 0x90 (and_left _ _ change))
      (eqb-true (byte_at c 1) 0x5F (and_left _ _ (and_right (eqb (byte_at c 0) 0x90) _ change))) fair

  file_is : byte_at (command_data c) 0 ≡ n
  unfolding is_change
  file_is =
      eqb-true (byte_at (command_data c) 0) n (and_right (eqb (byte_at c 1) 0x5F) _ (and_right (eqb (byte_at c 0) 0x90) _ change))

  string_is : string_in t c ≡ is_changed.text
  string_is = string-sent t c is_changed.text is_changed.mode is_changed.sent

  holds : rules_of next.files n ≡ normal (string_in t c)
  unfolding next
  holds =
      answered-rules t f c random n (small n a b)
      ∙ ap₂ (λ x y. pick (and x y) (normal (string_in t c)) (rules_of t.files n)) change fair

  short : length (rules_of next.files n) ≤ 27
  short =
      let l : length is_changed.text ≤ 27 = (good_length (byte_at (command_data c) 0) is_changed.text is_changed.good).1 in
      subst (λ k. k ≤ 27) (sym (ap length (holds ∙ ap normal string_is) ∙ normal-length is_changed.text)) l

  long : 3 ≤ length (normal (string_in t c))
  long =
      let l : 3 ≤ length is_changed.text = (good_length (byte_at (command_data c) 0) is_changed.text is_changed.good).0 in
      subst (λ k. 3 ≤ k) (sym (ap length (ap normal string_is) ∙ normal-length is_changed.text)) l

  told : second (said_all next (telling n)) ≡ settings_reply (normal (string_in t c)) (size_of n) ++ 0x91 ∷ 0x00 ∷ []
  unfolding next
  told =
      second-heard (answered t c random).tag (fine_answered t f c random) (idle-after t c (answered t c random).tag is_changed) n a b short
      ∙ ap (λ s. settings_reply s (size_of n) ++ 0x91 ∷ 0x00 ∷ []) holds

-- For any sound tag, file and two ChangeFileSettings commands that this tag accepts, given the same random bytes: where the two
-- resulting tags answer the series `telling` alike, the two strings have one normal form.
pub telling-apart : (t : Tag) → Typed t → sound_tag t ≡ true → (n : ℕ) → 1 ≤ n → n ≤ 3 → (c d random : List ℕ) → is_change c n ≡ true
    → is_change d n ≡ true → accepting (answered t c random).status ≡ true → accepting (answered t d random).status ≡ true
    → Tells t n c d random
unfolding next
telling-apart t s e n a b c d random p q x y l =
    let f = sound_fine t s e in
    let r = sym (told t f n a b c random p x) ∙ ap second l ∙ told t f n a b d random q y in
    let v = settings_reply (normal (string_in t c)) (size_of n) in
    let w = same_front v (settings_reply (normal (string_in t d)) (size_of n)) (0x91 ∷ 0x00 ∷ []) r in
    sym (string_read (normal (string_in t c)) (size_of n) (long t f n a b c random p x))
    ∙ ap string_of_reply w
    ∙ string_read (normal (string_in t d)) (size_of n) (long t f n a b d random q y)

-- and where the two strings have one normal form, the two tags are one
forms_alike : (t : Tag) → Typed t → sound_tag t ≡ true → (n : ℕ) → 1 ≤ n → n ≤ 3 → (c d random : List ℕ) → is_change c n ≡ true
    → is_change d n ≡ true → accepting (answered t c random).status ≡ true → accepting (answered t d random).status ≡ true
    → normal (string_in t c) ≡ normal (string_in t d) → Alike (answered t c random).tag (answered t d random).tag
forms_alike t s e n a b c d random p q x y o =
    let f = sound_fine t s e in
    alike_same (answered t c random).tag (answered t d random).tag
    (one_tag t c d (answered t c random).tag (answered t d random).tag (is_changed t f n a b c random p x) (is_changed t f n a b d random q y)
    (file_is t f n a b c random p x ∙ sym (file_is t f n a b d random q y))
    (sym (ap normal (string_is t f n a b c random p x)) ∙ o ∙ ap normal (string_is t f n a b d random q y)))

-- tags that are alike answer `telling` alike
alike-told : (t u : Tag) (n : ℕ) → Alike t u → said_all t (telling n) ≡ said_all u (telling n)
unfolding Alike
alike-told t u n l = l (telling n)

-- For the same two changes: the two resulting tags give the same replies to every later series of commands exactly when the two
-- strings have one normal form.
pub alike_exactly : (t : Tag) → Typed t → sound_tag t ≡ true → (n : ℕ) → 1 ≤ n → n ≤ 3 → (c d random : List ℕ) → is_change c n ≡ true
    → is_change d n ≡ true → accepting (answered t c random).status ≡ true → accepting (answered t d random).status ≡ true
    → Exactly t c d random
alike_exactly t s e n a b c d random p q x y =
    record {
      alike = forms_alike t s e n a b c d random p q x y;
      one_form = λ l. telling-apart t s e n a b c d random p q x y (alike-told (answered t c random).tag (answered t d random).tag n l);
    }
