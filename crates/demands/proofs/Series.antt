-- What a series leaves: each file holds the normal form of the last change accepted for it.
use mathlib.Core.Path.{◌≡◌, refl, sym, ◌∙◌, ap}
use mathlib.Core.Bool.{Bool, true, false}
use mathlib.Core.List.{List, [], ◌∷◌}
use Prim.Native.Nat.{ℕ, ◌≤◌}
use lib.Dec.{eqb, ltb}
use lib.ListN.{length}
use borrow.Author.Tests.{eqb-true, eq-eqb}
use Rattle.base.specs.Decide.{pick, and}
use Rattle.base.specs.Bytes.{byte_at}
use Rattle.messaging.specs.declared.Mode.{Mode}
use Rattle.closing.specs.Reply.{overlong}
use Rattle.fields.specs.Fields.{sdm_on}
use Rattle.fields.specs.Normal.{normal}
use Rattle.state.specs.declared.Files.{Files}
use Rattle.state.specs.declared.Tag.{Tag}
use Rattle.state.specs.State.{slot_of, rules_of, reading_in, ended_of, filed, talking, tapped}
use Rattle.delivery.specs.Fresh.{delivered_files, fresh_tag}
use Rattle.soundness.specs.Sound.{sound_tag}
use Rattle.replies.specs.Answer.{Answer, refusal, accepted, afterwards}
use Rattle.file_parts.specs.Filing.{with_bytes}
use Rattle.change_settings.specs.ChangeSettings.{with_rules, restrung}
use Rattle.tag.specs.declared.Outcome.{Outcome}
use Rattle.tag.specs.declared.Outcome.TheVariants.{Replied, SmallRoom, WrongRandom, Unsound}
use Rattle.order.specs.Order.{command_data}
use Rattle.tag.specs.Way.{answered, noted}
use Rattle.tag.specs.Call.{outcome_of, replied, unanswered, by_outcome}
use Rattle.series.specs.Series.{Asked, step, after, accepting, replies, accepts, Typed}
use Rattle.series.proofs.Choices.{not_both, way}
use Rattle.series.proofs.Walk.{Sent}
use Rattle.series.proofs.Places.{slot_other, same_slot, each-file, small}
use Rattle.series.proofs.Fine.{Fine, sound_fine}
use Rattle.series.proofs.Settled.{pad_out, restored, whole}
use Rattle.series.proofs.Filed.{files-left}
use Rattle.series.proofs.Soundness.{fine_step}
use Rattle.series.proofs.Born.{fresh_typed}
use Rattle.series.proofs.Changes.{refused_call, changed-accepted}
use Rattle.demands.specs.Talks.{is_change, string_in, changes, last_change, delivered}
use Rattle.demands.proofs.Changing.{Changed, accepted-change, string-sent}

-- ---- a command that is no change leaves every string
keeps_strings : (t : Tag) (c random : List ℕ) (n : ℕ) → and (eqb (byte_at c 0) 0x90) (eqb (byte_at c 1) 0x5F) ≡ false
    → rules_of (answered t c random).tag.files n ≡ rules_of t.files n
unfolding with_bytes rules_of
keeps_strings t c random n other =
    files-left t c random (λ f. rules_of f n ≡ rules_of t.files n)
    (record { stays = refl; writes = λ m at p w. refl; restrings = λ m p mode s g. absurd (not_both (sym other ∙ sent s)) })
  where
    sent : {m : ℕ} {p : List ℕ} {mode : Mode} → Sent t c m p mode → and (eqb (byte_at c 0) 0x90) (eqb (byte_at c 1) 0x5F) ≡ true
    sent s = rw (s.class, s.command) refl

-- ---- an accepted change puts its normal form, and leaves the other files' strings
changed-rules : (t : Tag) (before on : Bool) (f : Files) (mode : Mode) → rules_of (accepted (restrung t before on f) mode []).tag.files ≡ rules_of f
unfolding accepted refusal ended_of afterwards restrung talking tapped filed
changed-rules t before on f mode = way (λ (a : Answer). rules_of a.tag.files ≡ rules_of f) (overlong mode 0) (λ z. refl) (λ z. refl)

-- what is not accepted changes nothing
never : (b : Bool) (x y : List ℕ) → y ≡ pick (and b false) x y
never true x y = refl
never false x y = refl

module _ (t : Tag) (f : Fine t) (c random : List ℕ) (n : ℕ) (small : slot_of n ≤ 2) where
  put : (u : Tag) → Changed t c u
      → rules_of u.files n ≡ pick (eqb (byte_at (command_data c) 0) n) (normal (string_in t c)) (rules_of t.files n)
  unfolding pad_out
  put u h =
      let m = byte_at (command_data c) 0 in
      let w = with_rules t.files m (pad_out h.text) (length h.text) in
      let before = (reading_in t.files m).settings.head.sdm in
      let e : rules_of u.files n ≡ rules_of w n =
      ap (λ (x : Tag). rules_of x.files n) h.is ∙ ap (λ g. g n) (changed-rules t before (sdm_on h.text) w h.mode) in
      e ∙ by (eqb m n) refl
    where
      by : (b : Bool) → eqb (byte_at (command_data c) 0) n ≡ b
          → rules_of (with_rules t.files (byte_at (command_data c) 0) (pad_out h.text) (length h.text)) n ≡ pick b (normal (string_in t c)) (rules_of t.files n)
      by true q =
          restored t.files f.calm.lasting.rules f.calm.lasting.lens (byte_at (command_data c) 0) h.text h.good n (ap slot_of (eqb-true (byte_at (command_data c) 0) n q)) small
          ∙ ap normal (sym (string-sent t c h.text h.mode h.sent))
      by false q =
          slot_other (byte_at (command_data c) 0) n t.files (pad_out h.text) (length h.text)
          (whole (byte_at (command_data c) 0) h.text h.good)
          (λ s. not_both (sym q ∙ eq-eqb (byte_at (command_data c) 0) n (same_slot (byte_at (command_data c) 0) n s small)))

  -- the string of file n after a command
  pub answered-rules : rules_of (answered t c random).tag.files n
      ≡ pick (and (is_change c n) (accepting (answered t c random).status)) (normal (string_in t c)) (rules_of t.files n)
  unfolding is_change
  answered-rules = by (eqb (byte_at c 0) 0x90) (eqb (byte_at c 1) 0x5F) (accepting (answered t c random).status) refl refl refl
    where
      by : (class command fair : Bool) → eqb (byte_at c 0) 0x90 ≡ class → eqb (byte_at c 1) 0x5F ≡ command
          → accepting (answered t c random).status ≡ fair
          → rules_of (answered t c random).tag.files n
          ≡ pick (and (and class (and command (eqb (byte_at (command_data c) 0) n))) fair) (normal (string_in t c)) (rules_of t.files n)
      by false command fair p q r = keeps_strings t c random n (rw p refl)
      by true false fair p q r = keeps_strings t c random n (rw (p, q) refl)
      by true true true p q r =
          put (answered t c random).tag (accepted-change t c random (eqb-true (byte_at c 0) 0x90 p) (eqb-true (byte_at c 1) 0x5F q) r)
          ∙ also (eqb (byte_at (command_data c) 0) n)
        where
          also : (b : Bool) → pick b (normal (string_in t c)) (rules_of t.files n) ≡ pick (and b true) (normal (string_in t c)) (rules_of t.files n)
          also true = refl
          also false = refl
      by true true false p q r =
          ap (λ f. rules_of f n) (changed-accepted t c random r).files
          ∙ never (eqb (byte_at (command_data c) 0) n) (normal (string_in t c)) (rules_of t.files n)

-- ---- a call, and a series
step-rules : (t : Tag) → Fine t → (a : Asked) (n : ℕ) → slot_of n ≤ 2
    → rules_of (step t a).files n ≡ pick (changes t a n) (normal (string_in t a.command)) (rules_of t.files n)
unfolding step changes accepts replied unanswered
step-rules t f a n h = by (outcome_of t a.random a.room)
  where
    by : (o : Outcome)
        → rules_of (by_outcome t (answered t a.command a.random) (noted t a.command) o).tag.files n
        ≡ pick (and (is_change a.command n) (and (replies o) (accepting (answered t a.command a.random).status)))
        (normal (string_in t a.command)) (rules_of t.files n)
    by Replied = answered-rules t f a.command a.random n h
    by SmallRoom = never (is_change a.command n) (normal (string_in t a.command)) (rules_of t.files n)
    by WrongRandom = never (is_change a.command n) (normal (string_in t a.command)) (rules_of t.files n)
    by Unsound = never (is_change a.command n) (normal (string_in t a.command)) (rules_of t.files n)

-- the last change of no call, and of a call and more
pub last_none : (t : Tag) (n : ℕ) (s : List ℕ) → last_change t [] n s ≡ s
unfolding last_change
last_none t n s = refl

pub last_more : (t : Tag) (a : Asked) (more : List Asked) (n : ℕ) (s : List ℕ)
    → last_change t (a ∷ more) n s ≡ last_change (step t a) more n (pick (changes t a n) (normal (string_in t a.command)) s)
unfolding last_change
last_more t a more n s = refl

-- after any series the string of each file is the normal form of the last change accepted for it, or as it was
pub series_rules : (t : Tag) → Fine t → (asked : List Asked) (n : ℕ) → slot_of n ≤ 2
    → rules_of (after t asked).files n ≡ last_change t asked n (rules_of t.files n)
unfolding after
series_rules t f [] n h = sym (last_none t n (rules_of t.files n))
series_rules t f (a ∷ more) n h =
    series_rules (step t a) (fine_step t f a) more n h
    ∙ ap (last_change (step t a) more n) (step-rules t f a n h)
    ∙ sym (last_more t a more n (rules_of t.files n))

-- ---- from delivery on
delivery_1 : (uid : List ℕ) → rules_of (fresh_tag uid).files 1 ≡ delivered 1
unfolding fresh_tag delivered_files rules_of slot_of delivered
delivery_1 uid = refl

delivery_2 : (uid : List ℕ) → rules_of (fresh_tag uid).files 2 ≡ delivered 2
unfolding fresh_tag delivered_files rules_of slot_of delivered
delivery_2 uid = refl

delivery_3 : (uid : List ℕ) → rules_of (fresh_tag uid).files 3 ≡ delivered 3
unfolding fresh_tag delivered_files rules_of slot_of delivered
delivery_3 uid = refl

delivery : (uid : List ℕ) (n : ℕ) → 1 ≤ n → n ≤ 3 → rules_of (fresh_tag uid).files n ≡ delivered n
delivery uid = each-file (λ k. rules_of (fresh_tag uid).files k ≡ delivered k) (delivery_1 uid) (delivery_2 uid) (delivery_3 uid)

-- After any series of commands each file of a sound tag holds the normal form of the last change accepted for it, or its settings as
-- they were.
pub series_leaves : (t : Tag) → Typed t → sound_tag t ≡ true → (n : ℕ) → 1 ≤ n → n ≤ 3 → (asked : List Asked)
    → rules_of (after t asked).files n ≡ last_change t asked n (rules_of t.files n)
series_leaves t s e n a b asked = series_rules t (sound_fine t s e) asked n (small n a b)

-- a tag that is not sound gives no reply
no_reply_lem : (t : Tag) → sound_tag t ≡ false → (random room : List ℕ) → replies (outcome_of t random room) ≡ false
unfolding outcome_of
no_reply_lem t e random room =
    let P : Outcome → Type 0 = λ o. replies o ≡ false in
    rw e (way P (ltb (length room) 258) (λ z. refl) (λ z. way P (eqb (length random) 20) (λ y. refl) (λ y. refl)))

-- so it stays as it is, and no change is accepted
unsound-rules : (t : Tag) → sound_tag t ≡ false → (asked : List Asked) (n : ℕ) (s : List ℕ) → rules_of t.files n ≡ s
    → rules_of (after t asked).files n ≡ last_change t asked n s
unfolding after changes accepts
unsound-rules t e [] n s h = h ∙ sym (last_none t n s)
unsound-rules t e (a ∷ more) n s h =
    let z = no_reply_lem t e a.random a.room in
    let k = refused_call t a z in
    let x = normal (string_in t a.command) in
    let b = is_change a.command n in
    let fair = accepting (answered t a.command a.random).status in
    unsound-rules (step t a) (ap sound_tag k ∙ e) more n (pick (changes t a n) x s)
    (ap (λ u. rules_of u.files n) k ∙ h ∙ never b x s ∙ ap (λ (r : Bool). pick (and b (and r fair)) x s) (sym z))
    ∙ sym (last_more t a more n s)

-- From a fresh tag on: the last change accepted for it, or its delivery settings. Of any UID: with a wrong one there is no fresh tag, and the
-- tag of this record answers nothing and keeps its delivery settings.
pub what_a_series_leaves : (uid : List ℕ) (n : ℕ) → 1 ≤ n → n ≤ 3 → (asked : List Asked)
    → rules_of (after (fresh_tag uid) asked).files n ≡ last_change (fresh_tag uid) asked n (delivered n)
what_a_series_leaves uid n a b asked = by (sound_tag (fresh_tag uid)) refl
  where
    by : (sound : Bool) → sound_tag (fresh_tag uid) ≡ sound
        → rules_of (after (fresh_tag uid) asked).files n ≡ last_change (fresh_tag uid) asked n (delivered n)
    by true e =
        series_leaves (fresh_tag uid) (fresh_typed uid) e n a b asked ∙ ap (last_change (fresh_tag uid) asked n) (delivery uid n a b)
    by false e = unsound-rules (fresh_tag uid) e asked n (delivered n) (delivery uid n a b)
