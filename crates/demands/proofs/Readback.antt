-- Read and written alike: GetFileSettings gives the string that was accepted, in its normal form.
use Rattle.std.specs.Prelude.{Some}
use mathlib.Core.Path.{◌≡◌, refl, sym, ◌∙◌, ap, subst}
use mathlib.Core.Bool.{true, not}
use mathlib.Core.List.{List, [], ◌∷◌}
use Prim.Native.Nat.{ℕ, ◌≤◌}
use native.Mathlib.Omega.{arith}
use lib.Dec.{eqb}
use lib.ListN.{length}
use borrow.Author.Tests.{eqb-true}
use Rattle.base.specs.Decide.{pick, one_of}
use Rattle.base.specs.Bytes.{byte_at, low}
use Rattle.base.proofs.Bytes.{and_left, and_right}
use Rattle.messaging.specs.declared.Mode.TheVariants.{Plain, Mac}
use Rattle.closing.specs.Reply.{overlong, closed_status}
use Rattle.fields.specs.Normal.{normal}
use Rattle.order.specs.declared.Name.TheVariants.{GetFileSettings}
use Rattle.order.specs.Names.{class_of, ins_of, among, named}
use Rattle.order.specs.Order.{command_data, header_length, names_key}
use Rattle.order.specs.Commands.{wrapped_command}
use Rattle.access.specs.Access.{mode_for, decided}
use Rattle.state.specs.declared.Tag.{Tag}
use Rattle.state.specs.State.{size_of, rules_of, reading_in}
use Rattle.soundness.specs.Sound.{sound_tag}
use Rattle.replies.specs.Answer.{Answer, refusal, accepted}
use Rattle.details.specs.Details.{settings_reply, file_settings}
use Rattle.wrapped.specs.Wrapped.{own}
use Rattle.tag.specs.Way.{commanded, answered}
use Rattle.series.specs.Series.{Asked, step, after, accepting, Typed}
use Rattle.series.proofs.Choices.{not_both, way, not_true}
use Rattle.series.proofs.Orders.{wrapped-file}
use Rattle.demands.specs.Talks.{string_in, changes, last_change, untouched, asks_settings, read_text, string_of_reply}
use Rattle.demands.proofs.Coming.{Bars, length_bars, comes}
use Rattle.demands.proofs.Series.{last_none, last_more, series_leaves}

read_known : named 0x90 0xF5 ≡ Some GetFileSettings
unfolding named among class_of ins_of
read_known = refl

module _ (t : Tag) (c random : List ℕ) (class : byte_at c 0 ≡ 0x90) (command : byte_at c 1 ≡ 0xF5) where
  n : ℕ
  n = byte_at (command_data c) 0

  abbrev P : Answer → Type 0
  P a = accepting a.status ≡ true → a.text ≡ read_text t n (rules_of t.files n)

  refused : (s : ℕ) → Bars s → P (refusal t s)
  unfolding refusal
  refused s e h = absurd (not_both (sym e ∙ h))

  file_is : (wrapped_command GetFileSettings c).file ≡ n
  unfolding n names_key header_length one_of
  file_is = wrapped-file GetFileSettings c 0xF5 command refl refl

  settings_read : P (file_settings t n (pick t.live.on Mac Plain))
  unfolding file_settings accepted closed_status
  settings_read =
      let d = settings_reply (rules_of t.files n) (size_of n) in
      way P (overlong (pick t.live.on Mac Plain) (length d)) (λ e. refused 0x917E length_bars) (λ e h. refl)

  own_read : (p : List ℕ)
      → P (own GetFileSettings t (wrapped_command GetFileSettings c) (reading_in t.files n) (decided GetFileSettings t.live (reading_in t.files n).settings.head) p random)
  unfolding own decided mode_for
  own_read p = subst (λ i. P (file_settings t i (pick t.live.on Mac Plain))) (sym file_is) settings_read

  read_answer : accepting (answered t c random).status ≡ true → (answered t c random).text ≡ read_text t (byte_at (command_data c) 0) (rules_of t.files (byte_at (command_data c) 0))
  unfolding commanded n
  read_answer =
      comes t random P refused GetFileSettings c n class (ap (named 0x90) command ∙ read_known) file_is (λ k r x. refl) (λ a h. h)
      (λ z a p o. own_read p)

-- whatever tag answers GetFileSettings of file n gives 00, FileOption, rights, size and the rest of the string that it holds
pub read_alike : (t : Tag) (n : ℕ) (c random : List ℕ) → asks_settings c n ≡ true → accepting (answered t c random).status ≡ true
    → (answered t c random).text ≡ read_text t n (rules_of t.files n)
unfolding asks_settings
read_alike t n c random e h =
    let f = and_right (eqb (byte_at c 0) 0x90) _ e in
    let k : byte_at (command_data c) 0 ≡ n = eqb-true (byte_at (command_data c) 0) n (and_right (eqb (byte_at c 1) 0xF5) _ f) in
    read_answer t c random (eqb-true (byte_at c 0) 0x90 (and_left _ _ e)) (eqb-true (byte_at c 1) 0xF5 (and_left _ _ f)) h
    ∙ ap (λ i. read_text t i (rules_of t.files i)) k

-- no change, no other string
untouched-last : (t : Tag) (more : List Asked) (n : ℕ) (s : List ℕ) → untouched t more n ≡ true → last_change t more n s ≡ s
unfolding untouched
untouched-last t [] n s e = last_none t n s
untouched-last t (a ∷ more) n s e =
    last_more t a more n s
    ∙ ap (λ b. last_change (step t a) more n (pick b (normal (string_in t a.command)) s)) (not_true (changes t a n) (and_left _ _ e))
    ∙ untouched-last (step t a) more n s (and_right (not (changes t a n)) _ e)

-- After an accepted change, and until the next one, GetFileSettings of that file gives the normal form that was accepted.
pub read_and-written-alike : (t : Tag) → Typed t → sound_tag t ≡ true → (n : ℕ) → 1 ≤ n → n ≤ 3 → (a : Asked) (more : List Asked)
    → changes t a n ≡ true → untouched (step t a) more n ≡ true → (c random : List ℕ) → asks_settings c n ≡ true
    → accepting (answered (after (step t a) more) c random).status ≡ true
    → (answered (after (step t a) more) c random).text ≡ read_text (after (step t a) more) n (normal (string_in t a.command))
unfolding after
read_and-written-alike t s sound n first last a more e q c random asks fair =
    let u = after (step t a) more in
    read_alike u n c random asks fair
    ∙ ap (read_text u n)
    (series_leaves t s sound n first last (a ∷ more)
    ∙ last_more t a more n (rules_of t.files n)
    ∙ ap (λ b. last_change (step t a) more n (pick b (normal (string_in t a.command)) (rules_of t.files n))) e
    ∙ untouched-last (step t a) more n (normal (string_in t a.command)) q)

-- the string in such a text, where it has its three first bytes
pub string_read : (s : List ℕ) (size : ℕ) → 3 ≤ length s → string_of_reply (settings_reply s size) ≡ s
unfolding string_of_reply settings_reply low
string_read [] size h = absurd (omega arith)
string_read (a ∷ []) size h = absurd (omega arith)
string_read (a ∷ b ∷ []) size h = absurd (omega arith)
string_read (a ∷ b ∷ d ∷ s) size h = refl
