-- What an accepted ChangeFileSettings is, and what it leaves.
use Rattle.std.specs.Prelude.{Err, Ok, Some}
use Rattle.settings.specs.declared.Fault.TheVariants.{String, File}
use mathlib.Core.Path.{◌≡◌, refl, sym, ◌∙◌, ap, subst}
use mathlib.Core.Bool.{Bool, true, false}
use mathlib.Core.List.{List}
use Prim.Native.Nat.{ℕ}
use lib.Dec.{eqb, ltb}
use lib.ListN.{length}
use borrow.Author.Tests.{eqb-true}
use Rattle.base.specs.Decide.{pick, one_of}
use Rattle.base.specs.Bytes.{byte_at}
use Rattle.messaging.specs.declared.Mode.{Mode}
use Rattle.messaging.specs.Protect.{plain}
use Rattle.settings.specs.declared.Status.{Status}
use Rattle.settings.specs.declared.Status.TheVariants.{LengthError, ParameterError}
use Rattle.settings.specs.Answers.{Verdict, judged, status_word, fault_word}
use Rattle.settings.specs.declared.FileFault.{FileFault}
use Rattle.settings.specs.declared.FileFault.TheVariants.{OverThirtyOne, NoSuchFile}
use Rattle.settings.specs.Filing.{file_fault_word, file_status}
use Rattle.order.specs.declared.Name.TheVariants.{ChangeFileSettings}
use Rattle.order.specs.Names.{class_of, ins_of, among, named}
use Rattle.order.specs.Order.{command_data, header_length, names_key, byte_status, front_status, wrapped_status}
use Rattle.order.specs.Commands.{wrapped_command}
use Rattle.access.specs.Access.{decided}
use Rattle.state.specs.declared.Tag.{Tag}
use Rattle.state.specs.State.{reading_in}
use Rattle.replies.specs.Answer.{Answer, refusal}
use Rattle.change_settings.specs.ChangeSettings.{changed_settings, by_verdict}
use Rattle.wrapped.specs.Wrapped.{own, opening_of}
use Rattle.tag.specs.Way.{commanded, answered}
use Rattle.series.specs.Series.{accepting, allows}
use Rattle.series.proofs.Choices.{not_both}
use Rattle.series.proofs.Orders.{status-zeros, wrapped-passes, wrapped-file}
use Rattle.series.proofs.Walk.{Sent}
use Rattle.demands.specs.Talks.{string_in}
use Rattle.demands.proofs.Coming.{Bars, comes}

-- an accepted change: the tag opened it to a good string, and became what 01 says of a good string
pub record Changed (t : Tag) (c : List ℕ) (u : Tag) : Type 0 where
  pub mode : Mode
  pub text : List ℕ
  pub sent : Sent t c (byte_at (command_data c) 0) text mode
  pub idle : t.pending.on ≡ false
  pub place : file_status (byte_at (command_data c) 0) ≡ 0
  pub good : judged (byte_at (command_data c) 0) text ≡ Ok tt
  pub is : u ≡ (by_verdict t (byte_at (command_data c) 0) (reading_in t.files (byte_at (command_data c) 0)) text mode (Ok tt)).tag

-- ---- statuses that refuse
word_bars : (e : Status) → Bars (status_word e)
unfolding accepting status_word
word_bars LengthError = refl
word_bars ParameterError = refl

fault_bars : (f : FileFault) → Bars (file_fault_word f)
unfolding accepting
fault_bars OverThirtyOne = refl
fault_bars NoSuchFile = refl

-- step 5 passed
front-file : (short application : Bool) (s : ℕ) → eqb (pick short 0x917E (pick application s 0x919D)) 0 ≡ true → s ≡ 0
front-file true application s e = absurd (not_both e)
front-file false true s e = eqb-true s 0 e
front-file false false s e = absurd (not_both e)

front_place : (x : List ℕ) (application : Bool) → eqb (front_status 0x5F x application) 0 ≡ true → file_status (byte_at x 0) ≡ 0
unfolding front_status byte_status names_key one_of
front_place x application = front-file (ltb (length x) (header_length 0x5F)) application (file_status (byte_at x 0))

change_known : named 0x90 0x5F ≡ Some ChangeFileSettings
unfolding named among class_of ins_of
change_known = refl

module _ (t : Tag) (c random : List ℕ) (class : byte_at c 0 ≡ 0x90) (command : byte_at c 1 ≡ 0x5F) where
  n : ℕ
  n = byte_at (command_data c) 0

  abbrev P : Answer → Type 0
  P a = accepting a.status ≡ true → Changed t c a.tag

  refused : (s : ℕ) → Bars s → P (refusal t s)
  unfolding refusal
  refused s e h = absurd (not_both (sym e ∙ h))

  file_is : (wrapped_command ChangeFileSettings c).file ≡ n
  unfolding n names_key header_length one_of
  file_is = wrapped-file ChangeFileSettings c 0x5F command refl refl

  -- steps 3 to 5 passed
  idle_is : eqb (wrapped_status c t.pending.on t.place.application) 0 ≡ true → t.pending.on ≡ false
  idle_is z = (wrapped-passes c t.pending.on t.place.application z).order ∙ ap (λ i. eqb i 0xAF) command

  place_is : eqb (wrapped_status c t.pending.on t.place.application) 0 ≡ true → file_status n ≡ 0
  unfolding n
  place_is z =
      front_place (command_data c) t.place.application
      (subst (λ i. eqb (front_status i (command_data c) t.place.application) 0 ≡ true) command
      (status-zeros c t.pending.on t.place.application z).then)

  verdict_change : (p : List ℕ) (m : Mode) → Sent t c n p m → t.pending.on ≡ false → file_status n ≡ 0 → (v : Verdict) → judged n p ≡ v
      → P (by_verdict t n (reading_in t.files n) p m v)
  unfolding n fault_word
  verdict_change p m s i f (Ok _) e = λ h. record { mode = m; text = p; sent = s; idle = i; place = f; good = e; is = refl }
  verdict_change p m s i f (Err (String r)) e = refused (status_word r) (word_bars r)
  verdict_change p m s i f (Err (File x)) e = refused (file_fault_word x) (fault_bars x)

  own-change : t.pending.on ≡ false → file_status n ≡ 0
      → allows (decided ChangeFileSettings t.live (reading_in t.files n).settings.head).grant ≡ true → (p : List ℕ)
      → opening_of t (wrapped_command ChangeFileSettings c) (command_data c) (decided ChangeFileSettings t.live (reading_in t.files n).settings.head).mode
      ≡ plain p
      → P (own ChangeFileSettings t (wrapped_command ChangeFileSettings c) (reading_in t.files n) (decided ChangeFileSettings t.live (reading_in t.files n).settings.head) p random)
  unfolding own changed_settings decided n
  own-change i f a p o =
      let r = reading_in t.files n in
      let m = (decided ChangeFileSettings t.live r.settings.head).mode in
      subst (λ (j : ℕ). P (changed_settings t j r p m)) (sym file_is)
      (verdict_change p m (record { class = class; command = command; file = refl; allowed = a; decides = refl; opened = o }) i f (judged n p) refl)

  pub accepted-change : accepting (answered t c random).status ≡ true → Changed t c (answered t c random).tag
  unfolding commanded
  accepted-change =
      comes t random P refused ChangeFileSettings c n class (ap (named 0x90) command ∙ change_known) file_is (λ k r x. refl) (λ a h. h)
      (λ z. own-change (idle_is z) (place_is z))

-- the string of a change is the one that was opened
pub string-sent : (t : Tag) (c p : List ℕ) (m : Mode) → Sent t c (byte_at (command_data c) 0) p m → string_in t c ≡ p
unfolding string_in
string-sent t c p m s = rw (s.decides, s.opened) refl
