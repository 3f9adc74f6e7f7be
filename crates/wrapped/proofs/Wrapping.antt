-- Wrapped commands: a message, opened, is step 9's answer.
use mathlib.Core.Path.{◌≡◌, refl, sym, ap, ap₂, subst, ◌∙◌}
use mathlib.Core.List.{List}
use mathlib.Core.Logic.{⊎_elim}
use Rattle.std.specs.Prelude.{Result, Ok, Err}
use Prim.Native.Nat.{ℕ, ◌≤◌, ◌<◌}
use native.Mathlib.Omega.{arith}
use borrow.Author.Tests.{le-ltb, lt-ltb}
use lib.ListN.{length, take, drop, length-append}
use lib.Seq.{take-append_seam}
use Rattle.base.proofs.Bytes.{le_or_lt}
use Rattle.state.specs.State.{session_of}
use Rattle.base.specs.Decide.{one_of}
use Rattle.base.specs.Status.{illegal_command_code}
use Rattle.messaging.specs.declared.Session.{Session}
use Rattle.opening.specs.declared.Opened.{Opened}
use Rattle.opening.specs.declared.NotOpened.{NotOpened}
use Rattle.opening.specs.declared.NotOpened.TheVariants.{WrongLength, WrongMac, WrongPadding, TooLong}
use Rattle.opening.proofs.Opening.{opening_few}
use Rattle.messaging.specs.Protect.{Opening, plain, wrong_length, wrong_mac, wrong_padding}
use Rattle.opening.specs.Command.{opening, opening_cost, opened_status, told, left, answers, leaves, costs, Opens}
use Rattle.spans.specs.declared.Reading.{Reading}
use Rattle.order.specs.declared.Command.{Command}
use Rattle.order.specs.declared.Name.{Name}
use Rattle.order.specs.declared.Name.TheVariants.{AuthenticateFirst, AuthenticateNonFirst, PartTwo, ChangeKey, GetKeyVersion, GetCardUid}
use Rattle.order.specs.declared.Name.TheVariants.{GetFileSettings, ChangeFileSettings, GetFileCounters, ReadData, WriteData}
use Rattle.order.specs.declared.Name.TheVariants.{IsoSelectFile, IsoReadBinary, IsoUpdateBinary}
use Rattle.access.specs.declared.Decision.{Decision}
use Rattle.state.specs.declared.Tag.{Tag}
use Rattle.replies.specs.Answer.{costing, refusal}
use Rattle.wrapped.specs.Wrapped.{own, opening_of, opening_cost_of, on_opening, refused_word, wrapped}

-- ---- step 8: what a command opens to
module _ {x old new : List ℕ} {o : Opening} {n : ℕ} {r : Opened} (h : Opens x o n old r new) (f : length x ≤ 255) (g : length x ≤ length old) where
  opens_told : r.«data» ≡ told o
  unfolding answers
  opens_told = h.answer ∙ rw (le-ltb 255 (length x) f, le-ltb (length old) (length x) g) refl

  pub opens_cost : r.cost ≡ n
  unfolding costs
  opens_cost = h.cost ∙ rw (le-ltb 255 (length x) f, le-ltb (length old) (length x) g) refl

  opens_left : new ≡ left old o
  unfolding leaves
  opens_left = h.room ∙ rw (le-ltb 255 (length x) f, le-ltb (length old) (length x) g) refl

-- the data stands at the front of the room, and is no longer than it
front : (o : Opening) (r : Result ℕ NotOpened) (old new : List ℕ) (n : ℕ) → r ≡ told o → new ≡ left old o → r ≡ Ok n
    → (n ≤ length new) × (o ≡ plain (take n new))
front (plain d) r old new n e l k =
    let m : n ≡ length d = cc in (
      omega (arith, ap length l ∙ length-append d (drop (length d) old)),
      ap plain (sym (ap₂ (λ i b. take i b) m l ∙ take-append_seam d (drop (length d) old))),
    )
front wrong_length r old new n e l k = let z : ◌≡◌ {A = ℕ} 0 1 = cc in absurd (omega arith)
front wrong_mac r old new n e l k = let z : ◌≡◌ {A = ℕ} 0 1 = cc in absurd (omega arith)
front wrong_padding r old new n e l k = let z : ◌≡◌ {A = ℕ} 0 1 = cc in absurd (omega arith)

pub data_short : {x old new : List ℕ} {o : Opening} {i : ℕ} {r : Opened} {n : ℕ} → Opens x o i old r new → length x ≤ 255 → length x ≤ length old
    → r.«data» ≡ Ok n → n ≤ length new
data_short {x} {old} {new} {o} {i} {r} {n} h f g e = (front o r.«data» old new n (opens_told h f g) (opens_left h f g) e).0

pub on_opened : {x old new : List ℕ} {o : Opening} {i : ℕ} {s : Opened} {n : ℕ} (t : Tag) (k : Command) (r : Reading) (d : Decision) (random : List ℕ)
    → Opens x o i old s new → length x ≤ 255 → length x ≤ length old → s.«data» ≡ Ok n
    → own k.name t k r d (take n new) random ≡ on_opening t k r d random o
on_opened {x} {old} {new} {o} {i} {s} {n} t k r d random h f g e =
    ap (on_opening t k r d random) (sym (front o s.«data» old new n (opens_told h f g) (opens_left h f g) e).1)

-- a command that is not opened is refused with what the answer says
refused : (o : Opening) (s : Result ℕ NotOpened) (t : Tag) (k : Command) (r : Reading) (d : Decision) (random : List ℕ) → s ≡ told o → ((n : ℕ) → s ≡ Ok n → ⊥)
    → refusal t (opened_status s) ≡ on_opening t k r d random o
refused (plain p) s t k r d random e h = absurd (h (length p) e)
refused wrong_length s t k r d random e h = ap (λ i. refusal t (opened_status i)) e
refused wrong_mac s t k r d random e h = ap (λ i. refusal t (opened_status i)) e
refused wrong_padding s t k r d random e h = ap (λ i. refusal t (opened_status i)) e

pub on_refused : {x old new : List ℕ} {o : Opening} {i : ℕ} {s : Opened} (t : Tag) (k : Command) (r : Reading) (d : Decision) (random : List ℕ)
    → Opens x o i old s new → length x ≤ 255 → length x ≤ length old → ((n : ℕ) → s.«data» ≡ Ok n → ⊥)
    → refusal t (opened_status s.«data») ≡ on_opening t k r d random o
on_refused {x} {old} {new} {o} {i} {s} t k r d random h f g j = refused o s.«data» t k r d random (opens_told h f g) j

-- a status of the code is that of the answer
word_is : (o : Opening) (why : NotOpened) (s : Result ℕ NotOpened) → s ≡ Err why → s ≡ told o → refused_word why ≡ opened_status s
unfolding opened_status
word_is (plain p) why s z e = let y : ◌≡◌ {A = ℕ} 0 1 = cc in absurd (omega arith)
word_is wrong_length why s z e = let q : why ≡ WrongLength = cc in rw (q, e) refl
word_is wrong_mac why s z e = let q : why ≡ WrongMac = cc in rw (q, e) refl
word_is wrong_padding why s z e = let q : why ≡ WrongPadding = cc in rw (q, e) refl

-- a message of over 255 bytes
module _ {x old new : List ℕ} {o : Opening} {n : ℕ} {r : Opened} (h : Opens x o n old r new) (f : 255 < length x) where
  long_told : r.«data» ≡ Err TooLong
  unfolding answers
  long_told = h.answer ∙ rw (lt-ltb 255 (length x) f) refl

  long_cost : r.cost ≡ 0
  unfolding costs
  long_cost = h.cost ∙ rw (lt-ltb 255 (length x) f) refl

-- what is answered to a message, by what the code opens it to in a room of 256 bytes
module _ (t : Tag) (k : Command) (r : Reading) (d : Decision) (x random : List ℕ) {old new : List ℕ} {s : Opened} {i : Session} (e : i ≡ session_of t.live)
    (o : Opens x (opening i d.mode k.ins x k.header k.parted) (opening_cost i d.mode k.ins x k.header k.parted) old s new) (room : 256 ≤ length old) where
  h : Opens x (opening_of t k x d.mode) (opening_cost_of t k x d.mode) old s new
  h = subst (λ j. Opens x (opening j d.mode k.ins x k.header k.parted) (opening_cost j d.mode k.ins x k.header k.parted) old s new) e o

  pub opened_short : (n : ℕ) → s.«data» ≡ Ok n → n ≤ length new
  opened_short n q =
      ⊎_elim (λ f. data_short h f (omega arith) q) (λ f. let l = long_told h f in let z : ◌≡◌ {A = ℕ} 0 1 = cc in absurd (omega arith))
      (le_or_lt (length x) 255)

  pub opened_few : s.cost ≤ 33
  opened_few =
      ⊎_elim (λ f. omega (arith, opens_cost h f (omega arith), opening_few (session_of t.live) d.mode k.ins x k.header k.parted f))
      (λ f. omega (arith, long_cost h f))
      (le_or_lt (length x) 255)

  pub wrapped_served : (n : ℕ) → s.«data» ≡ Ok n → costing s.cost (own k.name t k r d (take n new) random) ≡ wrapped t k r d x random
  unfolding wrapped
  wrapped_served n q =
      ⊎_elim (λ f. rw (le-ltb 255 (length x) f) (ap₂ costing (opens_cost h f (omega arith)) (on_opened t k r d random h f (omega arith) q)))
      (λ f. let l = long_told h f in let z : ◌≡◌ {A = ℕ} 0 1 = cc in absurd (omega arith))
      (le_or_lt (length x) 255)

  pub wrapped_refused : (why : NotOpened) (w : ℕ) → s.«data» ≡ Err why → w ≡ refused_word why
      → costing s.cost (refusal t w) ≡ wrapped t k r d x random
  unfolding wrapped refusal
  wrapped_refused why w z q =
      ⊎_elim (λ f.
      let m : length x ≤ length old = omega arith in
      let no_data : (n : ℕ) → s.«data» ≡ Ok n → ⊥ = λ n u. (let y : ◌≡◌ {A = ℕ} 0 1 = cc in omega arith) in
      rw (le-ltb 255 (length x) f) (ap₂ costing (opens_cost h f m)
      (ap (refusal t) (q ∙ word_is (opening_of t k x d.mode) why s.«data» z (opens_told h f m)) ∙ on_refused t k r d random h f m no_data)))
      (λ f.
      let l : why ≡ TooLong = (let u = long_told h f in cc) in
      rw (lt-ltb 255 (length x) f, long_cost h f, q, l) refl)
      (le_or_lt (length x) 255)

-- ---- step 9: the commands without a message
-- none of those that bring one
pub record Messageless (n : Name) : Type 0 where
  pub no_change_key : n ≡ ChangeKey → ⊥
  pub no_key_version : n ≡ GetKeyVersion → ⊥
  pub no_card_uid : n ≡ GetCardUid → ⊥
  pub no_settings : n ≡ GetFileSettings → ⊥
  pub no_change : n ≡ ChangeFileSettings → ⊥
  pub no_counters : n ≡ GetFileCounters → ⊥
  pub no_read : n ≡ ReadData → ⊥
  pub no_write : n ≡ WriteData → ⊥

pub others_refused : (n : Name) (t : Tag) (k : Command) (r : Reading) (d : Decision) (p random : List ℕ)
    → Messageless n → refusal t illegal_command_code ≡ own n t k r d p random
unfolding own one_of
others_refused AuthenticateFirst t k r d p random h = refl
others_refused AuthenticateNonFirst t k r d p random h = refl
others_refused PartTwo t k r d p random h = refl
others_refused ChangeKey t k r d p random h = absurd (h.no_change_key refl)
others_refused GetKeyVersion t k r d p random h = absurd (h.no_key_version refl)
others_refused GetCardUid t k r d p random h = absurd (h.no_card_uid refl)
others_refused GetFileSettings t k r d p random h = absurd (h.no_settings refl)
others_refused ChangeFileSettings t k r d p random h = absurd (h.no_change refl)
others_refused GetFileCounters t k r d p random h = absurd (h.no_counters refl)
others_refused ReadData t k r d p random h = absurd (h.no_read refl)
others_refused WriteData t k r d p random h = absurd (h.no_write refl)
others_refused IsoSelectFile t k r d p random h = refl
others_refused IsoReadBinary t k r d p random h = refl
others_refused IsoUpdateBinary t k r d p random h = refl
