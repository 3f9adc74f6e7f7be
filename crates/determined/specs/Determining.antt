-- The promise determines the result: what is asked of a promise.
use Rattle.std.specs.Prelude.{List, Result, Ok, Err, ◌≡◌, ℕ, ◌<◌, length}
use Rattle.statuses.specs.declared.Status.{Status}
use Rattle.statuses.specs.declared.Status.TheVariants.{WrongLe}
use Rattle.buffers.specs.declared.buffer.Buffer.{Buffer}
use Rattle.buffers.specs.Text.{text_of}
use Rattle.forms.specs.declared.page.Page.{Page}
use Rattle.replies.specs.declared.Done.{Done}

-- a promise over a result
abbrev pub Determined : {A : Type 0} → (A → Type 0) → Type 0
Determined {A} P = (r q : A) → P r → P q → r ≡ q

-- a promise over a result and what the lent room holds then
abbrev pub DeterminedIn : {A : Type 0} → (A → List ℕ → Type 0) → Type 0
DeterminedIn {A} P = (r q : A) (new other : List ℕ) → P r new → P q other → (r ≡ q) × (new ≡ other)

-- a promise over a result and what two lent rooms hold then
abbrev pub DeterminedRooms : {A : Type 0} → (A → List ℕ → List ℕ → Type 0) → Type 0
DeterminedRooms {A} P =
    (r q : A) (first₁ first₂ second₁ second₂ : List ℕ) → P r first₁ second₁ → P q first₂ second₂
    → (r ≡ q) × ((first₁ ≡ first₂) × (second₁ ≡ second₂))

-- a promise over a result and what three lent rooms hold then
abbrev pub DeterminedThree : {A : Type 0} → (A → List ℕ → List ℕ → List ℕ → Type 0) → Type 0
DeterminedThree {A} P =
    (r q : A) (first₁ first₂ second₁ second₂ third₁ third₂ : List ℕ) → P r first₁ second₁ third₁ → P q first₂ second₂ third₂
    → (r ≡ q) × ((first₁ ≡ first₂) × ((second₁ ≡ second₂) × (third₁ ≡ third₂)))

-- what every status of the type has: behind 6C stands a byte
abbrev pub Worded : Status → Type 0
Worded (WrongLe n) = n < 256
Worded _ = Unit {0}

abbrev pub WordedIn : {A : Type 0} → Result A Status → Type 0
WordedIn (Ok x) = Unit {0}
WordedIn (Err s) = Worded s

-- a promise over a status
abbrev pub DeterminedStatus : (Status → Type 0) → Type 0
DeterminedStatus P = (r q : Status) → Worded r → Worded q → P r → P q → r ≡ q

-- a promise over a result, or the status that refuses
abbrev pub DeterminedWord : {A : Type 0} → (Result A Status → Type 0) → Type 0
DeterminedWord {A} P = (r q : Result A Status) → WordedIn r → WordedIn q → P r → P q → r ≡ q

-- what two buffers by one promise share: all but the bytes behind the length
pub record SameBuffer {N : ℕ} (r q : Buffer N) : Type 0 where
  pub count : r.length ≡ q.length
  pub text : text_of r ≡ text_of q

-- a promise over a buffer, whose array has N bytes; one that speaks of the array determines the buffer whole
abbrev pub DeterminedBuffer : {N : ℕ} → (Buffer N → Type 0) → Type 0
DeterminedBuffer {N} P = (r q : Buffer N) → length r.bytes ≡ N → length q.bytes ≡ N → P r → P q → SameBuffer r q

-- what two pages by one promise share: what is used of the lent room, and what it holds then
pub record SamePage (new other : Page) : Type 0 where
  pub used : new.used ≡ other.used
  pub room : new.room.now ≡ other.room.now

-- a promise over a page that is written
abbrev pub DeterminedPage : (Page → Type 0) → Type 0
DeterminedPage P = (new other : Page) → P new → P other → SamePage new other

-- what two answers by one promise share: all but the bytes behind the length
pub record SameText (d e : Done) : Type 0 where
  pub status : d.status ≡ e.status
  pub count : d.data.length ≡ e.data.length
  pub text : text_of d.data ≡ text_of e.data
  pub tag : d.tag ≡ e.tag
  pub cost : d.cost ≡ e.cost

-- what every answer of the type has
pub record Whole (d : Done) : Type 0 where
  pub bytes : length d.data.bytes ≡ 258
  pub status : Worded d.status

-- a promise over an answer
abbrev pub DeterminedText : (Done → Type 0) → Type 0
DeterminedText P = (d e : Done) → Whole d → Whole e → P d → P e → SameText d e
