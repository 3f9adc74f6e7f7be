-- Each public function of the image, of the C border and of what `rehearse` stands on: its promise, as the source states it, determines the
-- result, the image and the rooms.
use Rattle.std.specs.Prelude.{Option, Result}
use Rattle.keeping.specs.declared.NoStart.TheVariants.{NoUid}
use Rattle.keeping.specs.declared.NoStart.{NoStart}
use Rattle.keeping.specs.declared.NotKept.{NotKept}
use Rattle.delivery.specs.declared.WrongUid.{WrongUid}
use Rattle.image.specs.declared.OtherLength.{OtherLength}
use Rattle.image.specs.declared.NoImage.{NoImage}
use Rattle.image.specs.declared.NotRead.{NotRead}
use Rattle.plans.specs.declared.Reason.{Reason}
use Rattle.plans.specs.Plan.{decode_reason}
use Rattle.lines.specs.declared.DecodeError.{DecodeError}
use Rattle.forms.specs.declared.page.Page.{Page}
use Rattle.arguments.specs.declared.BadArguments.{BadArguments}
use mathlib.Core.Bool.{false, Bool, true}
use mathlib.Core.List.{List}
use mathlib.Core.Path.{◌≡◌, sym, ap₂, ◌∙◌}
use Prim.Native.Nat.{ℕ}
use lib.Dec.{eqb}
use lib.ListN.{length, take, drop}
use Rattle.base.specs.Bytes.{byte_at, over}
use Rattle.base.specs.Decide.{and, pick}
use Rattle.settings.specs.Answers.{judged, verdict_word}
use Rattle.normalising.specs.Answers.{normal_number, normal_room, normalised}
use Rattle.fields.specs.declared.Head.{Head}
use Rattle.state.specs.declared.Tag.{Tag}
use Rattle.image.specs.Answers.{bits_at, booleans, found_number, image_in, read_in, right_length, stored_in, stored_number}
use Rattle.image.specs.Image.{image_version, image_length}
use Rattle.making.specs.Making.{Makes}
use Rattle.playing.specs.Answers.{Plays}
use Rattle.first_lines.specs.Begins.{Begins}
use Rattle.first_lines.specs.Said.{uid_in, bytes_room, good_bytes, tidied}
use Rattle.first_lines.specs.declared.FirstLine.{FirstLine}
use Rattle.plans.specs.Numbers.{Means}
use Rattle.plans.specs.declared.Line.{Line}
use Rattle.plans.specs.declared.Meaning.{Meaning}
use Rattle.verdict.specs.Replies.{differing, refusing, status_in}
use Rattle.keeping.specs.Keep.{not_kept, start_by, Keeps, Starts}
use Rattle.arguments.specs.Arguments.{Asks, beside_length, beside_room}
use Rattle.arguments.specs.declared.Asked.{Asked}
use Rattle.forms.specs.Rooms.{Writes, Lays}
use Rattle.forms.specs.Forms.{form_of}
use Rattle.telling.specs.declared.Why.{Why}
use Rattle.telling.specs.Turns.{line_text}
use Rattle.tallies.specs.Counts.{counted_by, no_tally}
use Rattle.tallies.specs.declared.Tally.{Tally}
use Rattle.tallies.specs.declared.Went.{Went}
use Rattle.turns.specs.Lines.{line_acted, line_told}
use Rattle.turns.specs.declared.Taken.{Taken}
use Rattle.locks.specs.Locks.{locked, lock_of}
use Rattle.summaries.specs.Summary.{summary_of}
use Rattle.determined.specs.Determining.{Determined, DeterminedIn, DeterminedThree, DeterminedPage}
use Rattle.determined.proofs.Determined.{once, twice, fourfold, lays_once, writes_once}

-- ---- image
pub image_length_determined : Determined (λ (r : ℕ). r ≡ image_length)
image_length_determined = once

-- ---- checking
pub check_string_determined : (file : ℕ) (text : List ℕ) → Determined (λ (r : ℕ). r ≡ verdict_word (judged file text))
check_string_determined file text = once

pub normal_string_determined : (file : ℕ) (text room : List ℕ)
    → DeterminedIn (λ (r : ℕ) (new : List ℕ). (r ≡ normal_number (normalised (judged file text) text room)) × (new ≡ normal_room (judged file text) text room))
normal_string_determined file text room = twice

-- ---- storing
pub to_image_determined : (tag : Tag) (s : List ℕ)
    → DeterminedIn (λ (r : Result (Unit {0}) OtherLength) (new : List ℕ). (r ≡ stored_in s) × ((new ≡ image_in tag s) × (stored_number r ≡ pick (right_length s) 0 1005)))
to_image_determined tag s r q new other p h = twice r q new other (p.0, p.1.0) (h.0, h.1.0)

-- ---- making
pub make_determined : (uid state : List ℕ) → DeterminedIn (λ (r : ℕ) (new : List ℕ). Makes uid state r new)
make_determined uid state r q new other p h = twice r q new other (p.number, p.left) (h.number, h.left)

-- ---- restoring
pub from_image_determined : (s : List ℕ)
    → Determined (λ (r : Result Tag NotRead). (r ≡ read_in s) × (found_number r ≡ pick (right_length s) (pick (and (eqb (byte_at s 0) image_version) (bits_at s booleans)) 0 1003) 1005))
from_image_determined s r q p h = once r q p.0 h.0

-- ---- playing
pub play_determined : (state command random room journal : List ℕ)
    → DeterminedThree (λ (r : ℕ) (new-state new-room new-journal : List ℕ). Plays state command random room journal r new-state new-room new-journal)
play_determined state command random room journal r q state₁ state₂ room₁ room₂ journal₁ journal₂ p h =
    fourfold r q state₁ state₂ room₁ room₂ journal₁ journal₂ (p.number, (p.kept, (p.left, p.notes))) (h.number, (h.kept, (h.left, h.notes)))

-- ---- stand
pub mainspur_image_length_determined : Determined (λ (r : ℕ). r ≡ image_length)
mainspur_image_length_determined = once

pub mainspur_fresh_determined : (uid state : List ℕ) → DeterminedIn (λ (r : ℕ) (new : List ℕ). Makes uid state r new)
mainspur_fresh_determined uid state r q new other p h = twice r q new other (p.number, p.left) (h.number, h.left)

pub mainspur_call_determined : (state command random room journal : List ℕ)
    → DeterminedThree (λ (r : ℕ) (new-state new-room new-journal : List ℕ). Plays state command random room journal r new-state new-room new-journal)
mainspur_call_determined state command random room journal r q state₁ state₂ room₁ room₂ journal₁ journal₂ p h =
    fourfold r q state₁ state₂ room₁ room₂ journal₁ journal₂ (p.number, (p.kept, (p.left, p.notes))) (h.number, (h.kept, (h.left, h.notes)))

pub mainspur_settings_check_determined : (file : ℕ) (text : List ℕ) → Determined (λ (r : ℕ). r ≡ verdict_word (judged file text))
mainspur_settings_check_determined file text = once

pub mainspur_settings_normalise_determined : (file : ℕ) (text room : List ℕ)
    → DeterminedIn (λ (r : ℕ) (new : List ℕ). (r ≡ normal_number (normalised (judged file text) text room)) × (new ≡ normal_room (judged file text) text room))
mainspur_settings_normalise_determined file text room = twice

-- ---- first_lines
pub line_uid_determined : (line : List ℕ) → Determined (λ (r : Option (List ℕ)). r ≡ uid_in line)
line_uid_determined line = once

pub first_line_determined : (text : List ℕ) → Determined (λ (r : FirstLine). Begins text r)
first_line_determined text r q p h = once r q p.told h.told

pub bytes_given_determined : (s room : List ℕ)
    → DeterminedIn (λ (r : Bool) (new : List ℕ). (r ≡ good_bytes (length room) s) × (new ≡ bytes_room s room))
bytes_given_determined s room = twice

pub tidy_determined : (line room : List ℕ)
    → DeterminedIn (λ (r : ℕ) (new : List ℕ). (r ≡ length (take (length room) (tidied line))) × (new ≡ over (take (length room) (tidied line)) room))
tidy_determined line room = twice

-- ---- plans
pub line_meaning_determined : (line command random expected : List ℕ)
    → DeterminedThree (λ (r : Result Line Reason) (new-command new-random new-expected : List ℕ). Means line command random expected r new-command new-random new-expected)
line_meaning_determined line command random expected r q first₁ first₂ second₁ second₂ third₁ third₂ p h =
    fourfold r q first₁ first₂ second₁ second₂ third₁ third₂ (p.told, (p.command, (p.random, p.expected))) (h.told, (h.command, (h.random, h.expected)))

pub Reason_from_DecodeError_determined : (e : DecodeError) → Determined (λ (r : Reason). r ≡ decode_reason e)
Reason_from_DecodeError_determined e = once

-- ---- verdict
pub status_of_determined : (reply : List ℕ) → Determined (λ (r : ℕ). r ≡ status_in reply)
status_of_determined reply = once

pub refuses_determined : (status : ℕ) → Determined (λ (r : Bool). r ≡ refusing status)
refuses_determined status = once

pub differs_determined : (expected reply : List ℕ) → Determined (λ (r : Bool). r ≡ differing expected reply)
differs_determined expected reply = once

-- ---- keeping
pub kept_determined : (s uid : List ℕ) → Determined (λ (r : Result Tag NotKept). Keeps s uid r)
kept_determined s uid r q p h = once r q p.told h.told

pub anew_determined : (uid : List ℕ) → Determined (λ (r : Result Tag NotKept). Starts uid r)
anew_determined uid r q p h = once r q p.told h.told

pub NoStart_from_WrongUid_determined : (_ : WrongUid) → Determined (λ (e : NoStart). e ≡ NoUid)
NoStart_from_WrongUid_determined _ = once

pub NoStart_from_NoImage_determined : (found : NoImage) → Determined (λ (e : NoStart). e ≡ start_by found false)
NoStart_from_NoImage_determined found = once

pub NotKept_from_WrongUid_determined : (e : WrongUid) → Determined (λ (k : NotKept). k ≡ not_kept NoUid e.beside)
NotKept_from_WrongUid_determined e = once

pub NotKept_from_NotRead_determined : (e : NotRead) → Determined (λ (k : NotKept). k ≡ not_kept (start_by e.why false) e.beside)
NotKept_from_NotRead_determined e = once

-- ---- arguments
pub asks_determined : (count : ℕ) (named : Bool) → Determined (λ (r : Result Asked BadArguments). Asks count named r)
asks_determined count named r q p h = once r q p.told h.told

pub beside_determined : (path room : List ℕ)
    → DeterminedIn (λ (r : Option ℕ) (new : List ℕ). (r ≡ beside_length path room) × (new ≡ beside_room path room))
beside_determined path room = twice

-- ---- forms
pub append_determined : (self : Page) (s : List ℕ) → DeterminedPage (λ (new : Page). Writes s self new)
append_determined self s = writes_once

pub append_from_determined : (self : Page) (s : List ℕ) (k : ℕ) → DeterminedPage (λ (new : Page). Writes (drop k s) self new)
append_from_determined self s k = writes_once

pub append_form_determined : (self : Page) (form numbers : List ℕ) (flags : List Bool)
    → DeterminedPage (λ (new : Page). Writes (form_of true form numbers flags) self new)
append_form_determined self form numbers flags = writes_once

pub lay_determined : (s room : List ℕ) → DeterminedIn (λ (r : ℕ) (new : List ℕ). Lays s 0 room r new)
lay_determined s room = lays_once

pub lay_form_determined : (form numbers : List ℕ) (flags : List Bool) (room : List ℕ)
    → DeterminedIn (λ (r : ℕ) (new : List ℕ). Lays (form_of true form numbers flags) 0 room r new)
lay_form_determined form numbers flags room = lays_once

-- ---- telling
pub line_text_determined : (number : ℕ) (meaning : Result Meaning Reason) (c reply : List ℕ) (why : Why) (blocks : ℕ) (e : List ℕ) (undrawn unmet : Bool) (room : List ℕ)
    → DeterminedIn (λ (r : ℕ) (new : List ℕ). Lays (line_text number meaning c reply why blocks e undrawn unmet) 0 room r new)
line_text_determined number meaning c reply why blocks e undrawn unmet room = lays_once

-- ---- tallies
pub counted_determined : (n : Tally) (number : ℕ) (w : Went) → Determined (λ (r : Tally). r ≡ counted_by n number w)
counted_determined n number w = once

pub none_determined : Determined (λ (r : Tally). r ≡ no_tally)
none_determined = once

-- ---- turns
taken_by : {r q : Taken} → r.turn ≡ q.turn → r.length ≡ q.length → r ≡ q
taken_by a b = ap₂ (λ t n. record { turn = t; length = n }) a b

pub take_turn_determined : (tag : Tag) (number : ℕ) (line d room : List ℕ)
    → DeterminedIn (λ (r : Taken) (new : List ℕ). (r.turn ≡ (line_acted tag line d).turn) × (Lays (line_told number tag line d) 0 room r.length new))
take_turn_determined tag number line d room r q new other p h =
    let t = lays_once r.length q.length new other p.1 h.1 in
    (taken_by (p.0 ∙ sym h.0) t.0, t.1)

-- ---- locks
pub locked_determined : (h : Head) → Determined (λ (r : Bool). r ≡ locked h)
locked_determined h = once

pub lock_line_determined : (number : ℕ) (h : Head) (room : List ℕ) (n : ℕ)
    → DeterminedIn (λ (r : ℕ) (new : List ℕ). Lays (lock_of number h) n room r new)
lock_line_determined number h room n = lays_once

-- ---- summaries
pub summary_determined : (tag : Tag) (room : List ℕ) → DeterminedIn (λ (r : ℕ) (new : List ℕ). Lays (summary_of tag) 0 room r new)
summary_determined tag room = lays_once
