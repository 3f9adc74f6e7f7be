-- Each public function of the floors from state to tag: its promise, as the source states it, determines the result and the lent
-- room. An answer (Done) is determined up to the bytes behind its length. The other public function of crate tag is `fresh` of delivery.
use native.Mathlib.Omega.{arith}
use Rattle.std.specs.Prelude.{Option, Result}
use Rattle.determined.proofs.Words.{status_once, refusal_once, ordered_once}
use Rattle.access.specs.declared.Grant.{Grant}
use Rattle.settings.specs.declared.Fault.{Fault}
use Rattle.settings.specs.Answers.{fault_word}
use Rattle.delivery.specs.declared.WrongUid.{WrongUid}
use Rattle.buffers.specs.declared.buffer.Buffer.{Buffer}
use Rattle.buffers.specs.Text.{text_of}
use Rattle.base.specs.Bytes.{over}
use Rattle.statuses.specs.declared.Status.{Status}
use Rattle.statuses.specs.Words.{word_or_0, status_word, status_word as word_of}
use mathlib.Core.Path.{◌≡◌, sym, ◌∙◌}
use mathlib.Core.Bool.{Bool}
use mathlib.Core.List.{[], ◌++◌, List}
use Prim.Native.Nat.{ℕ, min, ◌≤◌}
use lib.ListN.{length-take, replicate, length, take, drop}
use Rattle.fields.specs.declared.Head.{Head}
use Rattle.spans.specs.Spans.{SpansFit}
use Rattle.spans.specs.declared.Reading.{Reading}
use Rattle.messaging.specs.declared.Mode.{Mode}
use Rattle.messaging.specs.declared.Session.{Session}
use Rattle.state.specs.State.{ended_of, key_in, no_live, no_pending, quieted, reading_in, size_of, slot_of, start_of, string_at, talking, session_of}
use Rattle.state.specs.declared.Files.{Files}
use Rattle.state.specs.declared.Live.{Live}
use Rattle.state.specs.declared.Pending.{Pending}
use Rattle.state.specs.declared.Tag.{Tag}
use Rattle.state.specs.declared.Tapping.{Tapping}
use Rattle.order.specs.Order.{key_status}
use Rattle.replies.specs.Answer.{Gives, accepted, afterwards, given_for, refusal, room_given}
use Rattle.replies.specs.declared.Done.{Done}
use Rattle.auth.specs.Parts.{part_one_first, part_one_next}
use Rattle.keyring.specs.Keyring.{changed_key, key_version}
use Rattle.details.specs.Details.{card_uid, file_counters, file_settings}
use Rattle.file_parts.specs.Filing.{part_of, stored, stored_iso, with_bytes}
use Rattle.taps.specs.Taps.{tap_read}
use Rattle.contents.specs.Contents.{read_data, written_data}
use Rattle.selects.specs.Selects.{selected}
use Rattle.access.specs.declared.Marks.{Marks}
use Rattle.access.specs.Marks.{marks_of}
use Rattle.access.specs.Access.{decided}
use Rattle.binaries.specs.Binaries.{binary}
use Rattle.delivery.specs.Fresh.{blank, Births}
use Rattle.soundness.specs.Sound.{sound_tag, judged_tag}
use Rattle.change_settings.specs.ChangeSettings.{changed_settings}
use Rattle.part_two.specs.PartTwo.{part_two_answer}
use Rattle.wrapped.specs.Wrapped.{wrapped}
use Rattle.tag.specs.Call.{Calls}
use Rattle.tag.specs.declared.Called.{Called}
use Rattle.determined.specs.Determining.{Determined, DeterminedIn, DeterminedText, DeterminedStatus, DeterminedWord, DeterminedBuffer}
use Rattle.order.specs.Commands.{in_words, ordered, ordered_number}
use Rattle.access.specs.declared.Decision.{Decision}
use Rattle.order.specs.declared.Name.{Name}
use Rattle.soundness.specs.declared.Judged.{Judged}
use Rattle.order.specs.declared.Command.{Command}
use Rattle.determined.proofs.Determined.{once, calls_once, births_once, gives_once, array_once, both_once, text_once, over_length}

-- ---- statuses
pub u16_from_Status_determined : (s : Status) → Determined (λ (n : ℕ). n ≡ status_word s)
u16_from_Status_determined s = once

-- ---- settings
pub Status_from_Fault_determined : (fault : Fault) → DeterminedStatus (λ (status : Status). word_of status ≡ fault_word fault)
Status_from_Fault_determined fault = status_once

-- ---- buffers
pub empty_determined : (N : ℕ) → Determined (λ (r : Buffer N). (text_of r ≡ []) × ((r.length ≡ 0) × (r.bytes ≡ replicate N 0)))
empty_determined N r q p h = array_once r q (p.1.1 ∙ sym h.1.1) (p.1.0 ∙ sym h.1.0)

pub of_determined : (N : ℕ) (text : List ℕ)
    → Determined (λ (r : Buffer N). (text_of r ≡ take N text) × ((r.length ≡ min (length text) N) × (r.bytes ≡ over (take N text) (replicate N 0))))
of_determined N text r q p h = array_once r q (p.1.1 ∙ sym h.1.1) (p.1.0 ∙ sym h.1.0)

pub append_determined : (N : ℕ) (self : Buffer N) (more : List ℕ)
    → DeterminedBuffer (λ (new : Buffer N). text_of new ≡ take N (text_of self ++ more))
append_determined N self more = text_once

pub as_slice_determined : (N : ℕ) (self : Buffer N) → Determined (λ (r : List ℕ). r ≡ text_of self)
as_slice_determined N self = once

-- ---- state
pub session_of_determined : (l : Live) → Determined (λ (r : Session). r ≡ session_of l)
session_of_determined l = once

pub talking_determined : (tag : Tag) (l : Live) (p : Pending) → Determined (λ (r : Tag). r ≡ talking tag l p)
talking_determined tag l p = once

pub ended_determined : (tag : Tag) → Determined (λ (r : Tag). r ≡ ended_of tag)
ended_determined tag = once

pub file_size_determined : (n : ℕ) → Determined (λ (r : ℕ). r ≡ size_of n)
file_size_determined n = once

pub file_start_determined : (n : ℕ) → Determined (λ (r : ℕ). r ≡ start_of n)
file_start_determined n = once

pub key_of_determined : (keys : List ℕ) (k : ℕ) → Determined (λ (r : List ℕ). r ≡ key_in keys k)
key_of_determined keys k = once

pub no_live_determined : Determined (λ (r : Live). r ≡ no_live)
no_live_determined = once

pub no_pending_determined : Determined (λ (r : Pending). r ≡ no_pending)
no_pending_determined = once

pub quiet_determined : (t : Tapping) → Determined (λ (r : Tapping). r ≡ quieted t)
quiet_determined t = once

pub reading_in_determined : (f : Files) (n : ℕ) → Determined (λ (r : Reading). r ≡ reading_in f n)
reading_in_determined f n = once

pub slot_of_determined : (n : ℕ) → Determined (λ (r : ℕ). r ≡ slot_of n)
slot_of_determined n = once

pub string_in_determined : (rules lens : List ℕ) (n : ℕ) → Determined (λ (r : List ℕ). r ≡ string_at rules lens n)
string_in_determined rules lens n = once

-- ---- order
pub command_in_determined : (c : List ℕ) (pending application : Bool) (file : ℕ)
    → DeterminedWord (λ (r : Result Command Status). (in_words r ≡ ordered c pending application file) × (ordered_number (in_words r) ≡ ordered_number (ordered c pending application file)))
command_in_determined c pending application file r q a b p h = ordered_once r q a b p.0 h.0

pub key_status_determined : (k : ℕ) → DeterminedWord (λ (r : Result (Unit {0}) Status). word_or_0 r ≡ key_status k)
key_status_determined k = refusal_once

-- ---- replies
pub give_text_determined : (tag : Tag) (status : Status) (text : List ℕ) (cost : ℕ)
    → DeterminedText (λ (r : Done). Gives (room_given cost tag (status_word status) text) r)
give_text_determined tag status text cost = gives_once

pub refuse_determined : (tag : Tag) (status : Status) → DeterminedText (λ (r : Done). Gives (refusal tag (status_word status)) r)
refuse_determined tag status = gives_once

pub give_determined : (tag : Tag) (status : Status) (reply : Buffer 258) (cost : ℕ)
    → DeterminedText (λ (r : Done). Gives (given_for cost tag (status_word status) (take 256 (text_of reply))) r)
give_determined tag status reply cost = gives_once

pub after_determined : (tag : Tag) → Determined (λ (r : Tag). r ≡ afterwards tag)
after_determined tag = once

pub accept_determined : (tag : Tag) (mode : Mode) (reply : Buffer 258)
    → DeterminedText (λ (r : Done). Gives (accepted tag mode (take 256 (text_of reply))) r)
accept_determined tag mode reply = gives_once

-- ---- auth
pub first_determined : (tag : Tag) (x random : List ℕ) → DeterminedText (λ (r : Done). Gives (part_one_first tag x random) r)
first_determined tag x random = gives_once

pub next_determined : (tag : Tag) (x random : List ℕ) → DeterminedText (λ (r : Done). Gives (part_one_next tag x random) r)
next_determined tag x random = gives_once

-- ---- keyring
pub change_key_determined : (tag : Tag) (k : ℕ) (p : List ℕ) → DeterminedText (λ (r : Done). Gives (changed_key tag k p) r)
change_key_determined tag k p = gives_once

pub key_version_determined : (tag : Tag) (k : ℕ) (mode : Mode) → DeterminedText (λ (r : Done). Gives (key_version tag k mode) r)
key_version_determined tag k mode = gives_once

-- ---- details
pub card_uid_determined : (tag : Tag) → DeterminedText (λ (r : Done). Gives (card_uid tag) r)
card_uid_determined tag = gives_once

pub file_settings_determined : (tag : Tag) (n : ℕ) (mode : Mode) → DeterminedText (λ (r : Done). Gives (file_settings tag n mode) r)
file_settings_determined tag n mode = gives_once

pub file_counters_determined : (tag : Tag) (mode : Mode) → DeterminedText (λ (r : Done). Gives (file_counters tag mode) r)
file_counters_determined tag mode = gives_once

-- ---- file_parts
pub cut_determined : (text : List ℕ) (at count : ℕ)
    → Determined (λ (r : Buffer 258). (text_of r ≡ part_of text at count) × (r.bytes ≡ over (part_of text at count) (replicate 258 0)))
unfolding part_of
cut_determined text at count =
    let short : length (part_of text at count) ≤ 258 = omega (arith, length-take (min count 256) (drop at text)) in
    both_once (over_length (part_of text at count) 258 short)

pub read_stored_determined : (tag : Tag) (m : Mode) (n at count : ℕ) → DeterminedText (λ (r : Done). Gives (stored tag m n at count) r)
read_stored_determined tag m n at count = gives_once

pub read_stored_iso_determined : (tag : Tag) (n at count : ℕ) → DeterminedText (λ (r : Done). Gives (stored_iso tag n at count) r)
read_stored_iso_determined tag n at count = gives_once

pub with_bytes_determined : (f : Files) (n at : ℕ) (p : List ℕ) → Determined (λ (r : Files). r ≡ with_bytes f n at p)
with_bytes_determined f n at p = once

-- ---- taps
pub read_tap_determined : (tag : Tag) (r : Reading) (iso : Bool) (at count : ℕ) (random : List ℕ) → SpansFit r → DeterminedText (λ (d : Done). Gives (tap_read tag r iso at count random) d)
read_tap_determined tag r iso at count random asked = gives_once

-- ---- contents
pub read_data_determined : (tag : Tag) (k : Command) (r : Reading) (d : Decision) (random : List ℕ) → SpansFit r → DeterminedText (λ (x : Done). Gives (read_data tag k r d random) x)
read_data_determined tag k r d random asked = gives_once

pub write_data_determined : (tag : Tag) (k : Command) (p : List ℕ) (m : Mode) → DeterminedText (λ (r : Done). Gives (written_data tag k p m) r)
write_data_determined tag k p m = gives_once

-- ---- selects
pub select_determined : (tag : Tag) (p1 p2 : ℕ) (d : List ℕ) → DeterminedText (λ (r : Done). Gives (selected tag p1 p2 d) r)
select_determined tag p1 p2 d = gives_once

-- ---- access
pub decide_determined : (name : Name) (l : Live) (h : Head) → Determined (λ (r : Decision). r ≡ decided name l h)
decide_determined name l h = once

pub marked_determined : (noted : Option Grant) → Determined (λ (m : Marks). m ≡ marks_of noted)
marked_determined noted = once

-- ---- binaries
pub binary_determined : (tag : Tag) (k : Command) (r : Reading) (d : Decision) (x random : List ℕ) → SpansFit r → DeterminedText (λ (y : Done). Gives (binary tag k r d x random) y)
binary_determined tag k r d x random asked = gives_once

-- ---- delivery
pub blank_determined : Determined (λ (r : Tag). r ≡ blank)
blank_determined = once

pub fresh_determined : (uid : List ℕ) → Determined (λ (r : Result Tag WrongUid). Births uid r)
fresh_determined uid = births_once

-- ---- inter_industry
-- ---- soundness
pub judge_tag_determined : (t : Tag) → Determined (λ (r : Judged). r ≡ judged_tag t)
judge_tag_determined t = once

pub sound_determined : (t : Tag) → Determined (λ (r : Bool). r ≡ sound_tag t)
sound_determined t = once

-- ---- change_settings
pub change_settings_determined : (tag : Tag) (n : ℕ) (r : Reading) (p : List ℕ) (m : Mode) → DeterminedText (λ (d : Done). Gives (changed_settings tag n r p m) d)
change_settings_determined tag n r p m = gives_once

-- ---- part_two
pub second_determined : (tag : Tag) (x random : List ℕ) → DeterminedText (λ (r : Done). Gives (part_two_answer tag x random) r)
second_determined tag x random = gives_once

-- ---- wrapped
pub wrapped_determined : (tag : Tag) (k : Command) (r : Reading) (d : Decision) (x random : List ℕ) → SpansFit r → DeterminedText (λ (y : Done). Gives (wrapped tag k r d x random) y)
wrapped_determined tag k r d x random asked = gives_once

-- ---- tag
pub call_determined : (tag : Tag) (command random room : List ℕ)
    → DeterminedIn (λ (r : Called) (new : List ℕ). Calls tag command random room r new)
call_determined tag command random room = calls_once
