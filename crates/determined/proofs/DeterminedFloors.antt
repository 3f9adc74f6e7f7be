-- Each public function of the floors from base to mirror: its promise, as the source states it, determines the result and the lent room.
use Rattle.closing.specs.declared.NotClosed.{NotClosed}
use Rattle.closing.specs.declared.Closed.{Closed}
use Rattle.writing.specs.declared.NotWritten.TheVariants.{NoFile}
use Rattle.writing.specs.declared.NotWritten.{NotWritten}
use Rattle.opening.specs.declared.Opened.{Opened}
use Rattle.normalising.specs.declared.NotNormal.TheVariants.{Fault as Faulty}
use Rattle.normalising.specs.declared.NotNormal.{NotNormal}
use Rattle.settings.specs.declared.Fault.TheVariants.{String, File}
use Rattle.settings.specs.declared.Fault.{Fault}
use Rattle.rules.specs.declared.findings.Broken.{Broken}
use Rattle.lines.specs.declared.DecodeError.{DecodeError}
use Rattle.std.specs.Prelude.{Result, Option}
use mathlib.Core.Bool.{Bool}
use mathlib.Core.List.{List}
use mathlib.Core.Path.{◌≡◌, sym, ◌∙◌}
use Prim.Native.Nat.{ℕ, ◌/◌, ◌%◌}
use lib.Dec.{leb}
use lib.ListN.{length, take}
use Rattle.base.specs.Bytes.{byte_at, laid, same}
use Rattle.base.specs.Decide.{pick}
use Rattle.sbox.specs.Tables.{inv_sbox, sbox}
use Rattle.sbox.specs.Words.{mixing_table, unmixing_table, packed}
use Rattle.words.specs.Words.{block_of, column_of, picked_of, words_of}
use Rattle.key_expansion.specs.Keys.{key_expansion}
use Rattle.aes.specs.Block.{block_cost, cipher, counted, inv_cipher, xor_block}
use Rattle.aes.specs.declared.Counted.{Counted}
use Rattle.aes.specs.ByTables.{Deciphers, Enciphers}
use Rattle.cbc.specs.Cbc.{Chains, block_at, cbc_back, cbc_out}
use Rattle.cbc.specs.declared.Ragged.{Ragged}
use Rattle.cmac.specs.Cmac.{cmac, cmac_cost, even_places, mac}
use Rattle.fields.specs.Fields.{has_counter, has_enc, has_mac, has_picc, has_uid, head_of, listed, places_in, present, read_of, sdm_on, size_of}
use Rattle.fields.specs.declared.Head.{Head}
use Rattle.fields.specs.declared.Places.{Places}
use Rattle.fields.specs.declared.Settings.{Settings}
use Rattle.spans.specs.Spans.{all_apart, inside, reading_of, SpansFit}
use Rattle.spans.specs.declared.Reading.{Reading}
use Rattle.spans.specs.declared.Span.{Span}
use Rattle.rules.specs.Numbers.{finding_number, first_number}
use Rattle.rules.specs.Rules.{found, meets, rules, examined}
use Rattle.settings.specs.Answers.{fault_word, fault_of, judged, read_as, status_word, told_word, verdict_word, seen}
use Rattle.settings.specs.Filing.{file_fault_word, file_judged, file_status, filed_word}
use Rattle.settings.specs.declared.FileFault.{FileFault}
use Rattle.settings.specs.declared.Status.{Status}
use Rattle.normalising.specs.Answers.{normal_room, normalised}
use Rattle.writing.specs.Answers.{writing_number, written_as, written_number, written_room}
use Rattle.crc.specs.Crc.{crc}
use Rattle.sdm.specs.Tap.{Hides, picc_cost, picc_data, tap_enc_key, tap_iv, tap_iv_cost, tap_key_cost, tap_mac_key}
use Rattle.sdm.specs.declared.Tap.{Tap}
use Rattle.authentication.specs.Authentication.{enciphered, first_reply, first_reply_cost, next_reply, next_reply_cost, part_one_cost, part_two}
use Rattle.authentication.specs.declared.PartTwo.{PartTwo}
use Rattle.session_keys.specs.Keys.{session_keys}
use Rattle.session_keys.specs.declared.Keys.{Keys}
use Rattle.padding.specs.Padding.{Pads, is_padded, unpad, unpadded_status}
use Rattle.messaging.specs.Protect.{command_iv, command_vector, message_mac, message_mac_cost, reply_iv, reply_vector, vector_cost}
use Rattle.messaging.specs.declared.Mode.{Mode}
use Rattle.messaging.specs.declared.Session.{Session}
use Rattle.closing.specs.Reply.{Closes, overlong}
use Rattle.opening.specs.Command.{Opens, opening, opening_cost}
use Rattle.lines.specs.Hex.{char_of, chars_room, decoded, decoded_number, decoded_room, digit_of, is_hex}
use Rattle.lines.specs.Lines.{seek}
use Rattle.mirror.specs.Mirrors.{dynamic_cost, dynamic_data}
use Rattle.mirror.specs.declared.Mirror.{Mirror}
use Rattle.determined.specs.Determining.{Determined, DeterminedIn}
use Rattle.rules.specs.declared.Examined.{Examined}
use Rattle.settings.specs.declared.Seen.{Seen}
use Rattle.fields.specs.Normal.{normal}
use Rattle.determined.proofs.Determined.{once, twice, counted_once, chains_once, pads_once, opens_once, closes_once, hides_once}

-- ---- base
pub at_determined : (s : List ℕ) (i : ℕ) → Determined (λ (r : ℕ). r ≡ byte_at s i)
at_determined s i = once

pub alike_determined : (a b : List ℕ) → Determined (λ (r : Bool). r ≡ same a b)
alike_determined a b = once

pub put_determined : (src dst : List ℕ) (at : ℕ) → Determined (λ (new : List ℕ). new ≡ laid src at dst)
put_determined src dst at = once

-- ---- sbox
pub forward_determined : Determined (λ (r : List ℕ). r ≡ sbox)
forward_determined = once

pub backward_determined : Determined (λ (r : List ℕ). r ≡ inv_sbox)
backward_determined = once

pub mixing_determined : Determined (λ (r : List ℕ). r ≡ mixing_table)
mixing_determined = once

pub unmixing_determined : Determined (λ (r : List ℕ). r ≡ unmixing_table)
unmixing_determined = once

-- ---- words
pub pack_determined : (a b c d : ℕ) → Determined (λ (r : ℕ). r ≡ packed a b c d)
pack_determined a b c d = once

pub columns_determined : (s : List ℕ) → Determined (λ (r : List ℕ). (r ≡ words_of s) × (block_of r ≡ s))
columns_determined s r q p h = once r q p.0 h.0

pub bytes_of_determined : (s : List ℕ) → Determined (λ (r : List ℕ). r ≡ block_of s)
bytes_of_determined s = once

pub column_determined : (t : List ℕ) (a b c d : ℕ) → Determined (λ (r : ℕ). r ≡ column_of t a b c d)
column_determined t a b c d = once

pub picked_determined : (v : List ℕ) (a b c d : ℕ) → Determined (λ (r : ℕ). r ≡ picked_of v a b c d)
picked_determined v a b c d = once

-- ---- key_expansion
pub expand_determined : (key : List ℕ) → Determined (λ (r : List (List ℕ)). r ≡ key_expansion key)
expand_determined key = once

-- ---- aes
pub decrypt_determined : (w : List (List ℕ)) (s : List ℕ) → Determined (λ (r : Counted 16). r ≡ counted (inv_cipher w s) block_cost)
decrypt_determined w s = once

pub decrypt_with_determined : (v u : List ℕ) (w : List (List ℕ)) (s : List ℕ) → Determined (λ (r : Counted 16). Deciphers v u w s r)
decrypt_with_determined v u w s r q p h = counted_once r q (p.by ∙ sym h.by) (p.cost ∙ sym h.cost)

pub encrypt_determined : (w : List (List ℕ)) (s : List ℕ) → Determined (λ (r : Counted 16). r ≡ counted (cipher w s) block_cost)
encrypt_determined w s = once

pub encrypt_with_determined : (t : List ℕ) (w : List (List ℕ)) (s : List ℕ) → Determined (λ (r : Counted 16). Enciphers t w s r)
encrypt_with_determined t w s r q p h = counted_once r q (p.by ∙ sym h.by) (p.cost ∙ sym h.cost)

pub xor_block_determined : (a b : List ℕ) → Determined (λ (r : List ℕ). r ≡ xor_block a b)
xor_block_determined a b = once

-- ---- cbc
pub load_determined : (s : List ℕ) (at : ℕ) → Determined (λ (r : List ℕ). r ≡ block_at s at)
load_determined s at = once

pub cbc_encrypt_determined : (w : List (List ℕ)) (iv buf : List ℕ) → DeterminedIn (λ (r : Result ℕ Ragged) (new : List ℕ). Chains (cbc_out w iv) buf r new)
cbc_encrypt_determined w iv buf = chains_once

pub cbc_decrypt_determined : (w : List (List ℕ)) (iv buf : List ℕ) → DeterminedIn (λ (r : Result ℕ Ragged) (new : List ℕ). Chains (cbc_back w iv) buf r new)
cbc_decrypt_determined w iv buf = chains_once

-- ---- cmac
pub cmac_of_determined : (w : List (List ℕ)) (s : List ℕ) → Determined (λ (r : Counted 16). r ≡ counted (cmac w s) (cmac_cost (length s)))
cmac_of_determined w s = once

pub mac_of_determined : (w : List (List ℕ)) (s : List ℕ) → Determined (λ (r : Counted 8). r ≡ counted (even_places (cmac w s)) (cmac_cost (length s)))
mac_of_determined w s = once

-- ---- fields
pub in_order_determined : (p : Places) → Determined (λ (r : List ℕ). r ≡ listed p)
in_order_determined p = once

pub places_of_determined : (s : List ℕ) (h : Head) → Determined (λ (r : Places). r ≡ places_in s h)
places_of_determined s h = once

pub settings_of_determined : (s : List ℕ) → Determined (λ (r : Settings). r ≡ read_of s)
settings_of_determined s = once

pub size_of_determined : (h : Head) → Determined (λ (r : ℕ). r ≡ size_of h)
size_of_determined h = once

pub has_counter_determined : (h : Head) → Determined (λ (r : Bool). r ≡ has_counter h)
has_counter_determined h = once

pub has_enc_determined : (h : Head) → Determined (λ (r : Bool). r ≡ has_enc h)
has_enc_determined h = once

pub has_mac_determined : (h : Head) → Determined (λ (r : Bool). r ≡ has_mac h)
has_mac_determined h = once

pub has_picc_determined : (h : Head) → Determined (λ (r : Bool). r ≡ has_picc h)
has_picc_determined h = once

pub has_uid_determined : (h : Head) → Determined (λ (r : Bool). r ≡ has_uid h)
has_uid_determined h = once

pub head_of_determined : (s : List ℕ) → Determined (λ (r : Head). r ≡ head_of s)
head_of_determined s = once

pub present_fields_determined : (h : Head) → Determined (λ (r : List Bool). r ≡ present h)
present_fields_determined h = once

pub sdm_on_determined : (s : List ℕ) → Determined (λ (r : Bool). r ≡ sdm_on s)
sdm_on_determined s = once

-- ---- spans
pub reading_of_determined : (r : Settings) → Determined (λ (x : Reading). x ≡ reading_of r)
reading_of_determined r = once

pub is_inside_determined : (a : Span) → Determined (λ (r : Bool). r ≡ inside a)
is_inside_determined a = once

pub all_apart_determined : (spans : List Span) → Determined (λ (r : Bool). r ≡ all_apart spans)
all_apart_determined spans = once

pub meaning_determined : (s : List ℕ) → Determined (λ (r : Reading). r ≡ reading_of (read_of s))
meaning_determined s = once

-- ---- rules
pub examine_determined : (file : ℕ) (s : List ℕ)
    → Determined (λ (r : Examined). (r ≡ examined file s) × (finding_number r.finding ≡ first_number (rules file s)))
examine_determined file s r q p h = once r q p.0 h.0

pub broken_determined : (file : ℕ) (s : List ℕ)
    → Determined (λ (r : Result (Unit {0}) Broken). (r ≡ found (rules file s)) × (finding_number r ≡ first_number (rules file s)))
broken_determined file s r q p h = once r q p.0 h.0

pub meets_determined : (file : ℕ) (r : Settings) → Determined (λ (x : Bool). x ≡ meets file r)
meets_determined file r = once

-- ---- settings
pub see_determined : (file : ℕ) (s : List ℕ) → Determined (λ (r : Seen). r ≡ seen file s)
see_determined file s = once

pub judge_file_determined : (file : ℕ)
    → Determined (λ (r : Result (Unit {0}) FileFault). (r ≡ file_judged file) × (filed_word r ≡ file_status file))
judge_file_determined file r q p h = once r q p.0 h.0

pub judge_determined : (file : ℕ) (s : List ℕ) → Determined (λ (r : Result (Unit {0}) Fault). r ≡ judged file s)
judge_determined file s = once

pub read_determined : (file : ℕ) (s : List ℕ)
    → Determined (λ (r : Result Reading Fault). (r ≡ read_as (judged file s) s) × (told_word r ≡ verdict_word (judged file s)))
read_determined file s r q p h = once r q p.0 h.0

pub u16_from_Status_determined : (status : Status) → Determined (λ (word : ℕ). word ≡ status_word status)
u16_from_Status_determined status = once

pub u16_from_FileFault_determined : (fault : FileFault) → Determined (λ (word : ℕ). word ≡ file_fault_word fault)
u16_from_FileFault_determined fault = once

pub u16_from_Fault_determined : (fault : Fault) → Determined (λ (word : ℕ). word ≡ fault_word fault)
u16_from_Fault_determined fault = once

pub Fault_from_Status_determined : (status : Status) → Determined (λ (fault : Fault). fault ≡ String status)
Fault_from_Status_determined status = once

pub Fault_from_FileFault_determined : (file : FileFault) → Determined (λ (fault : Fault). fault ≡ File file)
Fault_from_FileFault_determined file = once

pub Fault_from_Broken_determined : (broken : Broken) → Determined (λ (fault : Fault). fault ≡ fault_of broken)
Fault_from_Broken_determined broken = once

-- ---- normalising
pub is_normal_determined : (s : List ℕ) → Determined (λ (r : Bool). r ≡ same s (normal s))
is_normal_determined s = once

pub normalise_determined : (file : ℕ) (s room : List ℕ)
    → DeterminedIn (λ (r : Result ℕ NotNormal) (new : List ℕ). (r ≡ normalised (judged file s) s room) × (new ≡ normal_room (judged file s) s room))
normalise_determined file s room = twice

pub NotNormal_from_Fault_determined : (fault : Fault) → Determined (λ (reason : NotNormal). reason ≡ Faulty fault)
NotNormal_from_Fault_determined fault = once

-- ---- writing
pub write_determined : (file : ℕ) (r : Settings) (room : List ℕ)
    → DeterminedIn (λ (w : Result ℕ NotWritten) (new : List ℕ). (w ≡ written_as file r room) × ((new ≡ written_room file r room) × (written_number w ≡ writing_number file r room)))
write_determined file r room w q new other p h = twice w q new other (p.0, p.1.0) (h.0, h.1.0)

pub NotWritten_from_FileFault_determined : (fault : FileFault) → Determined (λ (reason : NotWritten). reason ≡ NoFile fault)
NotWritten_from_FileFault_determined fault = once

-- ---- crc
pub crc_of_determined : (s : List ℕ) → Determined (λ (r : List ℕ). r ≡ crc s)
crc_of_determined s = once

-- ---- sdm
pub picc_data_determined : (key : List ℕ) (t : Tap) (padding : List ℕ) → Determined (λ (r : Counted 16). r ≡ counted (picc_data key t padding) picc_cost)
picc_data_determined key t padding = once

pub tap_encrypt_determined : (key : List ℕ) (counter : ℕ) (text : List ℕ) → DeterminedIn (λ (r : Result ℕ Ragged) (new : List ℕ). Hides key counter text r new)
tap_encrypt_determined key counter text = hides_once

pub tap_iv_determined : (key : List ℕ) (counter : ℕ) → Determined (λ (r : Counted 16). r ≡ counted (tap_iv key counter) tap_iv_cost)
tap_iv_determined key counter = once

pub tap_enc_key_determined : (key : List ℕ) (t : Tap) → Determined (λ (r : Counted 16). r ≡ counted (tap_enc_key key t) tap_key_cost)
tap_enc_key_determined key t = once

pub tap_mac_key_determined : (key : List ℕ) (t : Tap) → Determined (λ (r : Counted 16). r ≡ counted (tap_mac_key key t) tap_key_cost)
tap_mac_key_determined key t = once

pub tap_mac_determined : (key text : List ℕ) → Determined (λ (r : Counted 8). r ≡ counted (mac key text) (cmac_cost (length text)))
tap_mac_determined key text = once

-- ---- authentication
pub part_one_determined : (kx b : List ℕ) → Determined (λ (r : Counted 16). r ≡ counted (enciphered kx b) part_one_cost)
part_one_determined kx b = once

pub check_part_two_determined : (kx b x : List ℕ) → Determined (λ (r : PartTwo). r ≡ part_two kx b x)
check_part_two_determined kx b x = once

pub first_reply_determined : (kx ti a cap : List ℕ) → Determined (λ (r : Counted 32). r ≡ counted (first_reply kx ti a cap) first_reply_cost)
first_reply_determined kx ti a cap = once

pub next_reply_determined : (kx a : List ℕ) → Determined (λ (r : Counted 16). r ≡ counted (next_reply kx a) next_reply_cost)
next_reply_determined kx a = once

-- ---- session_keys
pub session_keys_determined : (kx a b : List ℕ) → Determined (λ (r : Keys). r ≡ session_keys kx a b)
session_keys_determined kx a b = once

-- ---- padding
pub pad_determined : (room : List ℕ) (n : ℕ) → DeterminedIn (λ (r : Option ℕ) (new : List ℕ). Pads n room r new)
pad_determined room n = pads_once

pub unpad_determined : (s : List ℕ) → Determined (λ (r : Option ℕ). (r ≡ unpad s) × (unpadded_status r ≡ pick (is_padded s) 0x9100 0x911E))
unpad_determined s r q p h = once r q p.0 h.0

-- ---- messaging
pub command_iv_determined : (s : Session) → Determined (λ (r : Counted 16). r ≡ counted (command_iv s) vector_cost)
command_iv_determined s = once

pub command_vector_determined : (w : List (List ℕ)) (s : Session) → Determined (λ (r : Counted 16). r ≡ counted (command_vector w s) vector_cost)
command_vector_determined w s = once

pub message_mac_determined : (s : Session) (first : ℕ) (body : List ℕ)
    → Determined (λ (r : Counted 8). r ≡ counted (message_mac s first (take 293 body)) (message_mac_cost (length (take 293 body))))
message_mac_determined s first body = once

pub reply_iv_determined : (s : Session) → Determined (λ (r : Counted 16). r ≡ counted (reply_iv s) vector_cost)
reply_iv_determined s = once

pub reply_vector_determined : (w : List (List ℕ)) (s : Session) → Determined (λ (r : Counted 16). r ≡ counted (reply_vector w s) vector_cost)
reply_vector_determined w s = once

-- ---- closing
pub close_determined : (s : Session) (m : Mode) (code : ℕ) (room : List ℕ) (n : ℕ)
    → DeterminedIn (λ (r : Result Closed NotClosed) (new : List ℕ). Closes s m code n room r new)
close_determined s m code room n = closes_once

pub too_long_determined : (m : Mode) (n : ℕ) → Determined (λ (r : Bool). r ≡ overlong m n)
too_long_determined m n = once

-- ---- opening
pub open_determined : (s : Session) (m : Mode) (cmd : ℕ) (x : List ℕ) (h : ℕ) (there : Bool) (room : List ℕ)
    → DeterminedIn (λ (r : Opened) (new : List ℕ). Opens x (opening s m cmd x h there) (opening_cost s m cmd x h there) room r new)
open_determined s m cmd x h there room = opens_once

-- ---- lines
pub find_determined : (text : List ℕ) (at b : ℕ) → Determined (λ (r : ℕ). r ≡ seek text at b)
find_determined text at b = once

pub digit_determined : (c : ℕ) → Determined (λ (r : Option ℕ). r ≡ digit_of c)
digit_determined c = once

pub character_determined : (v : ℕ) → Determined (λ (r : ℕ). r ≡ char_of (v % 16))
character_determined v = once

pub is_hex_determined : (text : List ℕ) → Determined (λ (r : Bool). r ≡ is_hex text)
is_hex_determined text = once

pub decode_determined : (text room : List ℕ)
    → DeterminedIn (λ (r : Result ℕ DecodeError) (new : List ℕ). (r ≡ decoded text room) × ((new ≡ decoded_room text room)
    × (decoded_number r ≡ pick (is_hex text) (pick (leb (length text / 2) (length room)) 0 2) 1)))
decode_determined text room r q new other p h = twice r q new other (p.0, p.1.0) (h.0, h.1.0)

pub encode_determined : (s room : List ℕ) → Determined (λ (new : List ℕ). new ≡ chars_room s room)
encode_determined s room = once

-- ---- mirror
pub lay_determined : (file : List ℕ) (r : Reading) (m : Mirror) → SpansFit r → Determined (λ (f : Counted 256). f ≡ counted (dynamic_data file r m) (dynamic_cost r))
lay_determined file r m asked = once
