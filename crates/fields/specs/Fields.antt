-- The fields of a settings string and what they mean (Tables 69 and 73; 01, "Settings strings").
use Rattle.std.specs.Prelude.{Bool, not, List, [], ◌∷◌, ◌++◌, ℕ, ◌+◌, ◌*◌, ◌/◌, ◌%◌, ◌^◌, eqb, leb}
use Rattle.base.specs.Decide.{pick, and}
use Rattle.base.specs.Bytes.{byte_at, number, low}
use Rattle.fields.specs.declared.Head.{Head}
use Rattle.fields.specs.declared.Places.{Places}
use Rattle.fields.specs.declared.Settings.{Settings}

-- bit k of a byte
abbrev pub bit : ℕ → ℕ → Bool
bit k x = eqb (x / 2 ^ k % 2) 1

-- a flag as a number
abbrev pub one : Bool → ℕ
one b = pick b 1 0

-- Table 69: FileOption bit 6, SDM
unfoldable pub sdm_on : List ℕ → Bool
sdm_on s = bit 6 (byte_at s 0)

-- SDMOptions and the SDM rights are there only with SDM on; 0 stands for what is not there
unfoldable pub sdm_byte : List ℕ → ℕ → ℕ
sdm_byte s i = pick (sdm_on s) (byte_at s i) 0

-- CommMode, bits 1 and 0 of FileOption: 00 and 10 are Plain (0), 01 is MAC (1), 11 is Full (3)
unfoldable pub mode_of : ℕ → ℕ
mode_of b = pick (eqb (b % 4) 2) 0 (b % 4)

-- The fields in front: FileOption, AccessRights, SDMOptions, SDMAccessRights (Table 69). Both pairs of rights come low byte
-- first. AccessRights (8.2.3.3): Read bits 15 to 12, Write 11 to 8, ReadWrite 7 to 4, Change 3 to 0. SDMAccessRights:
-- SDMMetaRead bits 15 to 12, SDMFileRead 11 to 8, any 7 to 4, SDMCtrRet 3 to 0.
unfoldable pub head_of : List ℕ → Head
head_of s =
    record {
      mode = mode_of (byte_at s 0);
      read = byte_at s 2 / 16;
      write = byte_at s 2 % 16;
      read_write = byte_at s 1 / 16;
      change = byte_at s 1 % 16;
      sdm = sdm_on s;
      uid = bit 7 (sdm_byte s 3);
      counter = bit 6 (sdm_byte s 3);
      limit = bit 5 (sdm_byte s 3);
      enc = bit 4 (sdm_byte s 3);
      sdm_meta_read = sdm_byte s 5 / 16;
      sdm_file_read = sdm_byte s 5 % 16;
      sdm_ctr_ret = sdm_byte s 4 % 16;
    }

-- Which of the fields behind are present (Table 69, "present if")
unfoldable pub has_uid : Head → Bool
has_uid h = and h.uid (eqb h.sdm_meta_read 14)

unfoldable pub has_counter : Head → Bool
has_counter h = and h.counter (eqb h.sdm_meta_read 14)

unfoldable pub has_picc : Head → Bool
has_picc h = and h.sdm (leb h.sdm_meta_read 4)

unfoldable pub has_mac : Head → Bool
has_mac h = and h.sdm (not (eqb h.sdm_file_read 15))

unfoldable pub has_enc : Head → Bool
has_enc h = and h.enc (has_mac h)

-- in the order of Table 69: UIDOffset, SDMReadCtrOffset, PICCDataOffset, SDMMACInputOffset, SDMENCOffset, SDMENCLength,
-- SDMMACOffset, SDMReadCtrLimit
unfoldable pub present : Head → List Bool
present h = has_uid h ∷ has_counter h ∷ has_picc h ∷ has_mac h ∷ has_enc h ∷ has_enc h ∷ has_mac h ∷ h.limit ∷ []

-- Where the next field begins: each present one has three bytes. The one fact behind every offset and length.
abbrev pub after : ℕ → Bool → ℕ
after i p = i + pick p 3 0

-- the number in the three bytes at i, low byte first
unfoldable pub three : List ℕ → ℕ → ℕ
three s i = number (byte_at s i ∷ byte_at s (i + 1) ∷ byte_at s (i + 2) ∷ [])

-- the numbers of the fields from i on, 0 for one that is not there
unfoldable pub fields : List ℕ → ℕ → List Bool → List ℕ
fields s i [] = []
fields s i (p ∷ ps) = pick p (three s i) 0 ∷ fields s (after i p) ps

-- where the fields end
unfoldable pub ends : ℕ → List Bool → ℕ
ends i [] = i
ends i (p ∷ ps) = ends (after i p) ps

-- the bytes of the fields
unfoldable pub written : List Bool → List ℕ → List ℕ
written (p ∷ ps) (v ∷ vs) = pick p (low 3 v) [] ++ written ps vs
written [] vs = []
written (p ∷ ps) [] = []

-- eight numbers by name, and in the order of Table 69
unfoldable pub places_of : List ℕ → Places
places_of vs =
    record {
      uid = byte_at vs 0;
      counter = byte_at vs 1;
      picc = byte_at vs 2;
      input = byte_at vs 3;
      enc = byte_at vs 4;
      size = byte_at vs 5;
      mac = byte_at vs 6;
      limit = byte_at vs 7;
    }

unfoldable pub listed : Places → List ℕ
listed p = p.uid ∷ p.counter ∷ p.picc ∷ p.input ∷ p.enc ∷ p.size ∷ p.mac ∷ p.limit ∷ []

-- What a string means
unfoldable pub places_in : List ℕ → Head → Places
places_in s h = places_of (fields s 6 (present h))

unfoldable pub read_of : List ℕ → Settings
read_of s = record { head = head_of s; places = places_in s (head_of s) }

-- how long a string with these fields in front is
unfoldable pub size_of : Head → ℕ
size_of h = pick h.sdm (ends 6 (present h)) 3

-- The string of a record: reserved bits 0, those of the SDM rights F, Plain as 00, ASCII (SDMOptions bit 0)
unfoldable pub front_bytes : Head → List ℕ
front_bytes h = (h.mode + 64 * one h.sdm) ∷ (h.read_write * 16 + h.change) ∷ (h.read * 16 + h.write) ∷ []

unfoldable pub sdm_bytes : Head → List ℕ
sdm_bytes h =
    (128 * one h.uid + 64 * one h.counter + 32 * one h.limit + 16 * one h.enc + 1)
    ∷ (240 + h.sdm_ctr_ret)
    ∷ (h.sdm_meta_read * 16 + h.sdm_file_read)
    ∷ []

unfoldable pub string_of : Settings → List ℕ
string_of r =
    front_bytes r.head
    ++ pick r.head.sdm (sdm_bytes r.head ++ written (present r.head) (listed r.places)) []
