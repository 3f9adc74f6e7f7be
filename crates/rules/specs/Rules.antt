-- The rules for a settings string (01, "Settings strings": Rules and Order; Table 69), in 01's order, each with its name. The
-- first that does not hold answers.
use Rattle.std.specs.Prelude.{Bool, true, false, not, List, [], ◌∷◌, ℕ, ◌+◌, ◌/◌, ◌%◌, ◌^◌, eqb, leb, ltb, length, Result, Ok, Err}
use Rattle.base.specs.Decide.{pick, and, or}
use Rattle.base.specs.Bytes.{byte_at}
use Rattle.fields.specs.declared.Head.{Head}
use Rattle.fields.specs.declared.Settings.{Settings}
use Rattle.rules.specs.declared.Part.{Part}
use Rattle.rules.specs.declared.Part.TheVariants.{OptionByte, RightsBytes, SdmOptionsByte, SdmRightsBytes, Whole}
use Rattle.rules.specs.declared.Check.{Check}
use Rattle.rules.specs.declared.Check.TheVariants.{OptionBits, SdmFile, Rights, SdmOptionsBits, SdmRights}
use Rattle.rules.specs.declared.Check.TheVariants.{MetaMirrors, MetaOff, EncNeeds, EncSize}
use Rattle.rules.specs.declared.Check.TheVariants.{UidInside, CounterInside, PiccInside, EncInside, MacInside}
use Rattle.rules.specs.declared.Check.TheVariants.{Shared, MacInput, EncBetween}
use Rattle.rules.specs.declared.findings.Broken.{Broken}
use Rattle.rules.specs.declared.findings.Broken.TheVariants.{Missing, Wrong}
use Rattle.rules.specs.declared.Examined.{Examined}
use Rattle.fields.specs.Fields.{sdm_on, head_of, read_of, has_mac, has_enc, present, listed, places_in, size_of}
use Rattle.spans.specs.Spans.{uid_span, counter_span, picc_span, enc_span, mac_span, spans_of, reading_of, inside, all_apart}

-- A rule: a part that must be there whole, or a test that must hold
pub record Rule : Type 0 where
  pub holds : Bool
  pub otherwise : Broken

abbrev pub there : Part → Bool → Rule
there p b = record { holds = b; otherwise = Missing p }

abbrev pub right : Check → Bool → Rule
right k b = record { holds = b; otherwise = Wrong k }

-- the first rule that does not hold
unfoldable pub found : List Rule → Result (Unit {0}) Broken
found [] = Ok tt
found (e ∷ es) = pick e.holds (found es) (Err e.otherwise)

-- FileOption bits 7, 5 to 2 zero
unfoldable pub option_bits : ℕ → Bool
option_bits b = and (eqb (b / 128) 0) (eqb (b / 4 % 16) 0)

-- bit 6 only on file 2
unfoldable pub sdm_file : ℕ → Head → Bool
sdm_file n h = or (not h.sdm) (eqb n 2)

-- conditions 0 to 4, E, F
unfoldable pub condition : ℕ → Bool
condition c = or (leb c 4) (or (eqb c 14) (eqb c 15))

unfoldable pub rights : Head → Bool
rights h = and (condition h.read) (and (condition h.write) (and (condition h.read_write) (condition h.change)))

-- SDMOptions bit 0 one, 3 to 1 zero
unfoldable pub sdm_options_bits : ℕ → Bool
sdm_options_bits b = eqb (b % 16) 1

-- the same conditions in the SDM rights; SDMFileRead not E
unfoldable pub sdm_rights : Head → Bool
sdm_rights h = and (condition h.sdm_meta_read) (and (and (condition h.sdm_file_read) (not (eqb h.sdm_file_read 14))) (condition h.sdm_ctr_ret))

-- SDMMetaRead 0 to 4 needs bit 7 or 6
unfoldable pub meta_mirrors : Head → Bool
meta_mirrors h = or (leb 5 h.sdm_meta_read) (or h.uid h.counter)

-- SDMMetaRead F needs both zero
unfoldable pub meta_off : Head → Bool
meta_off h = or (not (eqb h.sdm_meta_read 15)) (and (not h.uid) (not h.counter))

-- bit 4 needs SDMFileRead, bits 7 and 6
unfoldable pub enc_needs : Head → Bool
enc_needs h = or (not h.enc) (and (not (eqb h.sdm_file_read 15)) (and h.uid h.counter))

-- SDMENCLength is a multiple of 32, at least 32
unfoldable pub enc_size : Settings → Bool
enc_size r = or (not (has_enc r.head)) (and (eqb (r.places.size % 32) 0) (leb 32 r.places.size))

-- MAC input start is at most the MAC offset
unfoldable pub mac_input : Settings → Bool
mac_input r = or (not (has_mac r.head)) (leb r.places.input r.places.mac)

-- the ENC span lies between them
unfoldable pub enc_between : Settings → Bool
enc_between r =
    or (not (has_enc r.head))
    (and (leb r.places.input r.places.enc) (leb (r.places.enc + r.places.size) r.places.mac))

-- positions: SDMENCLength, inside the file, no shared byte, MAC input start, ENC between; fields as listed
unfoldable pub position_rules : Settings → List Rule
position_rules r =
    right EncSize (enc_size r)
    ∷ right UidInside (inside (uid_span r))
    ∷ right CounterInside (inside (counter_span r))
    ∷ right PiccInside (inside (picc_span r))
    ∷ right EncInside (inside (enc_span r))
    ∷ right MacInside (inside (mac_span r))
    ∷ right Shared (all_apart (spans_of r))
    ∷ right MacInput (mac_input r)
    ∷ right EncBetween (enc_between r)
    ∷ []

-- with SDM on: options, SDM rights, the whole length, positions
unfoldable pub sdm_rules : List ℕ → Head → List Rule
sdm_rules s h =
    there SdmOptionsByte (leb 4 (length s))
    ∷ right SdmOptionsBits (sdm_options_bits (byte_at s 3))
    ∷ there SdmRightsBytes (leb 6 (length s))
    ∷ right SdmRights (sdm_rights h)
    ∷ right MetaMirrors (meta_mirrors h)
    ∷ right MetaOff (meta_off h)
    ∷ right EncNeeds (enc_needs h)
    ∷ there Whole (eqb (length s) (size_of h))
    ∷ position_rules (record { head = h; places = places_in s h })

-- what follows the rights: with SDM on its rules, else the whole length
unfoldable pub rest_rules : List ℕ → Head → List Rule
rest_rules s h = pick (sdm_on s) (sdm_rules s h) (there Whole (eqb (length s) (size_of h)) ∷ [])

-- of a string for file n: FileOption, rights, and the rest by SDM
unfoldable pub rules : ℕ → List ℕ → List Rule
rules n s =
    there OptionByte (leb 1 (length s))
    ∷ right OptionBits (option_bits (byte_at s 0))
    ∷ right SdmFile (sdm_file n (head_of s))
    ∷ there RightsBytes (leb 3 (length s))
    ∷ right Rights (rights (head_of s))
    ∷ rest_rules s (head_of s)

-- the first that is broken, and what the string means, good or not
unfoldable pub examined : ℕ → List ℕ → Examined
examined n s = record { finding = found (rules n s); reading = reading_of (read_of s) }

-- ---- the same rules of a record

-- a present field has three bytes, an absent one is 0
unfoldable pub field_fits : Bool → ℕ → Bool
field_fits p v = pick p (ltb v (256 ^ 3)) (eqb v 0)

unfoldable pub fields_fit : List Bool → List ℕ → Bool
fields_fit (p ∷ ps) (v ∷ vs) = and (field_fits p v) (fields_fit ps vs)
fields_fit [] vs = true
fields_fit (p ∷ ps) [] = true

unfoldable pub kept : Result (Unit {0}) Broken → Bool
kept (Ok _) = true
kept (Err e) = false

-- what a record with SDM on meets
unfoldable pub sdm_meets : Settings → Bool
sdm_meets r =
    and (and (sdm_rights r.head) (and (meta_mirrors r.head) (and (meta_off r.head) (enc_needs r.head))))
    (kept (found (position_rules r)))

-- with SDM off its options and rights are 0
unfoldable pub sdm_absent : Head → Bool
sdm_absent h =
    and (and (not h.uid) (and (not h.counter) (and (not h.limit) (not h.enc))))
    (and (eqb h.sdm_meta_read 0) (and (eqb h.sdm_file_read 0) (eqb h.sdm_ctr_ret 0)))

unfoldable pub sdm_part : Settings → Bool
sdm_part r = pick r.head.sdm (sdm_meets r) (sdm_absent r.head)

-- Plain 0, MAC 1, Full 3
unfoldable pub modes : ℕ → Bool
modes m = or (leb m 1) (eqb m 3)

-- a record meets the rules for file n
unfoldable pub meets : ℕ → Settings → Bool
meets n r =
    and (and (modes r.head.mode) (and (sdm_file n r.head) (rights r.head)))
    (and (fields_fit (present r.head) (listed r.places)) (sdm_part r))
