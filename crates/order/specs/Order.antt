-- 01, "Order of checks", steps 2 to 5: what a command's bytes decide, with the level, a pending part two and the selected file.
use Rattle.std.specs.Prelude.{Bool, not, List, [], ◌∷◌, ℕ, ◌+◌, ◌-◌, eqb, leb, ltb, length, take, drop}
use Rattle.base.specs.Decide.{pick, and, or, one_of}
use Rattle.base.specs.Bytes.{byte_at}
use Rattle.base.specs.Status.{illegal_command_code, no_such_key, length_error, permission_denied, parameter_error, command_aborted}
use Rattle.base.specs.Status.{iso_wrong_length, iso_conditions, iso_wrong_p1_p2}
use Rattle.settings.specs.Filing.{file_status}

-- ---- CLA 90
-- step 2: 5 bytes, or 6 + Lc with Lc 1 to 255, and last byte 00
unfoldable pub form_right : List ℕ → Bool
form_right c =
    and (leb 5 (length c))
    (and (eqb (byte_at c (length c - 1)) 0)
    (or (eqb (length c) 5) (and (leb 1 (byte_at c 4)) (eqb (length c) (6 + byte_at c 4)))))

-- its data
unfoldable pub command_data : List ℕ → List ℕ
command_data c = take (length c - 6) (drop 5 c)

-- steps 3 and 4, of a known INS: P1 P2 not 0000 919E; part two pending and not AF 91CA; AF with none pending 911C; else 0
unfoldable pub order_status : ℕ → ℕ → ℕ → Bool → ℕ
order_status ins p1 p2 pending =
    pick (and (eqb p1 0) (eqb p2 0))
    (pick pending (pick (eqb ins 0xAF) 0 command_aborted) (pick (eqb ins 0xAF) illegal_command_code 0))
    parameter_error

-- header lengths: AD, 8D: 7; 51, 71, 77, AF: 0; the others 1
unfoldable pub header_length : ℕ → ℕ
header_length ins = pick (one_of ins (0x51 ∷ 0x71 ∷ 0x77 ∷ 0xAF ∷ [])) 0 (pick (one_of ins (0x8D ∷ 0xAD ∷ [])) 7 1)

-- commands with a data part
unfoldable pub has_data : ℕ → Bool
has_data ins = one_of ins (0x5F ∷ 0x8D ∷ 0xC4 ∷ [])

-- commands that name a key
unfoldable pub names_key : ℕ → Bool
names_key ins = one_of ins (0x64 ∷ 0xC4 ∷ [])

-- key byte over 63: 919E; key over 4: 9140; else 0
unfoldable pub key_status : ℕ → ℕ
key_status k = pick (ltb 63 k) parameter_error (pick (ltb 4 k) no_such_key 0)

-- the key byte of 64 and C4, the file byte of the others; 51 has none
unfoldable pub byte_status : ℕ → ℕ → ℕ
byte_status ins b = pick (eqb ins 0x51) 0 (pick (names_key ins) (key_status b) (file_status b))

-- step 5: data shorter than the header 917E; PICC level 919D; file or key byte. 71, 77 and AF have their own checks
unfoldable pub front_status : ℕ → List ℕ → Bool → ℕ
front_status ins x application =
    pick (one_of ins (0x71 ∷ 0x77 ∷ 0xAF ∷ [])) 0
    (pick (ltb (length x) (header_length ins)) length_error
    (pick application (byte_status ins (byte_at x 0)) permission_denied))

-- steps 3 to 5
unfoldable pub wrapped_status : List ℕ → Bool → Bool → ℕ
wrapped_status c pending application =
    let s = order_status (byte_at c 1) (byte_at c 2) (byte_at c 3) pending in
    pick (eqb s 0) (front_status (byte_at c 1) (command_data c) application) s

-- ---- CLA 00
-- step 2: 4 bytes, 5 bytes (Le), 5 + Lc or 6 + Lc with Lc 1 to 255
unfoldable pub iso_form : List ℕ → Bool
iso_form c =
    or (leb (length c) 5)
    (and (leb 1 (byte_at c 4)) (or (eqb (length c) (5 + byte_at c 4)) (eqb (length c) (6 + byte_at c 4))))

-- how much data there is, and whether there is Le
unfoldable pub lc_of : List ℕ → ℕ
lc_of c = pick (leb (length c) 5) 0 (byte_at c 4)

unfoldable pub has_le : List ℕ → Bool
has_le c = pick (leb (length c) 5) (eqb (length c) 5) (eqb (length c) (6 + byte_at c 4))

-- a read needs Le and no data, an update data and no Le
unfoldable pub fits : Bool → List ℕ → Bool
fits reads c = pick reads (and (has_le c) (eqb (lc_of c) 0)) (and (not (has_le c)) (leb 1 (lc_of c)))

-- reads and updates: P1 bit 7 6A86, then 6700, then no file selected 6985
unfoldable pub on_file_status : List ℕ → ℕ → ℕ
on_file_status c file =
    pick (leb 128 (byte_at c 2)) iso_wrong_p1_p2
    (pick (fits (eqb (byte_at c 1) 0xB0) c) (pick (eqb file 0) iso_conditions 0) iso_wrong_length)

-- step 4, part two pending 6985, and then, not for selects, the rest
unfoldable pub iso_status : List ℕ → Bool → ℕ → ℕ
iso_status c pending file = pick pending iso_conditions (pick (eqb (byte_at c 1) 0xA4) 0 (on_file_status c file))
