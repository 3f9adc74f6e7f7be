-- The status words, by name (Tables 23 and 24). A reply ends with one of them.
use Rattle.std.specs.Prelude.{ℕ, ◌+◌}

-- Table 23, behind 91
abbrev pub operation_ok : ℕ
operation_ok = 0x9100

abbrev pub illegal_command_code : ℕ
illegal_command_code = 0x911C

abbrev pub integrity_error : ℕ
integrity_error = 0x911E

abbrev pub no_such_key : ℕ
no_such_key = 0x9140

abbrev pub length_error : ℕ
length_error = 0x917E

abbrev pub permission_denied : ℕ
permission_denied = 0x919D

abbrev pub parameter_error : ℕ
parameter_error = 0x919E

abbrev pub authentication_error : ℕ
authentication_error = 0x91AE

abbrev pub additional_frame : ℕ
additional_frame = 0x91AF

abbrev pub boundary_error : ℕ
boundary_error = 0x91BE

abbrev pub command_aborted : ℕ
command_aborted = 0x91CA

abbrev pub file_not_found : ℕ
file_not_found = 0x91F0

-- Table 24, of CLA 00
abbrev pub iso_normal : ℕ
iso_normal = 0x9000

abbrev pub iso_wrong_length : ℕ
iso_wrong_length = 0x6700

abbrev pub iso_security : ℕ
iso_security = 0x6982

abbrev pub iso_conditions : ℕ
iso_conditions = 0x6985

abbrev pub iso_wrong_data : ℕ
iso_wrong_data = 0x6A80

abbrev pub iso_not_found : ℕ
iso_not_found = 0x6A82

abbrev pub iso_wrong_p1_p2 : ℕ
iso_wrong_p1_p2 = 0x6A86

abbrev pub iso_wrong_lc : ℕ
iso_wrong_lc = 0x6A87

-- 6C and how much there is
abbrev pub iso_wrong_le : ℕ → ℕ
iso_wrong_le there = 0x6C00 + there

abbrev pub iso_unknown_instruction : ℕ
iso_unknown_instruction = 0x6D00

abbrev pub iso_unknown_class : ℕ
iso_unknown_class = 0x6E00
