-- 01, "Select" (10.9.1).
use Rattle.std.specs.Prelude.{Bool, true, false, List, [], ◌∷◌, ℕ, ◌+◌, ◌*◌, eqb, leb, length}
use Rattle.base.specs.Decide.{pick, or}
use Rattle.base.specs.Bytes.{byte_at, same}
use Rattle.base.specs.Status.{iso_normal, iso_wrong_data, iso_not_found, iso_wrong_p1_p2}
use Rattle.state.specs.declared.Tag.{Tag}
use Rattle.state.specs.State.{quieted, tapped, placed, ended_of}
use Rattle.replies.specs.Answer.{Answer, given, refusal}

-- Selecting PICC or application ends session and file selection
unfoldable pub moved : Tag → Bool → Answer
moved t application = given (placed (ended_of t) (record { application = application; file = 0 })) iso_normal []

-- a file keeps the session, and needs the application
unfoldable pub selected_file : Tag → ℕ → Answer
selected_file t n =
    pick t.place.application
    (given (placed (tapped t (quieted t.tap)) (record { application = true; file = n })) iso_normal [])
    (refusal t iso_not_found)

-- 3F00 (or nothing), E110, or E103 to E105; an id not 0 or 2 bytes 6A80; unknown 6A82
unfoldable pub of_id : Tag → ℕ → Answer
of_id t id =
    pick (eqb id 0x3F00) (moved t false)
    (pick (eqb id 0xE110) (moved t true)
    (pick (eqb id 0xE103) (selected_file t 1)
    (pick (eqb id 0xE104) (selected_file t 2) (pick (eqb id 0xE105) (selected_file t 3) (refusal t iso_not_found)))))

unfoldable pub by_id : Tag → List ℕ → Answer
by_id t d =
    pick (eqb (length d) 0) (moved t false)
    (pick (eqb (length d) 2) (of_id t (byte_at d 0 * 256 + byte_at d 1)) (refusal t iso_wrong_data))

-- D2760000850100 is the PICC, D2760000850101 the application; any other name 6A82
abbrev pub picc_name : List ℕ
picc_name = 0xD2 ∷ 0x76 ∷ 0x00 ∷ 0x00 ∷ 0x85 ∷ 0x01 ∷ 0x00 ∷ []

abbrev pub application_name : List ℕ
application_name = 0xD2 ∷ 0x76 ∷ 0x00 ∷ 0x00 ∷ 0x85 ∷ 0x01 ∷ 0x01 ∷ []

unfoldable pub by_name : Tag → List ℕ → Answer
by_name t d = pick (same d picc_name) (moved t false) (pick (same d application_name) (moved t true) (refusal t iso_not_found))

-- P2 00 or 0C; P1 00, 01, 02 by id, 04 by name; other P1 or P2 6A86
unfoldable pub selected : Tag → ℕ → ℕ → List ℕ → Answer
selected t p1 p2 d =
    pick (or (eqb p2 0) (eqb p2 0x0C))
    (pick (leb p1 2) (by_id t d) (pick (eqb p1 4) (by_name t d) (refusal t iso_wrong_p1_p2)))
    (refusal t iso_wrong_p1_p2)
