-- What a tag is, as text. The forms are those of `forms`: '#' a number, '%' a hexadecimal digit, '{..|..}' by a flag; \n (10) ends a line.
use Rattle.std.specs.Prelude.{true, List, [], ◌∷◌, ◌++◌, ℕ, eqb}
use Rattle.base.specs.Decide.{pick, and}
use Rattle.fields.specs.declared.Head.{Head}
use Rattle.spans.specs.declared.Reading.{Reading}
use Rattle.state.specs.declared.Files.{Files}
use Rattle.state.specs.declared.Live.{Live}
use Rattle.state.specs.declared.Pending.{Pending}
use Rattle.state.specs.declared.Place.{Place}
use Rattle.state.specs.declared.Tag.{Tag}
use Rattle.state.specs.State.{reading_in}
use Rattle.lines.specs.Hex.{chars_of}
use Rattle.forms.specs.Forms.{form_of}

-- "The tag now:\n  UID: "
unfoldable pub first_text : List ℕ
first_text = 84 ∷ 104 ∷ 101 ∷ 32 ∷ 116 ∷ 97 ∷ 103 ∷ 32 ∷ 110 ∷ 111 ∷ 119 ∷ 58 ∷ 10 ∷ 32 ∷ 32 ∷ 85 ∷ 73 ∷ 68 ∷ 58 ∷ 32 ∷ []

-- the first line, and the UID in hexadecimal
unfoldable pub uid_of : List ℕ → List ℕ
uid_of u = first_text ++ chars_of u

-- "\n  level: {application|PICC}\n  selected file: {none|#}\n  session: {key #, CmdCtr #|none}{, part two pending for key #}\n  tap counter: #\n"
unfoldable pub talk_form : List ℕ
talk_form =
    10 ∷ 32 ∷ 32 ∷ 108 ∷ 101 ∷ 118 ∷ 101 ∷ 108 ∷ 58 ∷ 32 ∷ 123 ∷ 97 ∷ 112 ∷ 112 ∷ 108 ∷ 105 ∷ 99 ∷ 97 ∷ 116 ∷ 105 ∷ 111 ∷ 110 ∷ 124 ∷ 80 ∷
    73 ∷ 67 ∷ 67 ∷ 125 ∷ 10 ∷ 32 ∷ 32 ∷ 115 ∷ 101 ∷ 108 ∷ 101 ∷ 99 ∷ 116 ∷ 101 ∷ 100 ∷ 32 ∷ 102 ∷ 105 ∷ 108 ∷ 101 ∷ 58 ∷ 32 ∷ 123 ∷ 110 ∷
    111 ∷ 110 ∷ 101 ∷ 124 ∷ 35 ∷ 125 ∷ 10 ∷ 32 ∷ 32 ∷ 115 ∷ 101 ∷ 115 ∷ 115 ∷ 105 ∷ 111 ∷ 110 ∷ 58 ∷ 32 ∷ 123 ∷ 107 ∷ 101 ∷ 121 ∷ 32 ∷ 35
    ∷ 44 ∷ 32 ∷ 67 ∷ 109 ∷ 100 ∷ 67 ∷ 116 ∷ 114 ∷ 32 ∷ 35 ∷ 124 ∷ 110 ∷ 111 ∷ 110 ∷ 101 ∷ 125 ∷ 123 ∷ 44 ∷ 32 ∷ 112 ∷ 97 ∷ 114 ∷ 116 ∷ 32
    ∷ 116 ∷ 119 ∷ 111 ∷ 32 ∷ 112 ∷ 101 ∷ 110 ∷ 100 ∷ 105 ∷ 110 ∷ 103 ∷ 32 ∷ 102 ∷ 111 ∷ 114 ∷ 32 ∷ 107 ∷ 101 ∷ 121 ∷ 32 ∷ 35 ∷ 125 ∷ 10 ∷
    32 ∷ 32 ∷ 116 ∷ 97 ∷ 112 ∷ 32 ∷ 99 ∷ 111 ∷ 117 ∷ 110 ∷ 116 ∷ 101 ∷ 114 ∷ 58 ∷ 32 ∷ 35 ∷ 10 ∷ []

-- the selection, the session, a part two that is pending, and the tap counter
unfoldable pub talk_of : Place → Live → Pending → ℕ → List ℕ
talk_of s l p counter =
    form_of true talk_form (s.file ∷ l.key ∷ l.counter ∷ p.key ∷ counter ∷ []) (s.application ∷ eqb s.file 0 ∷ l.on ∷ p.on ∷ [])

-- "  file #: {Plain}{MAC}{Full}, Read %, Write %, ReadWrite %, Change %"
unfoldable pub rights_form : List ℕ
rights_form =
    32 ∷ 32 ∷ 102 ∷ 105 ∷ 108 ∷ 101 ∷ 32 ∷ 35 ∷ 58 ∷ 32 ∷ 123 ∷ 80 ∷ 108 ∷ 97 ∷ 105 ∷ 110 ∷ 125 ∷ 123 ∷ 77 ∷ 65 ∷ 67 ∷ 125 ∷ 123 ∷ 70 ∷
    117 ∷ 108 ∷ 108 ∷ 125 ∷ 44 ∷ 32 ∷ 82 ∷ 101 ∷ 97 ∷ 100 ∷ 32 ∷ 37 ∷ 44 ∷ 32 ∷ 87 ∷ 114 ∷ 105 ∷ 116 ∷ 101 ∷ 32 ∷ 37 ∷ 44 ∷ 32 ∷ 82 ∷ 101
    ∷ 97 ∷ 100 ∷ 87 ∷ 114 ∷ 105 ∷ 116 ∷ 101 ∷ 32 ∷ 37 ∷ 44 ∷ 32 ∷ 67 ∷ 104 ∷ 97 ∷ 110 ∷ 103 ∷ 101 ∷ 32 ∷ 37 ∷ []

-- the number of a file, its CommMode (0 Plain, 1 MAC, 3 Full) and its four conditions
unfoldable pub rights_of : ℕ → Head → List ℕ
rights_of number h =
    form_of true rights_form (number ∷ h.read ∷ h.write ∷ h.read_write ∷ h.change ∷ []) (eqb h.mode 0 ∷ eqb h.mode 1 ∷ eqb h.mode 3 ∷ [])

-- "\n          SDM on, MetaRead %, FileRead %, CtrRet %{, UID at #}{, counter at #}{, PICCData at #}{ (UID)}{ (counter)}{, ENC at #}{, MAC input at #}{, MAC at #}{, limit at #}"
unfoldable pub sdm_form : List ℕ
sdm_form =
    10 ∷ 32 ∷ 32 ∷ 32 ∷ 32 ∷ 32 ∷ 32 ∷ 32 ∷ 32 ∷ 32 ∷ 32 ∷ 83 ∷ 68 ∷ 77 ∷ 32 ∷ 111 ∷ 110 ∷ 44 ∷ 32 ∷ 77 ∷ 101 ∷ 116 ∷ 97 ∷ 82 ∷ 101 ∷ 97 ∷
    100 ∷ 32 ∷ 37 ∷ 44 ∷ 32 ∷ 70 ∷ 105 ∷ 108 ∷ 101 ∷ 82 ∷ 101 ∷ 97 ∷ 100 ∷ 32 ∷ 37 ∷ 44 ∷ 32 ∷ 67 ∷ 116 ∷ 114 ∷ 82 ∷ 101 ∷ 116 ∷ 32 ∷ 37 ∷
    123 ∷ 44 ∷ 32 ∷ 85 ∷ 73 ∷ 68 ∷ 32 ∷ 97 ∷ 116 ∷ 32 ∷ 35 ∷ 125 ∷ 123 ∷ 44 ∷ 32 ∷ 99 ∷ 111 ∷ 117 ∷ 110 ∷ 116 ∷ 101 ∷ 114 ∷ 32 ∷ 97 ∷ 116
    ∷ 32 ∷ 35 ∷ 125 ∷ 123 ∷ 44 ∷ 32 ∷ 80 ∷ 73 ∷ 67 ∷ 67 ∷ 68 ∷ 97 ∷ 116 ∷ 97 ∷ 32 ∷ 97 ∷ 116 ∷ 32 ∷ 35 ∷ 125 ∷ 123 ∷ 32 ∷ 40 ∷ 85 ∷ 73 ∷
    68 ∷ 41 ∷ 125 ∷ 123 ∷ 32 ∷ 40 ∷ 99 ∷ 111 ∷ 117 ∷ 110 ∷ 116 ∷ 101 ∷ 114 ∷ 41 ∷ 125 ∷ 123 ∷ 44 ∷ 32 ∷ 69 ∷ 78 ∷ 67 ∷ 32 ∷ 97 ∷ 116 ∷ 32
    ∷ 35 ∷ 125 ∷ 123 ∷ 44 ∷ 32 ∷ 77 ∷ 65 ∷ 67 ∷ 32 ∷ 105 ∷ 110 ∷ 112 ∷ 117 ∷ 116 ∷ 32 ∷ 97 ∷ 116 ∷ 32 ∷ 35 ∷ 125 ∷ 123 ∷ 44 ∷ 32 ∷ 77 ∷ 65
    ∷ 67 ∷ 32 ∷ 97 ∷ 116 ∷ 32 ∷ 35 ∷ 125 ∷ 123 ∷ 44 ∷ 32 ∷ 108 ∷ 105 ∷ 109 ∷ 105 ∷ 116 ∷ 32 ∷ 97 ∷ 116 ∷ 32 ∷ 35 ∷ 125 ∷ []

-- what SDM adds to a file: its three conditions, where the mirrors stand, what PICCData holds, and the limit
unfoldable pub mirrors_of : Reading → List ℕ
mirrors_of r =
    form_of true sdm_form
    (r.settings.head.sdm_meta_read ∷ r.settings.head.sdm_file_read ∷ r.settings.head.sdm_ctr_ret ∷ r.uid.start ∷ r.counter.start ∷ r.picc.start
    ∷ r.enc.start ∷ r.settings.places.input ∷ r.mac.start ∷ r.settings.places.limit ∷ [])
    (r.uid.present ∷ r.counter.present ∷ r.picc.present ∷ and r.picc.present r.settings.head.uid
    ∷ and r.picc.present r.settings.head.counter ∷ r.enc.present ∷ r.mac.present ∷ r.mac.present
    ∷ r.settings.head.limit ∷ [])

-- a file by its number and by what its settings mean
unfoldable pub file_of : ℕ → Reading → List ℕ
file_of number r = rights_of number r.settings.head ++ pick r.settings.head.sdm (mirrors_of r) [] ++ (10 ∷ [])

unfoldable pub files_of : Files → List ℕ
files_of f = file_of 1 (reading_in f 1) ++ file_of 2 (reading_in f 2) ++ file_of 3 (reading_in f 3)

unfoldable pub summary_of : Tag → List ℕ
summary_of tag = uid_of tag.uid ++ talk_of tag.place tag.live tag.pending tag.tap.counter ++ files_of tag.files
