-- What is printed of a command, its reply, and what was expected of it.
use Rattle.std.specs.Prelude.{true, List, [], ◌∷◌, ◌++◌, ℕ, ◌-◌, eqb, ltb, length, take}
use Rattle.base.specs.Decide.{pick}
use Rattle.base.specs.Bytes.{byte_at}
use Rattle.verdict.specs.Replies.{status_in}
use Rattle.forms.specs.Forms.{form_of}
use Rattle.telling.specs.Plain.{spaced_of, text_line}
use Rattle.telling.specs.Names.{name_of}

-- "< no reply", and the end of the line
unfoldable pub no_reply : List ℕ
no_reply = 60 ∷ 32 ∷ 110 ∷ 111 ∷ 32 ∷ 114 ∷ 101 ∷ 112 ∷ 108 ∷ 121 ∷ 10 ∷ []

-- "  ChangeFileSettings was refused: the settings are as they were.", and the end of the line
unfoldable pub refused_text : List ℕ
refused_text =
    32 ∷ 32 ∷ 67 ∷ 104 ∷ 97 ∷ 110 ∷ 103 ∷ 101 ∷ 70 ∷ 105 ∷ 108 ∷ 101 ∷ 83 ∷ 101 ∷ 116 ∷ 116 ∷ 105 ∷ 110 ∷ 103 ∷ 115 ∷ 32 ∷ 119 ∷ 97 ∷
    115 ∷ 32 ∷ 114 ∷ 101 ∷ 102 ∷ 117 ∷ 115 ∷ 101 ∷ 100 ∷ 58 ∷ 32 ∷ 116 ∷ 104 ∷ 101 ∷ 32 ∷ 115 ∷ 101 ∷ 116 ∷ 116 ∷ 105 ∷ 110 ∷ 103 ∷ 115
    ∷ 32 ∷ 97 ∷ 114 ∷ 101 ∷ 32 ∷ 97 ∷ 115 ∷ 32 ∷ 116 ∷ 104 ∷ 101 ∷ 121 ∷ 32 ∷ 119 ∷ 101 ∷ 114 ∷ 101 ∷ 46 ∷ 10 ∷ []

-- "  NOT AS EXPECTED:"
unfoldable pub other_text : List ℕ
other_text = 32 ∷ 32 ∷ 78 ∷ 79 ∷ 84 ∷ 32 ∷ 65 ∷ 83 ∷ 32 ∷ 69 ∷ 88 ∷ 80 ∷ 69 ∷ 67 ∷ 84 ∷ 69 ∷ 68 ∷ 58 ∷ []

-- of a ChangeFileSettings (90 5F) that was refused
unfoldable pub refused_of : List ℕ → ℕ → List ℕ
refused_of command status =
    pick (eqb (byte_at command 0) 0x90) (pick (eqb (byte_at command 1) 0x5F) (pick (eqb status 0x9100) [] refused_text) []) []

-- "<", the bytes, " : " and what the status means
unfoldable pub status_line : List ℕ → ℕ → List ℕ
status_line r status = (60 ∷ []) ++ spaced_of r ++ (32 ∷ 58 ∷ 32 ∷ []) ++ name_of status ++ (10 ∷ [])

-- data and two status bytes
unfoldable pub reply_text : List ℕ → List ℕ → List ℕ
reply_text command r =
    pick (ltb (length r) 2) no_reply
    (status_line r (status_in r) ++ text_line (take (length r - 2) r) ++ refused_of command (status_in r))

-- "line # >", a form: '#' is the line's number
unfoldable pub line_form : List ℕ
line_form = 108 ∷ 105 ∷ 110 ∷ 101 ∷ 32 ∷ 35 ∷ 32 ∷ 62 ∷ []

-- a command with its line's number, and the reply
unfoldable pub exchange_of : ℕ → List ℕ → List ℕ → List ℕ
exchange_of number command r = form_of true line_form (number ∷ []) (true ∷ []) ++ spaced_of command ++ (10 ∷ []) ++ reply_text command r

-- what was expected of a reply that differs
unfoldable pub unlike_of : List ℕ → List ℕ
unlike_of expected = other_text ++ spaced_of expected ++ (10 ∷ [])
