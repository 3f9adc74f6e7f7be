-- Whether a file is locked, and the line that says it. The form is one of `forms`: '#' a number, '{..|..}' by a flag; \n (10) ends a line.
use Rattle.std.specs.Prelude.{Bool, true, List, [], ◌∷◌, ℕ, eqb, leb}
use Rattle.base.specs.Decide.{and}
use Rattle.fields.specs.declared.Head.{Head}
use Rattle.forms.specs.Forms.{form_of}

-- 02, request 13: Write, ReadWrite and Change of a file are F
unfoldable pub locked : Head → Bool
locked h = and (eqb h.write 15) (and (eqb h.read_write 15) (eqb h.change 15))

-- a condition below F: E, or the number of a key
unfoldable pub is_open : ℕ → Bool
is_open c = leb c 14

-- E, free access
unfoldable pub is_free : ℕ → Bool
is_free c = eqb c 14

unfoldable pub is_key : ℕ → Bool
is_key c = leb c 13

-- "  file #: {locked, its bytes and settings can't change any more|not locked}{, Write is open to }{all}{key #}{, ReadWrite is open to }{all}{key #}{, Change is open to }{all}{key #}\n"
unfoldable pub lock_form : List ℕ
lock_form =
    32 ∷ 32 ∷ 102 ∷ 105 ∷ 108 ∷ 101 ∷ 32 ∷ 35 ∷ 58 ∷ 32 ∷ 123 ∷ 108 ∷ 111 ∷ 99 ∷ 107 ∷ 101 ∷ 100 ∷ 44 ∷ 32 ∷ 105 ∷ 116 ∷ 115 ∷ 32 ∷ 98 ∷ 121 ∷
    116 ∷ 101 ∷ 115 ∷ 32 ∷ 97 ∷ 110 ∷ 100 ∷ 32 ∷ 115 ∷ 101 ∷ 116 ∷ 116 ∷ 105 ∷ 110 ∷ 103 ∷ 115 ∷ 32 ∷ 99 ∷ 97 ∷ 110 ∷ 39 ∷ 116 ∷ 32 ∷ 99 ∷ 104 ∷
    97 ∷ 110 ∷ 103 ∷ 101 ∷ 32 ∷ 97 ∷ 110 ∷ 121 ∷ 32 ∷ 109 ∷ 111 ∷ 114 ∷ 101 ∷ 124 ∷ 110 ∷ 111 ∷ 116 ∷ 32 ∷ 108 ∷ 111 ∷ 99 ∷ 107 ∷ 101 ∷ 100 ∷
    125 ∷ 123 ∷ 44 ∷ 32 ∷ 87 ∷ 114 ∷ 105 ∷ 116 ∷ 101 ∷ 32 ∷ 105 ∷ 115 ∷ 32 ∷ 111 ∷ 112 ∷ 101 ∷ 110 ∷ 32 ∷ 116 ∷ 111 ∷ 32 ∷ 125 ∷ 123 ∷ 97 ∷ 108
    ∷ 108 ∷ 125 ∷ 123 ∷ 107 ∷ 101 ∷ 121 ∷ 32 ∷ 35 ∷ 125 ∷ 123 ∷ 44 ∷ 32 ∷ 82 ∷ 101 ∷ 97 ∷ 100 ∷ 87 ∷ 114 ∷ 105 ∷ 116 ∷ 101 ∷ 32 ∷ 105 ∷ 115 ∷ 32
    ∷ 111 ∷ 112 ∷ 101 ∷ 110 ∷ 32 ∷ 116 ∷ 111 ∷ 32 ∷ 125 ∷ 123 ∷ 97 ∷ 108 ∷ 108 ∷ 125 ∷ 123 ∷ 107 ∷ 101 ∷ 121 ∷ 32 ∷ 35 ∷ 125 ∷ 123 ∷ 44 ∷ 32 ∷
    67 ∷ 104 ∷ 97 ∷ 110 ∷ 103 ∷ 101 ∷ 32 ∷ 105 ∷ 115 ∷ 32 ∷ 111 ∷ 112 ∷ 101 ∷ 110 ∷ 32 ∷ 116 ∷ 111 ∷ 32 ∷ 125 ∷ 123 ∷ 97 ∷ 108 ∷ 108 ∷ 125 ∷ 123
    ∷ 107 ∷ 101 ∷ 121 ∷ 32 ∷ 35 ∷ 125 ∷ 10 ∷ []

-- the line of a file: locked, or each of the three rights that is still open, and to what
unfoldable pub lock_of : ℕ → Head → List ℕ
lock_of number h =
    form_of true lock_form (number ∷ h.write ∷ h.read_write ∷ h.change ∷ [])
    (locked h
    ∷ is_open h.write ∷ is_free h.write ∷ is_key h.write
    ∷ is_open h.read_write ∷ is_free h.read_write ∷ is_key h.read_write
    ∷ is_open h.change ∷ is_free h.change ∷ is_key h.change ∷ [])
