-- Bytes in hexadecimal, and as text.
use Rattle.std.specs.Prelude.{Bool, count_by, List, [], ◌∷◌, ◌++◌, ℕ, zero, suc, ◌-◌, ◌/◌, ◌%◌, eqb, leb, ltb, length, take}
use Rattle.base.specs.Decide.{pick, and}
use Rattle.base.specs.Bytes.{byte_at}
use Rattle.lines.specs.Hex.{char_of}

-- a space before each byte
unfoldable pub spaced_of : List ℕ → List ℕ
spaced_of [] = []
spaced_of (b ∷ bs) = (32 ∷ char_of (b / 16 % 16) ∷ char_of (b % 16) ∷ []) ++ spaced_of bs

unfoldable pub is_printable : ℕ → Bool
is_printable c = and (leb 32 c) (leb c 126)

unfoldable pub printables_in : List ℕ → ℕ
printables_in s = count_by is_printable s

-- a dot (46) for a byte that is no printable character
unfoldable pub dotted_of : ℕ → ℕ
dotted_of c = pick (is_printable c) c 46

unfoldable pub dotted : List ℕ → List ℕ
dotted [] = []
dotted (c ∷ cs) = (dotted_of c ∷ []) ++ dotted cs

-- of the first n bytes, how many there are before the zeros at the end
unfoldable pub before_zeros : ℕ → List ℕ → ℕ
before_zeros zero s = 0
before_zeros (suc n) s = pick (eqb (byte_at s n) 0) (before_zeros n s) (suc n)

-- "  text: "
abbrev pub text_head : List ℕ
text_head = 32 ∷ 32 ∷ 116 ∷ 101 ∷ 120 ∷ 116 ∷ 58 ∷ 32 ∷ []

-- a line with bytes as text, where three quarters of them are printable
unfoldable pub plain_text : List ℕ → List ℕ
plain_text s = pick (ltb (printables_in s) (length s - length s / 4)) [] (text_head ++ dotted s ++ (10 ∷ []))

-- the same without zeros at the end, where any byte is left
unfoldable pub text_line : List ℕ → List ℕ
text_line s =
    pick (eqb (before_zeros (length s) s) 0) []
    (plain_text (take (before_zeros (length s) s) s))
