-- A text with numbers: '#' (35) is the next one in decimal, '%' (37) its last hexadecimal digit. A part '{..}' (123, 125) stands where the
-- next flag is true; '|' (124) in it begins what stands where it is false.
use Rattle.std.specs.Prelude.{Bool, true, false, not, List, [], ◌∷◌, ◌++◌, ℕ, zero, suc, ◌+◌, ◌/◌, ◌%◌, eqb, leb, get_or, drop}
use Rattle.base.specs.Decide.{pick, and, or}
use Rattle.lines.specs.Hex.{char_of}

-- the digits of what is left of a number, before those that are there; at most f more
unfoldable pub digits_before : ℕ → ℕ → List ℕ → List ℕ
digits_before zero n ds = ds
digits_before (suc f) n ds = pick (eqb n 0) ds (digits_before f (n / 10) ((48 + n % 10) ∷ ds))

-- a number in decimal; 20 digits hold one below 2 ^ 64
unfoldable pub decimal_of : ℕ → List ℕ
decimal_of n = digits_before 19 (n / 10) ((48 + n % 10) ∷ [])

-- what a character stands for, with the next number
unfoldable pub shown_as : ℕ → ℕ → List ℕ
shown_as c n =
    pick (eqb c 35) (decimal_of n)
    (pick (eqb c 37) (char_of (n % 16) ∷ [])
    (pick (and (leb 123 c) (leb c 125)) [] (c ∷ [])))

-- nothing where its part does not stand
unfoldable pub piece_of : Bool → ℕ → ℕ → List ℕ
piece_of on c n = pick on (shown_as c n) []

-- how many numbers and flags it takes
unfoldable pub numbers_of : ℕ → ℕ
numbers_of c = pick (or (eqb c 35) (eqb c 37)) 1 0

unfoldable pub flags_of : ℕ → ℕ
flags_of c = pick (eqb c 123) 1 0

-- whether what follows it stands
unfoldable pub standing : Bool → ℕ → Bool → Bool
standing on c flag = pick (eqb c 123) flag (pick (eqb c 124) (not on) (pick (eqb c 125) true on))

-- a form with its numbers and flags
unfoldable pub form_of : Bool → List ℕ → List ℕ → List Bool → List ℕ
form_of on [] numbers flags = []
form_of on (c ∷ form) numbers flags =
    piece_of on c (get_or numbers 0 0)
    ++ form_of (standing on c (get_or flags 0 false)) form (drop (numbers_of c) numbers) (drop (flags_of c) flags)
