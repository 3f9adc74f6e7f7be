-- Bytes are numbers, a slice is a list of them. What is read, compared and laid, for every floor.
use Rattle.std.specs.Prelude.{Bool, true, false, List, [], ◌∷◌, ◌++◌, ℕ, zero, suc, ◌+◌, ◌*◌, ◌/◌, ◌%◌, ◌<◌, eqb, leb, length, get_or, take, drop}
use Rattle.base.specs.Decide.{pick, and}

-- the byte at an index, and 0 past the end
abbrev pub byte_at : List ℕ → ℕ → ℕ
byte_at s i = get_or s i 0

-- every number of the list is a byte
unfoldable pub AllBytes : List ℕ → Type 0
AllBytes s = (i : ℕ) → byte_at s i < 256

-- two lists hold the same numbers
unfoldable pub same : List ℕ → List ℕ → Bool
same [] [] = true
same [] (y ∷ ys) = false
same (x ∷ xs) [] = false
same (x ∷ xs) (y ∷ ys) = and (eqb x y) (same xs ys)

-- s laid over d from index i on; where it does not fit, d as it was
unfoldable pub laid : List ℕ → ℕ → List ℕ → List ℕ
laid s i d = pick (leb (i + length s) (length d)) (take i d ++ s ++ drop (i + length s) d) d

-- the first n values of f, in order
abbrev pub tab : {A : Type 0} → ℕ → (ℕ → A) → List A
tab zero f = []
tab (suc n) f = f 0 ∷ tab n (λ i. f (suc i))

-- the number that bytes stand for, low byte first
unfoldable pub number : List ℕ → ℕ
number [] = 0
number (b ∷ bs) = b + 256 * number bs

-- the n low bytes of a number, low byte first
unfoldable pub low : ℕ → ℕ → List ℕ
low zero v = []
low (suc n) v = v % 256 ∷ low n (v / 256)

-- what was written at the front of a room, over what stood there
abbrev pub over : List ℕ → List ℕ → List ℕ
over reply old = reply ++ drop (length reply) old
