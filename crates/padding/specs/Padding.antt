-- 9.1.4: padding method 2 of ISO/IEC 9797-1, and its opposite.
use Rattle.std.specs.Prelude.{Bool, false, Option, Some, None, List, ◌∷◌, ◌++◌, ◌≡◌, ℕ, zero, suc, ◌+◌, ◌-◌, ◌*◌, ◌/◌, ◌%◌, eqb, leb, length, take, replicate}
use Rattle.base.specs.Decide.{pick, and, or}
use Rattle.base.specs.Bytes.{byte_at, same, over}
use Rattle.base.specs.Status.{operation_ok, integrity_error}

-- 80 and zeros behind a text, always, up to the next multiple of 16: 1 to 16 bytes
unfoldable pub padded : List ℕ → List ℕ
padded x = x ++ 128 ∷ replicate (15 - length x % 16) 0

-- how long a text of n bytes is with its padding
unfoldable pub padded_length : ℕ → ℕ
padded_length n = n / 16 * 16 + 16

-- a multiple of 16, at least 16
unfoldable pub blocks : ℕ → Bool
blocks n = and (eqb (n % 16) 0) (leb 16 n)

-- the 80 that only zeros follow, looked for from the n-th byte back, in at most k bytes: it ends the text
unfoldable pub mark : ℕ → List ℕ → ℕ → Option ℕ
mark zero s n = None
mark (suc k) s n = pick (eqb (byte_at s (n - 1)) 128) (Some (n - 1)) (pick (eqb (byte_at s (n - 1)) 0) (mark k s (n - 1)) None)

-- what a padded text was: its first bytes, or wrong padding
unfoldable pub unpad : List ℕ → Option ℕ
unpad s = pick (blocks (length s)) (mark 16 s (length s)) None

-- s is a front of its own of fewer than n bytes, with its padding
unfoldable pub padded_below : ℕ → List ℕ → Bool
padded_below zero s = false
padded_below (suc n) s = or (same (padded (take n s)) s) (padded_below n s)

-- s is a text with its padding; any other is wrong padding
unfoldable pub is_padded : List ℕ → Bool
is_padded s = padded_below (length s) s

-- 01's status for each answer: wrong padding is 911E
unfoldable pub unpadded_status : Option ℕ → ℕ
unpadded_status (Some n) = operation_ok
unpadded_status None = integrity_error

-- the text that stands at the front of a room, padded there; a room that is too small stays as it is
unfoldable pub padding : List ℕ → ℕ → Option ℕ
padding old n = pick (leb (padded_length n) (length old)) (Some (padded_length n)) None

unfoldable pub padded_in : List ℕ → ℕ → List ℕ
padded_in old n = pick (leb (padded_length n) (length old)) (over (padded (take n old)) old) old

-- (house) the number of each answer; 01 has none
unfoldable pub padded_number : Option ℕ → ℕ
padded_number (Some n) = 0
padded_number None = 1

pub record Pads (n : ℕ) (old : List ℕ) (r : Option ℕ) (new : List ℕ) : Type 0 where
  pub told : r ≡ padding old n
  pub left : new ≡ padded_in old n
  pub number : padded_number r ≡ pick (leb (padded_length n) (length old)) 0 1
