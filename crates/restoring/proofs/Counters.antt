-- A number from its bytes, as the library reads it.
use mathlib.Core.Path.{◌≡◌}
use mathlib.Core.List.{List, [], ◌∷◌}
use Prim.Native.Nat.{ℕ, ◌+◌, ◌≤◌}
use native.Mathlib.Omega.{arith}
use lib.ListN.{length}
use Rattle.std.specs.Int.{w16, w32, from_le_bytes}
use Rattle.base.specs.Bytes.{number}
use Rattle.image.specs.Image.{bytes_from}
use Rattle.image.proofs.Pieces.{bytes-from-length}

of_two : (bs : List ℕ) → length bs ≡ 2 → from_le_bytes w16 bs ≡ number bs
unfolding number
of_two [] h = absurd (omega arith)
of_two (a ∷ []) h = absurd (omega arith)
of_two (a ∷ b ∷ []) h = omega arith
of_two (a ∷ b ∷ c ∷ bs) h = absurd (omega arith)

of_four : (bs : List ℕ) → length bs ≡ 4 → from_le_bytes w32 bs ≡ number bs
unfolding number
of_four [] h = absurd (omega arith)
of_four (a ∷ []) h = absurd (omega arith)
of_four (a ∷ b ∷ []) h = absurd (omega arith)
of_four (a ∷ b ∷ c ∷ []) h = absurd (omega arith)
of_four (a ∷ b ∷ c ∷ d ∷ []) h = omega arith
of_four (a ∷ b ∷ c ∷ d ∷ e ∷ bs) h = absurd (omega arith)

pub two : (s : List ℕ) (i : ℕ) → i + 2 ≤ length s → from_le_bytes w16 (bytes_from s i 2) ≡ number (bytes_from s i 2)
two s i h = of_two (bytes_from s i 2) (bytes-from-length s i 2 h)

pub four : (s : List ℕ) (i : ℕ) → i + 4 ≤ length s → from_le_bytes w32 (bytes_from s i 4) ≡ number (bytes_from s i 4)
four s i h = of_four (bytes_from s i 4) (bytes-from-length s i 4 h)
