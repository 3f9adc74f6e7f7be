-- A number's bytes and a Boolean's byte, as the library's conversions give them.
use mathlib.Core.Path.{◌≡◌, refl}
use mathlib.Core.Bool.{Bool, true, false}
use mathlib.Core.List.{[], ◌∷◌}
use Prim.Native.Nat.{ℕ, ◌/◌, ◌%◌}
use native.Mathlib.Omega.{arith}
use Rattle.std.specs.Int.{from_bool, w16, w32, to_le_bytes}
use Rattle.base.specs.Bytes.{low}
use Rattle.image.specs.Image.{flag_byte}

pub little_2 : (v : ℕ) → to_le_bytes w16 v ≡ low 2 v
unfolding low
little_2 v = refl

pub little_4 : (v : ℕ) → to_le_bytes w32 v ≡ low 4 v
unfolding low
little_4 v =
    let b : v / 65536 % 256 ≡ v / 256 / 256 % 256 = omega arith in
    let c : v / 16777216 % 256 ≡ v / 256 / 256 / 256 % 256 = omega arith in
    λ i. v % 256 ∷ v / 256 % 256 ∷ b i ∷ c i ∷ []

pub flag_of : (b : Bool) (n : ℕ) → n ≡ from_bool b → n ≡ flag_byte b
flag_of true n e = e
flag_of false n e = e
