-- A descriptor that is not negative, as a number.
use mathlib.Core.Path.{◌≡◌}
use mathlib.Core.Bool.{false}
use Prim.Native.Nat.{ℕ}
use native.Mathlib.Omega.{arith}
use lib.Dec.{T}
use lib.IntN.{ℤ, pos, negsuc, nat_abs}
use lib.Signed.{lt_z, non_neg}
use mir.Facts.{to_z-of_z}
use mir.Syntax.{w32, w64}
use mir.Val.{Fits, SFits, to_z, of_z}

by_sign : (z : ℤ) → SFits w32 z → lt_z z (pos 0) ≡ false → T (non_neg z) × Fits w64 (nat_abs z)
by_sign (pos n) f h = (tt, record { fits = omega (arith, f.sfits) })
by_sign (negsuc n) f h = let e : ◌≡◌ {A = ℕ} 0 1 = cc in (omega arith, record { fits = omega arith })

pub descriptor_fits : (z : ℤ) → SFits w32 z → lt_z (to_z w32 (of_z w32 z)) (pos 0) ≡ false
    → T (non_neg (to_z w32 (of_z w32 z))) × Fits w64 (nat_abs (to_z w32 (of_z w32 z)))
descriptor_fits z f h = rw (to_z-of_z f) (by_sign z f (rw (to_z-of_z f) at h))
