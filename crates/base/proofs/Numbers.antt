-- Numbers low byte first: writing and reading undo each other, at every width.
use mathlib.Core.Path.{◌≡◌, refl, ap}
use mathlib.Core.List.{List, [], ◌∷◌}
use Prim.Native.Nat.{ℕ, zero, suc, ◌+◌, ◌*◌, ◌/◌, ◌%◌, ◌^◌, ◌<◌}
use native.Mathlib.Nat.{pow-suc, div-lt_iff_lt-mul}
use native.Mathlib.Omega.{arith}
use lib.ListN.{length}
use Rattle.base.specs.Bytes.{AllBytes, number, low}

pub low-length : (n v : ℕ) → length (low n v) ≡ n
unfolding low
low-length zero v = refl
low-length (suc n) v = ap suc (low-length n (v / 256))

pub low-bytes : (n v : ℕ) → AllBytes (low n v)
unfolding low AllBytes
low-bytes zero v i = omega arith
low-bytes (suc n) v zero = omega arith
low-bytes (suc n) v (suc i) = low-bytes n (v / 256) i

-- a number below 256 to the n is read back from its n bytes
pub number-low : (n v : ℕ) → v < 256 ^ n → number (low n v) ≡ v
unfolding low number
number-low zero v h = omega arith
number-low (suc n) v h =
    let k : v < 256 ^ n * 256 = rw pow-suc at h in
    rw (number-low n (v / 256) ((div-lt_iff_lt-mul (lib.Dec.lit< tt)).1 k)) (omega arith)

-- bytes are written back from the number they stand for
pub low-number : (bs : List ℕ) → AllBytes bs → low (length bs) (number bs) ≡ bs
unfolding low number AllBytes
low-number [] h = refl
low-number (b ∷ bs) h =
    let p : b < 256 = h 0 in
    let q : (b + 256 * number bs) / 256 ≡ number bs = omega arith in
    let r : (b + 256 * number bs) % 256 ≡ b = omega arith in
    rw (q, r, low-number bs (λ i. h (suc i))) refl
