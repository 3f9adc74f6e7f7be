-- The answer on the number of a file that there is.
use mathlib.Core.Path.{◌≡◌, refl}
use Prim.Native.Nat.{ℕ, ◌≤◌}
use native.Mathlib.Omega.{arith}
use borrow.Author.Tests.{ne_eqb, le-ltb}
use Rattle.settings.specs.declared.FileFault.{FileFault}
use Rattle.settings.specs.Filing.{by_fault}

-- files 1 to 3
pub one_to_three : {A : Type 0} (n : ℕ) (f : FileFault → A) (x : A) → 1 ≤ n → n ≤ 3 → by_fault n f x ≡ x
one_to_three n f x h k = rw (le-ltb 31 n (omega arith), ne_eqb n 0 (λ e. omega arith), le-ltb 3 n k) refl
