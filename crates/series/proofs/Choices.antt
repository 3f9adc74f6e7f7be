-- Choices, and what a status of 0 says of the tests in front of it.
use mathlib.Core.Path.{◌≡◌, refl, ap}
use mathlib.Core.Bool.{Bool, true, false, not}
use Prim.Native.Nat.{ℕ}
use native.Mathlib.Omega.{arith}
use Rattle.base.specs.Decide.{pick, and, or}

pub not_both : false ≡ true → ⊥
not_both p = let z : ◌≡◌ {A = ℕ} 0 1 = ap (λ (t : Bool). pick t 1 0) p in omega arith

-- what holds of both alternatives, each under its test, holds of the choice
pub way : {A : Type 0} (P : A → Type 0) (b : Bool) {x y : A} → (b ≡ true → P x) → (b ≡ false → P y) → P (pick b x y)
way P true f g = f refl
way P false f g = g refl

pub both_true : {a b : Bool} → a ≡ true → b ≡ true → and a b ≡ true
both_true e f = rw (e, f) refl

pub or_left : {a : Bool} (b : Bool) → a ≡ true → or a b ≡ true
or_left b e = rw e refl

pub or_right : (a : Bool) {b : Bool} → b ≡ true → or a b ≡ true
or_right true e = refl
or_right false e = e

pub not_true : (a : Bool) → not a ≡ true → a ≡ false
not_true true e = absurd (not_both e)
not_true false e = refl

pub not_false : {a : Bool} → a ≡ false → not a ≡ true
not_false e = rw e refl
