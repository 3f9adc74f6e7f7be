-- What holds of each number of a list holds of one of them.
use mathlib.Core.Path.{sym, subst}
use mathlib.Core.List.{List, [], ◌∷◌}
use mathlib.Core.Logic.{inl, inr}
use Prim.Native.Nat.{ℕ}
use types.Run.{OneOf}

abbrev pub All : (ℕ → Type 0) → List ℕ → Type 0
All P [] = Unit {0}
All P (k ∷ ks) = P k × All P ks

pub each : (P : ℕ → Type 0) (ks : List ℕ) (x : ℕ) → OneOf ks x → All P ks → P x
each P [] x h a = absurd h
each P (k ∷ []) x h a = subst P (sym h) a.0
each P (k ∷ k' ∷ ks) x (inl e) a = subst P (sym e) a.0
each P (k ∷ k' ∷ ks) x (inr r) a = each P (k' ∷ ks) x r a.1
