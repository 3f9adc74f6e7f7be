-- The command of a class and an INS has that class and that INS.
use mathlib.Core.Path.{◌≡◌, refl, sym, subst}
use mathlib.Core.Bool.{Bool, true, false}
use mathlib.Core.List.{List, [], ◌∷◌}
use Rattle.std.specs.Prelude.{Option, Some, None}
use mathlib.Core.Logic.{◌⊎◌, inl, inr, ⊎_elim}
use Prim.Native.Nat.{ℕ}
use native.Mathlib.Omega.{arith}
use borrow.Author.Tests.{eqb-true}
use lib.Dec.{eqb}
use Rattle.base.specs.Decide.{pick, and}
use Rattle.base.proofs.Bytes.{and_left, and_right}
use Rattle.order.specs.declared.Name.{Name}
use Rattle.order.specs.Names.{class_of, ins_of, fourteen, among, named}

unknown_not : (n : Name) → None ≡ Some n → ⊥
unknown_not n e = let z : ◌≡◌ {A = ℕ} 0 1 = cc in omega arith

-- the first of a list, or one behind it
first_or : (t : Bool) (m n : Name) (rest : Option Name) → pick t (Some m) rest ≡ Some n → ((t ≡ true) × (m ≡ n)) ⊎ (rest ≡ Some n)
first_or true m n rest e = inl (refl, (cc))
first_or false m n rest e = inr e

abbrev Has : ℕ → ℕ → Name → Type 0
Has class ins n = (class_of n ≡ class) × (ins_of n ≡ ins)

among_has : (class ins : ℕ) (ns : List Name) (n : Name) → among class ins ns ≡ Some n → Has class ins n
unfolding among
among_has class ins [] n e = absurd (unknown_not n e)
among_has class ins (m ∷ ns) n e =
    let c = eqb (class_of m) class in
    let i = eqb ins (ins_of m) in
    ⊎_elim
    (λ p. subst (Has class ins) p.1 (eqb-true (class_of m) class (and_left c i p.0), sym (eqb-true ins (ins_of m) (and_right c i p.0))))
    (λ r. among_has class ins ns n r)
    (first_or (and c i) m n (among class ins ns) e)

pub named_class : (class ins : ℕ) (n : Name) → named class ins ≡ Some n → class_of n ≡ class
unfolding named
named_class class ins n e = (among_has class ins fourteen n e).0

pub named_ins : (class ins : ℕ) (n : Name) → named class ins ≡ Some n → ins_of n ≡ ins
unfolding named
named_ins class ins n e = (among_has class ins fourteen n e).1
