-- The check of part two, case by case.
use mathlib.Core.Bool.{true, false}
use mathlib.Core.Path.{◌≡◌, refl, ap, ◌∙◌}
use mathlib.Core.List.{List}
use Prim.Native.Nat.{ℕ, ◌-◌}
use native.Mathlib.Omega.{arith}
use lib.ListN.{length, take, drop, length-drop}
use lib.Seq.{take_all}
use borrow.Author.Tests.{eq-eqb}
use Rattle.std.specs.Prelude.{Ok, Err}
use Rattle.base.specs.Decide.{pick}
use Rattle.cbc.specs.Cbc.{cbc_cost}
use Rattle.base.specs.Bytes.{same}
use Rattle.authentication.specs.Authentication.{deciphered, turned, proof_of, proof_cost, part_two}
use Rattle.authentication.specs.declared.Wrong.TheVariants.{WrongRndB}

module _ (kx b x d t : List ℕ) (n : ℕ) (l : length x ≡ 32) (m : length d ≡ 32) (p : d ≡ deciphered kx x) (k : n ≡ cbc_cost 32) (q : t ≡ turned b) where
  proof_is : proof_of kx b x ≡ pick (same (take (length d - 16) (drop 16 d)) t) (Ok (take 16 d)) (Err WrongRndB)
  unfolding proof_of
  proof_is =
      let f : take (length d - 16) (drop 16 d) ≡ drop 16 (deciphered kx x) = take_all (length d - 16) (drop 16 d) (simp length-drop (omega arith)) ∙ ap (drop 16) p in
      rw (eq-eqb (length x) 32 l, f, q, p) refl

  pub part_right_lem : (a : List ℕ) → same (take (length d - 16) (drop 16 d)) t ≡ true → a ≡ take 16 d → record { a = Ok a; cost = n } ≡ part_two kx b x
  unfolding part_two proof_cost
  part_right_lem a e f = rw (proof_is, e, f, k, eq-eqb (length x) 32 l) refl

  pub part_wrong : same (take (length d - 16) (drop 16 d)) t ≡ false → record { a = Err WrongRndB; cost = n } ≡ part_two kx b x
  unfolding part_two proof_cost
  part_wrong e = rw (proof_is, e, k, eq-eqb (length x) 32 l) refl
