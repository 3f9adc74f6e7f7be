-- Conditions and modes fit their bits.
use mathlib.Core.Path.{◌≡◌, refl}
use mathlib.Core.Bool.{Bool, true, false, not}
use Prim.Native.Nat.{ℕ, ◌≤◌}
use native.Mathlib.Omega.{arith}
use lib.Dec.{eqb, leb}
use borrow.Author.Tests.{leb-true, eqb-true}
use mathlib.Core.Logic.{◌⊎◌, inl, inr, ⊎_elim}
use Rattle.base.specs.Decide.{and, or}
use Rattle.base.proofs.Bytes.{and_left, and_right}
use Rattle.fields.specs.declared.Head.{Head}
use Rattle.rules.specs.Rules.{condition, rights, sdm_rights, modes}

pub or_true : (a b : Bool) → or a b ≡ true → (a ≡ true) ⊎ (b ≡ true)
or_true true b e = inl refl
or_true false b e = inr e

pub condition_small : (c : ℕ) → condition c ≡ true → c ≤ 15
unfolding condition
condition_small c e =
    ⊎_elim (λ h. omega (arith, leb-true c 4 h))
    (λ h. ⊎_elim (λ k. omega (arith, eqb-true c 14 k)) (λ k. omega (arith, eqb-true c 15 k)) (or_true (eqb c 14) (eqb c 15) h))
    (or_true (leb c 4) _ e)

pub mode_small : (m : ℕ) → modes m ≡ true → m ≤ 3
unfolding modes
mode_small m e = ⊎_elim (λ h. omega (arith, leb-true m 1 h)) (λ h. omega (arith, eqb-true m 3 h)) (or_true (leb m 1) _ e)

pub record Four (h : Head) : Type 0 where
  pub read : h.read ≤ 15
  pub write : h.write ≤ 15
  pub both : h.read_write ≤ 15
  pub change : h.change ≤ 15

pub rights_small : (h : Head) → rights h ≡ true → Four h
unfolding rights
rights_small h e =
    let e₁ = and_right (condition h.read) _ e in
    let e₂ = and_right (condition h.write) _ e₁ in
    record {
      read = condition_small _ (and_left _ _ e);
      write = condition_small _ (and_left _ _ e₁);
      both = condition_small _ (and_left _ _ e₂);
      change = condition_small _ (and_right (condition h.read_write) _ e₂);
    }

pub record Three (h : Head) : Type 0 where
  pub meta : h.sdm_meta_read ≤ 15
  pub file : h.sdm_file_read ≤ 15
  pub ret : h.sdm_ctr_ret ≤ 15

pub sdm_small : (h : Head) → sdm_rights h ≡ true → Three h
unfolding sdm_rights
sdm_small h e =
    let e₁ = and_right (condition h.sdm_meta_read) _ e in
    record {
      meta = condition_small _ (and_left _ _ e);
      file = condition_small _ (and_left _ _ (and_left _ _ e₁));
      ret = condition_small _ (and_right (and (condition h.sdm_file_read) (not (eqb h.sdm_file_read 14))) _ e₁);
    }
