-- The settings strings: where each stands, and what is read of it.
use mathlib.Core.Path.{◌≡◌, sym, ap, ◌∙◌}
use mathlib.Core.Bool.{Bool, true, false}
use mathlib.Core.List.{List}
use mathlib.Core.Logic.{⊎_elim}
use Prim.Native.Nat.{ℕ, ◌+◌, ◌*◌, ◌-◌, ◌≤◌}
use native.Mathlib.Omega.{arith}
use lib.Dec.{eqb, leb}
use lib.ListN.{length, take, drop, length-take, get_or-eq_default}
use lib.Seq.{take-take, take_all}
use borrow.Author.Tests.{le-leb, lt-leb}
use Rattle.base.specs.Decide.{pick}
use Rattle.base.specs.Bytes.{byte_at}
use Rattle.base.proofs.Bytes.{le_or_lt}
use Rattle.state.specs.State.{slot_of, string_at}

pub slot_small : (n : ℕ) → slot_of n ≤ 3
unfolding slot_of
slot_small n = small (eqb n 1) (eqb n 2) (eqb n 3)
  where
    small : (a b c : Bool) → pick a 0 (pick b 1 (pick c 2 3)) ≤ 3
    small true b c = omega arith
    small false true c = omega arith
    small false false true = omega arith
    small false false false = omega arith

-- what a length says, at most 27
abbrev pub cut : ℕ → ℕ
cut b = pick (leb b 27) b 27

pub cut_small : (b : ℕ) → cut b ≤ 27
cut_small b = ⊎_elim (λ h. rw (le-leb b 27 h) h) (λ h. rw (lt-leb b 27 h) (omega arith)) (le_or_lt b 27)

-- a string ends before the next slot, and behind the last slot there is none
pub cut_fits : (lens : List ℕ) (i : ℕ) → length lens ≡ 3 → i ≤ 3 → i * 27 + cut (byte_at lens i) ≤ 81
cut_fits lens i l h =
    ⊎_elim (λ k. rw (get_or-eq_default lens 0 {n = i} (omega arith)) (omega arith))
    (λ k. omega (arith, cut_small (byte_at lens i)))
    (le_or_lt 3 i)

pub cut_string : (b : ℕ) (s : List ℕ) → take (cut b) s ≡ take b (take 27 s)
cut_string b s =
    ⊎_elim (λ h. rw (le-leb b 27 h) (sym (take-take b 27 s h)))
    (λ h. rw (lt-leb b 27 h) (sym (take_all b (take 27 s) (simp length-take (omega arith)))))
    (le_or_lt b 27)

-- the part of the settings from a slot on is the file's string
pub string-from : (rules lens : List ℕ) (n i len : ℕ) → i ≡ slot_of n → len ≡ cut (byte_at lens i)
    → take (i * 27 + len - i * 27) (drop (i * 27) rules) ≡ string_at rules lens n
string-from rules lens n i len e l =
    let d : i * 27 + len - i * 27 ≡ len = omega arith in
    ap (λ k. take k (drop (i * 27) rules)) (d ∙ l)
    ∙ cut_string (byte_at lens i) (drop (i * 27) rules)
    ∙ ap (λ j. take (byte_at lens j) (take 27 (drop (j * 27) rules))) e

pub string-short : (rules lens : List ℕ) (n : ℕ) → length (string_at rules lens n) ≤ 27
string-short rules lens n = simp length-take (omega arith)
