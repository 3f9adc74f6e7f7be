-- Where the data of a command lies: among its bytes, and it is the data of the command.
use mathlib.Core.Path.{◌≡◌, refl, ap, subst}
use mathlib.Core.Bool.{Bool, true, false}
use mathlib.Core.List.{List}
use Rattle.std.specs.Prelude.{Option, Some, None, Ok, Err}
use mathlib.Core.Logic.{◌⊎◌, inl, inr, ⊎_elim}
use Prim.Native.Nat.{ℕ, zero, suc, ◌+◌, ◌-◌, ◌≤◌}
use native.Mathlib.Omega.{arith}
use borrow.Author.Tests.{ne_eqb}
use lib.Dec.{eqb, ltb}
use lib.ListN.{length, take, drop}
use Rattle.base.specs.Decide.{pick, or}
use Rattle.base.specs.Bytes.{byte_at}
use Rattle.base.specs.Status.{length_error, iso_wrong_length, iso_unknown_class}
use Rattle.order.specs.declared.Name.{Name}
use Rattle.order.specs.declared.Command.{Command}
use Rattle.order.specs.Names.{named}
use Rattle.order.specs.Order.{command_data, iso_form, form_right, lc_of, wrapped_status, iso_status}
use Rattle.order.specs.Commands.{Ordered, data_start, data_end, wrapped_command, iso_command, by_status, on_wrapped, on_iso, wrapped_order, iso_order, ordered, data_of}
use Rattle.order.proofs.Forms.{data_whole}

-- ---- the data
placed_data : (n : ℕ) (c : List ℕ) → take (data_end n - data_start n) (drop (data_start n) c) ≡ take n (drop 5 c)
placed_data zero c = refl
placed_data (suc n) c =
    let e : 5 + suc n - 5 ≡ suc n = omega arith in
    rw (ne_eqb (suc n) 0 (λ q. omega arith)) (ap (λ k. take k (drop 5 c)) e)

pub wrapped_data : (name : Name) (c : List ℕ) → data_of (wrapped_command name c) c ≡ command_data c
unfolding data_of wrapped_command command_data
wrapped_data name c = placed_data (length c - 6) c

pub iso_data : (name : Name) (c : List ℕ) (file : ℕ) → data_of (iso_command name c file) c ≡ take (lc_of c) (drop 5 c)
unfolding data_of iso_command
iso_data name c file = placed_data (lc_of c) c

-- ---- its place
abbrev Inside : List ℕ → Command → Type 0
Inside c k = (k.start ≤ k.end) × (k.end ≤ length c)

placed : (n size : ℕ) → (1 ≤ n → 5 + n ≤ size) → (data_start n ≤ data_end n) × (data_end n ≤ size)
placed zero size h = (omega arith, omega arith)
placed (suc n) size h = rw (ne_eqb (suc n) 0 (λ q. omega arith)) (omega arith, h (omega arith))

wrapped-inside : (name : Name) (c : List ℕ) → Inside c (wrapped_command name c)
unfolding wrapped_command
wrapped-inside name c = placed (length c - 6) (length c) (λ h. omega arith)

iso_inside : (name : Name) (c : List ℕ) (file : ℕ) → iso_form c ≡ true → Inside c (iso_command name c file)
unfolding iso_command
iso_inside name c file f = placed (lc_of c) (length c) (data_whole c f)

-- ---- what is let through
refused : (s : ℕ) (k : Command) → Err s ≡ Ok k → ⊥
refused s k e = let z : ◌≡◌ {A = ℕ} 0 1 = cc in omega arith

-- one of two answers
either_is : (t : Bool) (a b : Ordered) (k : Command) → pick t a b ≡ Ok k → ((t ≡ true) × (a ≡ Ok k)) ⊎ (b ≡ Ok k)
either_is true a b k e = inl (refl, e)
either_is false a b k e = inr e

by_is : (s : ℕ) (k k' : Command) → by_status s k ≡ Ok k' → k ≡ k'
unfolding by_status
by_is s k k' e = ⊎_elim (λ p. let q : Ok k ≡ Ok k' = p.1 in (cc)) (λ r. absurd (refused s k' r)) (either_is (eqb s 0) (Ok k) (Err s) k' e)

module _ (c : List ℕ) (k : Command) where
  on_wrapped_lem : (pending application : Bool) (n : Option Name) → on_wrapped c pending application n ≡ Ok k → Inside c k
  on_wrapped_lem pending application (Some n) e =
      subst (Inside c) (by_is (wrapped_status c pending application) (wrapped_command n c) k e) (wrapped-inside n c)
  on_wrapped_lem pending application None e = absurd (refused _ k e)

  on_iso_lem : (pending : Bool) (file : ℕ) (n : Option Name) → iso_form c ≡ true → on_iso c pending file n ≡ Ok k → Inside c k
  on_iso_lem pending file (Some n) f e =
      subst (Inside c) (by_is (iso_status c pending file) (iso_command n c file) k e) (iso_inside n c file f)
  on_iso_lem pending file None f e = absurd (refused _ k e)

  by_wrapped : (pending application : Bool) → wrapped_order c pending application ≡ Ok k → Inside c k
  unfolding wrapped_order
  by_wrapped pending application e =
      let o = on_wrapped c pending application (named 0x90 (byte_at c 1)) in
      ⊎_elim (λ p. on_wrapped_lem pending application (named 0x90 (byte_at c 1)) p.1) (λ r. absurd (refused length_error k r))
      (either_is (form_right c) o (Err length_error) k e)

  by_iso : (pending : Bool) (file : ℕ) → iso_order c pending file ≡ Ok k → Inside c k
  unfolding iso_order
  by_iso pending file e =
      let o = on_iso c pending file (named 0x00 (byte_at c 1)) in
      ⊎_elim (λ p. on_iso_lem pending file (named 0x00 (byte_at c 1)) p.0 p.1) (λ r. absurd (refused iso_wrong_length k r))
      (either_is (iso_form c) o (Err iso_wrong_length) k e)

pub data_inside : (c : List ℕ) (pending application : Bool) (file : ℕ) (k : Command) → ordered c pending application file ≡ Ok k
    → (k.start ≤ k.end) × (k.end ≤ length c)
unfolding ordered
data_inside c pending application file k e =
    let w = wrapped_order c pending application in
    let i = iso_order c pending file in
    let last = pick (eqb (byte_at c 0) 0) i (Err iso_unknown_class) in
    let long = or (ltb (length c) 4) (ltb 261 (length c)) in
    ⊎_elim (λ p. absurd (refused iso_wrong_length k p.1))
    (λ r.
    ⊎_elim (λ p. by_wrapped c k pending application p.1)
    (λ q.
    ⊎_elim (λ p. by_iso c k pending file p.1) (λ z. absurd (refused iso_unknown_class k z))
    (either_is (eqb (byte_at c 0) 0) i (Err iso_unknown_class) k q))
    (either_is (eqb (byte_at c 0) 0x90) w last k r))
    (either_is long (Err iso_wrong_length) (pick (eqb (byte_at c 0) 0x90) w last) k e)
