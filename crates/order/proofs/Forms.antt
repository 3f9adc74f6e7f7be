-- Step 2: a command of the right form has as much data as it says.
use mathlib.Core.Path.{◌≡◌}
use mathlib.Core.Bool.{true, false}
use mathlib.Core.List.{List}
use mathlib.Core.Logic.{⊎_elim}
use Prim.Native.Nat.{ℕ, ◌+◌, ◌≤◌, ◌<◌}
use native.Mathlib.Omega.{arith}
use borrow.Author.Tests.{le-leb, lt-leb, ne_eqb, eqb-true}
use lib.Dec.{eqb, leb}
use lib.ListN.{length}
use Rattle.base.specs.Decide.{or}
use Rattle.base.specs.Bytes.{byte_at}
use Rattle.base.proofs.Bytes.{le_or_lt, and_right}
use Rattle.order.specs.Order.{iso_form, lc_of}

-- n bytes are as many as Lc says, without Le or with it
long_enough : (n b : ℕ) → or (eqb n (5 + b)) (eqb n (6 + b)) ≡ true → 5 + b ≤ n
long_enough n b e = ⊎_elim (λ k. k) (λ k. absurd (too_short k)) (le_or_lt (5 + b) n)
  where
    too_short : n < 5 + b → ⊥
    too_short k =
        let w : false ≡ true = rw (ne_eqb n (5 + b) (λ p. omega arith), ne_eqb n (6 + b) (λ p. omega arith)) at e in
        let q : ◌≡◌ {A = ℕ} 0 1 = eqb-true 0 1 w in
        omega arith

-- a right form of CLA 00 has as much data as it says
pub data_whole : (c : List ℕ) → iso_form c ≡ true → 1 ≤ lc_of c → 5 + lc_of c ≤ length c
unfolding iso_form lc_of
data_whole c f =
    ⊎_elim (λ h. rw (le-leb (length c) 5 h) (λ k. absurd (omega arith)))
    (λ h. rw (lt-leb (length c) 5 h) (λ k. long_enough (length c) (byte_at c 4) (and_right (leb 1 (byte_at c 4)) _ (rw (lt-leb (length c) 5 h) at f))))
    (le_or_lt (length c) 5)
