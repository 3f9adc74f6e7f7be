-- Part one of 71 accepted: the length of its data.
use mathlib.Core.Path.{◌≡◌, refl}
use mathlib.Core.Bool.{Bool, true, false}
use mathlib.Core.List.{List}
use Prim.Native.Nat.{ℕ, ◌+◌, ◌≤◌, ◌<◌}
use native.Mathlib.Omega.{arith}
use lib.Dec.{eqb, ltb}
use lib.ListN.{length}
use borrow.Author.Tests.{eqb-true, ltb-false}
use Rattle.base.specs.Decide.{pick}
use Rattle.base.specs.Bytes.{byte_at}
use Rattle.auth.specs.Parts.{first_status}

-- no status: the test that gives one failed
passed : (t : Bool) (s rest : ℕ) → 0 < s → pick t s rest ≡ 0 → (t ≡ false) × (rest ≡ 0)
passed true s rest h e = absurd (omega arith)
passed false s rest h e = (refl, e)

held : (t : Bool) (rest s : ℕ) → 0 < s → pick t rest s ≡ 0 → t ≡ true
held true rest s h e = refl
held false rest s h e = absurd (omega arith)

pub first_lengths : (x : List ℕ) (application : Bool) → first_status x application ≡ 0 → (2 ≤ length x) × (length x ≤ 8)
unfolding first_status
first_lengths x application e =
    let n = length x in
    let cap = byte_at x 1 in
    let long = passed (ltb n 2) 0x917E _ (omega arith) e in
    let small = passed (ltb 6 cap) 0x919E _ (omega arith) long.1 in
    let whole = held (eqb n (2 + cap)) _ 0x917E (omega arith) small.1 in
    (ltb-false n 2 long.0, omega (arith, ltb-false 6 cap small.0, eqb-true n (2 + cap) whole))
