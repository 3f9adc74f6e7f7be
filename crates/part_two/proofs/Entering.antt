-- The answer of part two by what its check came to.
use mathlib.Core.Path.{◌≡◌, refl}
use mathlib.Core.Bool.{Bool, true, false}
use mathlib.Core.List.{List}
use Prim.Native.Nat.{ℕ, ◌≤◌}
use native.Mathlib.Omega.{arith}
use lib.Dec.{eqb}
use lib.ListN.{length}
use Rattle.std.proofs.Common.{Result, Ok, Err}
use Rattle.cbc.specs.Cbc.{cbc_cost}
use Rattle.cmac.specs.Cmac.{cmac_cost, blocks_of}
use Rattle.authentication.specs.declared.Wrong.{Wrong}
use Rattle.authentication.specs.declared.Wrong.TheVariants.{NotThirtyTwo, WrongRndB}
use Rattle.authentication.specs.declared.PartTwo.{PartTwo}
use Rattle.authentication.specs.Authentication.{proof_cost, part_two}
use Rattle.state.specs.declared.Tag.{Tag}
use Rattle.state.specs.State.{key_in}
use Rattle.replies.specs.Answer.{Answer, refusal, costing}
use Rattle.part_two.specs.PartTwo.{entered_first, entered_next, entered, by_proof, part_two_answer}

-- ---- behind the check at most eight blocks: the session keys and the reply
entered_few : (t : Tag) (kx a random : List ℕ) (b : Bool) → t.pending.first ≡ b → (entered t kx a random).cost ≤ 8
unfolding entered entered_first entered_next cbc_cost cmac_cost blocks_of
entered_few t kx a random true e = rw e (omega arith)
entered_few t kx a random false e = rw e (omega arith)

pub by_proof_few : (t : Tag) (kx random : List ℕ) (p : Result (List ℕ) Wrong) → (by_proof t kx random p).cost ≤ 8
unfolding refusal
by_proof_few t kx random (Ok a) = entered_few t kx a random _ refl
by_proof_few t kx random (Err NotThirtyTwo) = omega arith
by_proof_few t kx random (Err WrongRndB) = omega arith

-- and the check two, or none
check_few : (kx b x : List ℕ) (e : Bool) → eqb (length x) 32 ≡ e → (part_two kx b x).cost ≤ 2
unfolding part_two proof_cost cbc_cost
check_few kx b x true e = rw e (omega arith)
check_few kx b x false e = rw e (omega arith)

pub proof_few : (kx b x : List ℕ) → (part_two kx b x).cost ≤ 2
proof_few kx b x = check_few kx b x _ refl

-- part two, by what its check came to
pub two_checked : (t : Tag) (x random kx : List ℕ) (r : PartTwo) (a : Answer) → kx ≡ key_in t.secrets.keys t.pending.key
    → r ≡ part_two kx t.pending.rnd_b x → a ≡ by_proof t kx random r.a → costing r.cost a ≡ part_two_answer t x random
unfolding part_two_answer
two_checked t x random kx r a k e f = rw (f, e, k) refl
