-- What an answer costs at most.
use mathlib.Core.Bool.{Bool, true, false}
use mathlib.Core.Path.{◌≡◌, refl}
use mathlib.Core.List.{List, []}
use Prim.Native.Nat.{ℕ, ◌≤◌}
use native.Mathlib.Omega.{arith}
use lib.ListN.{length}
use Rattle.messaging.specs.declared.Mode.{Mode}
use Rattle.closing.specs.Reply.{overlong}
use Rattle.closing.proofs.Closing.{short, closed_few, closed-empty}
use Rattle.state.specs.declared.Tag.{Tag}
use Rattle.base.specs.Decide.{pick}
use Rattle.replies.specs.Answer.{Answer, refusal, accepted}

few_by : (t : Tag) (m : Mode) (d : List ℕ) (b : Bool) → overlong m (length d) ≡ b → (accepted t m d).cost ≤ 33
unfolding accepted refusal
few_by t m d true e = rw e (omega arith)
few_by t m d false e = rw e (closed_few m (length d) (short m (length d) e))

pub accepted_few : (t : Tag) (m : Mode) (d : List ℕ) → (accepted t m d).cost ≤ 33
accepted_few t m d = few_by t m d _ refl

empty_by : (t : Tag) (m : Mode) (b : Bool) → overlong m 0 ≡ b → (accepted t m []).cost ≤ 2
unfolding accepted refusal
empty_by t m true e = rw e (omega arith)
empty_by t m false e = rw e (closed-empty m)

-- a reply without data is its MAC alone
pub accepted-empty : (t : Tag) (m : Mode) → (accepted t m []).cost ≤ 2
accepted-empty t m = empty_by t m _ refl

-- one of two answers
pub either_few : (b : Bool) (x y : Answer) (k : ℕ) → x.cost ≤ k → y.cost ≤ k → (pick b x y).cost ≤ k
either_few true x y k p q = p
either_few false x y k p q = q
