use mathlib.Core.Path.{◌≡◌, refl, sym, ap, ◌∙◌}
use mathlib.Core.Bool.{Bool, true, false, not}
use mathlib.Core.List.{List}
use Prim.Native.Nat.{ℕ, ◌-◌}
use native.Mathlib.Omega.{arith}
use lib.ListN.{length, drop, length-drop}
use lib.Seq.{take_all}
use Rattle.base.specs.Decide.{pick}
use lib.Dec.{eqb}
use lib.Pointwise.{pointwise}
use Rattle.base.specs.Bytes.{same}
use borrow.Author.Tests.{eq-eqb, ne_eqb, le-ltb}
use Rattle.base.proofs.Bytes.{tests, pointwise-same}
use Rattle.verdict.specs.Replies.{differing}
use Rattle.verdict.proofs.differs.Goals as goal

pub returns-then-reply-n : goal.returns-then-reply-n
unfolding differing
returns-then-reply-n c = search tests

-- the reply begins with what is expected, or not
begins : (e r : List ℕ) (b c : Bool) → b ≡ pointwise eqb e r → b ≡ c → same e r ≡ c
begins e r b c p q = sym (p ∙ pointwise-same e r) ∙ q

-- nor ends with it
ends : (e r : List ℕ) → not (pointwise eqb e r) ≡ pick (same e r) false true
ends e r = rw (pointwise-same e r) (by (same e r))
  where
    by : (t : Bool) → not t ≡ pick t false true
    by true = refl
    by false = refl

pub returns-then-eq : goal.returns-then-eq
unfolding differing
returns-then-eq c = rw (le-ltb _ _ c.if-reply-n.false, begins c.args.expected.now _ _ _ c.eq.ensures c.if-eq.true) refl

pub returns-then-n-ne2 : goal.returns-then-n-ne2
unfolding differing
returns-then-n-ne2 c =
    rw (le-ltb _ _ c.if-reply-n.false, begins c.args.expected.now _ _ _ c.eq.ensures c.if-eq.false, ne_eqb _ _ c.if-n-ne2.true) refl

pub returns-else-n-ne2 : goal.returns-else-n-ne2
unfolding differing
returns-else-n-ne2 c =
    let e = c.args.expected.now in
    let r = c.args.reply.now in
    let n = length r - 2 in
    let w = take_all (length r - n) (drop n r) (omega (arith, length-drop n r)) in
    rw (le-ltb _ _ c.if-reply-n.false, begins c.args.expected.now _ _ _ c.eq.ensures c.if-eq.false, eq-eqb _ _ c.if-n-ne2.false) (c.ne.ensures ∙ ap (λ x. not (pointwise eqb e x)) w ∙ ends e _)
