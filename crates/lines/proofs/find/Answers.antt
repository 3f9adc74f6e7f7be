use mathlib.Core.Path.{◌≡◌, refl, sym, ap, ◌∙◌}
use Prim.Native.Nat.{ℕ, ◌+◌}
use mathlib.Core.List.{List, [], ◌∷◌}
use lib.ListN.{length, drop}
use borrow.Author.Tests.{eq-eqb, ne_eqb}
use Rattle.std.proofs.Common.{rules, ◌≢◌, add-one}
use Rattle.std.proofs.lemmas.Iterator.{YieldsList-from_slice, IsFirst-from_position, index_from_first}
use Rattle.base.proofs.Bytes.{tests}
use Rattle.lines.specs.Lines.{seek, before}
use Rattle.lines.proofs.Steps.{rest_of}
use Rattle.lines.proofs.find.Goals as goal

-- before counts up to the first hit
module _ (b : ℕ) where
  pub hit : (x : ℕ) (xs : List ℕ) → x ≡ b → before b (x ∷ xs) ≡ 0
  unfolding before
  hit x xs e = rw (eq-eqb x b e) refl

  pub miss : (x : ℕ) (xs : List ℕ) → x ≢ b → before b (x ∷ xs) ≡ before b xs + 1
  unfolding before
  miss x xs e = rw (ne_eqb x b e) (sym (add-one _))

  pub none : before b [] ≡ 0
  unfolding before
  none = refl

pub returns : goal.returns
unfolding seek
returns c =
    let b = c.args.b in
    let rest = c.unwrap_or-rest.result.now in
    let first = IsFirst-from_position _ _ c.position.result (λ x. x ≡ b) (λ x. x ≢ b) c.position.ensures.ran (YieldsList-from_slice rest cc) (λ x q k. search (rules, tests)) (λ x q k. search (rules, tests)) in
    let n : before b rest ≡ c.unwrap_or.result = index_from_first (before b) (λ x. x ≡ b) (λ x. x ≢ b) (none b) (hit b) (miss b) rest c.position.result first ∙ sym c.unwrap_or.ensures in
    let r : rest ≡ drop c.args.at c.args.text.now = ap (λ x. x.now) c.unwrap_or-rest.ensures ∙ rest_of _ _ _ _ c.get.ensures.lookup refl in
    ap (λ x. c.args.at + x) (sym n ∙ ap (before b) r)
