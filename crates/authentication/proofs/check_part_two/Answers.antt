-- `authentication::check_part_two` meets its contract: the check of part two, case by case.
use mathlib.Core.Path.{◌≡◌, refl, sym, ap, ◌∙◌}
use borrow.Author.Rules.{rules}
use borrow.Author.Tests.{ne_eqb}
use lib.ListN.{length}
use Rattle.authentication.specs.Authentication.{part_two, proof_of, proof_cost}
use Rattle.authentication.proofs.PartTwos.{part_right_lem, part_wrong}
use Rattle.authentication.proofs.check_part_two.Goals as goal

pub returns-then-x-ne32 : goal.returns-then-x-ne32
unfolding part_two proof_of proof_cost
returns-then-x-ne32 c = rw (ne_eqb _ _ c.if-x-ne32.true) refl

pub returns-then-not-alike : goal.returns-then-not-alike
returns-then-not-alike c =
    let p = c.decipher-p.ensures in
    let d = c.decipher-p.result.bytes in
    let a = c.args in
    let m : length d ≡ 32 = search rules in
    part_wrong a.kx a.b a.x.now d c.turn.result _ c.if-x-ne32.false m (ap (λ x. x.bytes) p) (ap (λ x. x.cost) p) c.turn.ensures
    (sym c.alike.ensures ∙ c.if-not-alike.true)

pub returns : goal.returns
returns c =
    let p = c.decipher-p.ensures in
    let d = c.decipher-p.result.bytes in
    let a = c.args in
    let m : length d ≡ 32 = search rules in
    part_right_lem a.kx a.b a.x.now d c.turn.result _ c.if-x-ne32.false m (ap (λ x. x.bytes) p) (ap (λ x. x.cost) p) c.turn.ensures _
    (sym c.alike.ensures ∙ c.if-not-alike.false) c.copy_from_slice.ensures.after
