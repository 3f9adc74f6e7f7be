-- The 80 that only zeros follow, looked for from the back.
use Rattle.std.proofs.Common.{◌≡◌, refl, sym, ◌∙◌, ◌-◌, length, None}
use Rattle.std.proofs.lemmas.Grind.{common_steps}
use Rattle.base.specs.Bytes.{byte_at}
use Rattle.padding.specs.Padding.{blocks, unpad}
use Rattle.padding.proofs.Padding.{told_status}
use Rattle.padding.proofs.Unpadding.{mark_step}
use borrow.Author.Tests.{ne_eqb}
use native.Mathlib.Omega.{arith}
use Rattle.padding.proofs.unpad.Goals as goal

pub returns-then-s-ne0-clause-status : goal.returns-then-s-ne0-clause-status
unfolding unpad blocks
returns-then-s-ne0-clause-status c = told_status c.args.s.now None (grind (arith, common_steps))

pub loop-i-preserved : goal.loop-i-preserved
loop-i-preserved c =
    let s = c.args.s.now in
    let i = c.loop-i.i in
    let e : i - (length s - 16) - 1 ≡ i - 1 - (length s - 16) = omega arith in
    c.loop-i.invariant ∙ mark_step (i - (length s - 16)) s i (omega arith) ∙ rw (c.in-0.is, e) refl

pub returns-in_default-clause-told : goal.returns-in_default-clause-told
returns-in_default-clause-told c =
    let s = c.args.s.now in
    let i = c.loop-i.i in
    sym (c.loop-i.invariant ∙ mark_step (i - (length s - 16)) s i (omega arith) ∙ rw (ne_eqb (byte_at s (i - 1)) 128 (omega arith), ne_eqb (byte_at s (i - 1)) 0 (omega arith)) refl)

pub returns-in_default-clause-status : goal.returns-in_default-clause-status
returns-in_default-clause-status c = told_status c.args.s.now None (returns-in_default-clause-told c)
