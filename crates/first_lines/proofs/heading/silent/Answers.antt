use Rattle.first_lines.proofs.Begins.{silent-step}
use Rattle.first_lines.specs.Begins.{silent_in}
use lib.ListN.{drop_of_length-le}
use borrow.Author.Tests.{eq-eqb, ne_eqb}
use native.Mathlib.Omega.{arith}
use mathlib.Core.Path.{refl, sym, ◌∙◌}
use Rattle.first_lines.proofs.heading.silent.Goals as goal

pub returns-then-c-eq35 : goal.returns-then-c-eq35
returns-then-c-eq35 c =
    sym (sym c.loop-c.invariant ∙ silent-step c.args.line.now c.loop-c.c-index (omega arith) ∙ rw (eq-eqb _ _ c.if-c-eq35.true) refl)

pub returns-then-not-is_blank : goal.returns-then-not-is_blank
returns-then-not-is_blank c =
    sym (sym c.loop-c.invariant ∙ silent-step c.args.line.now c.loop-c.c-index (omega arith)
    ∙ rw (ne_eqb _ _ c.if-c-eq35.false, sym c.is_blank.ensures ∙ c.if-not-is_blank.true) refl)

pub loop-c-preserved : goal.loop-c-preserved
loop-c-preserved c =
    sym (silent-step c.args.line.now c.loop-c.c-index (omega arith)
    ∙ rw (ne_eqb _ _ c.if-c-eq35.false, sym c.is_blank.ensures ∙ c.if-not-is_blank.false) refl) ∙ c.loop-c.invariant

pub returns : goal.returns
unfolding silent_in
returns c = sym (sym c.loop-c.invariant ∙ rw (drop_of_length-le c.args.line.now {i = c.loop-c.c-index} (omega arith)) refl)
