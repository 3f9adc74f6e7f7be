use Rattle.std.proofs.Common.{rules, arith, ◌≡◌, refl, sym, ap, ◌∙◌, length, drop}
use lib.ListN.{drop_of_length-le}
use Rattle.rules.specs.Rules.{fields_fit}
use Rattle.rules.proofs.Fitting.{fit-step}
use Rattle.rules.proofs.fits.all_fit.Goals as goal

pub returns-then-not-field_fits : goal.returns-then-not-field_fits
returns-then-not-field_fits c =
    let ps = c.args.there in
    let vs = c.args.numbers in
    let l : length ps ≡ 8 = search rules in
    let k : length vs ≡ 8 = search rules in
    sym (sym c.loop-i.invariant ∙ fit-step ps vs c.loop-i.i (omega arith) (omega arith) ∙ rw (sym c.field_fits.ensures ∙ c.if-not-field_fits.true) refl)

pub loop-i-preserved : goal.loop-i-preserved
loop-i-preserved c =
    let ps = c.args.there in
    let vs = c.args.numbers in
    let l : length ps ≡ 8 = search rules in
    let k : length vs ≡ 8 = search rules in
    sym (fit-step ps vs c.loop-i.i (omega arith) (omega arith) ∙ rw (sym c.field_fits.ensures ∙ c.if-not-field_fits.false) refl) ∙ c.loop-i.invariant

pub returns : goal.returns
unfolding fields_fit
returns c =
    let ps = c.args.there in
    let l : length ps ≡ 8 = search rules in
    sym (ap (λ x. fields_fit x (drop c.loop-i.i c.args.numbers)) (drop_of_length-le ps {i = c.loop-i.i} (omega arith))) ∙ c.loop-i.invariant
