use Rattle.std.proofs.Common.{rules, arith, ◌≡◌, ◌+◌, sym, ap, ◌∙◌, length, drop}
use lib.ListN.{drop_of_length-le}
use Rattle.fields.specs.Fields.{ends}
use Rattle.fields.proofs.Cursor.{ends-step}
use Rattle.fields.proofs.fields.end_of_fields.Goals as goal

pub loop-present-preserved : goal.loop-present-preserved
loop-present-preserved c =
    let ps = c.args.there in
    let i = c.loop-present.present-index in
    let l : length ps ≡ 8 = search rules in
    (omega arith, ap (λ k. ends k (drop (i + 1) ps)) c.step-at.ensures.0 ∙ sym (ends-step ps i c.loop-present.at (omega arith)) ∙ c.loop-present.invariant.1)

pub returns : goal.returns
unfolding ends
returns c =
    let ps = c.args.there in
    let l : length ps ≡ 8 = search rules in
    sym (ap (λ x. ends c.loop-present.at x) (drop_of_length-le ps {i = c.loop-present.present-index} (omega arith))) ∙ c.loop-present.invariant.1
