-- `part_two::second` meets its contract: the check, and what follows from it.
use mathlib.Core.Path.{ap}
use native.Mathlib.Omega.{arith}
use Rattle.replies.specs.Answer.{answer_of}
use Rattle.part_two.proofs.Entering.{by_proof_few, proof_few, two_checked}
use Rattle.part_two.proofs.second.Goals as goal

pub overflow_add-result : goal.overflow_add-result
unfolding answer_of
overflow_add-result c =
    let a = c.args in
    let k = c.key_of-kx.result in
    let r = c.check_part_two-checked in
    omega (
      arith,
      ap (λ x. x.cost) c.by_proof-done.ensures.says,
      by_proof_few a.tag k a.random r.result.a,
      ap (λ x. x.cost) r.ensures,
      proof_few k a.tag.pending.rnd_b a.x.now,
    )

pub returns : goal.returns
unfolding answer_of
returns c =
    let a = c.args in
    let k = c.key_of-kx in
    let r = c.check_part_two-checked in
    let d = c.by_proof-done in
    record {
      says = two_checked a.tag a.x.now a.random k.result r.result (answer_of d.result) k.ensures r.ensures d.ensures.says;
      short = d.ensures.short;
    }
