-- `plans::line_meaning` meets its contract.
use Rattle.plans.proofs.Long.{cut_line, cut_command, cut_random, cut_expected}
use Rattle.first_lines.proofs.Tidying.{seen, seen-fits}
use Rattle.plans.specs.Plan.{line_of, line_command, line_random, line_expected}
use Rattle.first_lines.specs.Said.{tidied, said}
use Rattle.plans.proofs.Numbering.{means}
use Rattle.lines.proofs.Steps.{seek_within}
use lib.ListN.{length, take, replicate, length-take}
use Prim.Native.Nat.{◌≤◌}
use native.Mathlib.Omega.{arith}
use mathlib.Core.Path.{◌≡◌, refl, ap, ◌∙◌}
use borrow.Author.Rules.{rules}
use Rattle.plans.proofs.line_meaning.Goals as goal

pub slice_bounds-tidy-end : goal.slice_bounds-tidy-end
slice_bounds-tidy-end c = let w = seek_within c.args.line.now 0 35 (omega arith) in simp length-take (omega (arith, c.find-e.ensures))

pub slice_bounds-q-end : goal.slice_bounds-q-end
slice_bounds-q-end c =
    let l = take c.find-e.result c.args.line.now in
    let h : c.tidy-n.result ≤ 1700 = seen-fits l (replicate 1700 0) refl c.tidy-n.ensures.count in
    let k : length c.tidy-n.new.room ≡ 1700 = search rules in
    omega arith

pub slice_bounds-tidy_line-end : goal.slice_bounds-tidy_line-end
slice_bounds-tidy_line-end c =
    let l = take c.find-e.result c.args.line.now in
    let h : c.tidy-n.result ≤ 1700 = seen-fits l (replicate 1700 0) refl c.tidy-n.ensures.count in
    let k : length c.tidy-n.new.room ≡ 1700 = search rules in
    simp length-take (omega arith)

pub returns : goal.returns
unfolding said
returns c =
    let a = c.args in
    let s = a.line.now in
    let l = take c.find-e.result s in
    let t =
    seen l (replicate 1700 0) refl c.tidy-n.ensures.count
    c.tidy-n.ensures.left
    ∙ ap (λ e. take 1700 (tidied (take e s))) c.find-e.ensures in
    means s a.command.now a.random.now a.expected.now _ _ _ _
    (c.tidy_line.ensures.answer ∙ ap (λ x. line_of x a.command.now a.random.now a.expected.now) t
    ∙ cut_line a.command.now a.random.now a.expected.now _)
    (c.tidy_line.ensures.command ∙ ap (λ x. line_command x a.command.now) t ∙ cut_command a.command.now _)
    (c.tidy_line.ensures.random ∙ ap (λ x. line_random x a.random.now) t ∙ cut_random a.random.now _)
    (c.tidy_line.ensures.expected ∙ ap (λ x. line_expected x a.expected.now) t ∙ cut_expected a.expected.now _)
