use mathlib.Core.Path.{refl, ◌∙◌}
use borrow.Author.Tests.{le-ltb}
use Rattle.talks.specs.Log.{field_at}
use Rattle.talks.proofs.Walking.{end_bounds}
use Rattle.talks.proofs.Reading.{line_found}
use Rattle.talks.proofs.log.read.Goals as goal

pub slice_bounds-of_line-count : goal.slice_bounds-of_line-count
slice_bounds-of_line-count c = let a = c.args in (end_bounds a.text.now a.at c.find-end.result c.if-text-at.false c.find-end.ensures).0

pub slice_bounds-of_line-start : goal.slice_bounds-of_line-start
slice_bounds-of_line-start c = let a = c.args in (end_bounds a.text.now a.at c.find-end.result c.if-text-at.false c.find-end.ensures).0

pub slice_bounds-of_line-end : goal.slice_bounds-of_line-end
slice_bounds-of_line-end c = let a = c.args in (end_bounds a.text.now a.at c.find-end.result c.if-text-at.false c.find-end.ensures).1

pub returns-then-text-at : goal.returns-then-text-at
unfolding field_at
returns-then-text-at c = rw (le-ltb c.args.at _ c.if-text-at.true) refl

pub returns : goal.returns
returns c =
    let a = c.args in
    c.of_line.ensures ∙ line_found a.text.now a.at c.find-end.result c.if-text-at.false c.find-end.ensures
