-- `tag::answering::answered` meets its contract: the spans fit, and the data lies among the bytes.
use mathlib.Core.Path.{◌≡◌, sym, ap, subst, ◌∙◌}
use lib.ListN.{length}
use Rattle.spans.specs.Spans.{SpansFit}
use Rattle.soundness.proofs.Inside.{sound-spans}
use Rattle.order.specs.Commands.{in_words}
use Rattle.order.proofs.Placed.{data_inside}
use borrow.Author.Rules.{rules}
use Rattle.tag.proofs.answering.answered.Goals as goal

pub on_command-requires-clause-spans_fit : goal.on_command-requires-clause-spans_fit
on_command-requires-clause-spans_fit c =
    let a = c.args in
    let l : length a.tag.files.lens ≡ 3 = search rules in
    subst SpansFit (sym c.reading_for.ensures) (sound-spans a.tag c.requires.tag_value l c.in-Ok.k.file)

pub on_command-requires-clause-data_inside : goal.on_command-requires-clause-data_inside
on_command-requires-clause-data_inside c =
    let a = c.args in
    data_inside a.c.now a.tag.pending.on a.tag.place.application a.tag.place.file c.in-Ok.k
    (sym c.command_in.ensures.told ∙ ap in_words c.in-Ok.is)
