-- `file_parts::filing::cut` meets its contract.
use mathlib.Core.Path.{ap, ◌∙◌}
use lib.ListN.{replicate}
use Rattle.base.specs.Bytes.{over}
use Rattle.file_parts.proofs.Parts.{cut_part}
use Rattle.file_parts.proofs.filing.cut.Goals as goal

pub returns : goal.returns
returns c =
    let a = c.args in
    let e = cut_part a.text.now a.at a.count _ _ _ c.min.ensures c.min-2.ensures c.min-3.ensures in
    record { text = c.of.ensures.text ∙ e; zeros = c.of.ensures.zeros ∙ ap (λ x. over x (replicate 258 0)) e }
