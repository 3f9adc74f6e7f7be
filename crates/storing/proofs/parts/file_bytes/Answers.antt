-- `storing::parts::file_bytes` meets its contract.
use mathlib.Core.Path.{refl, ap, ◌∙◌}
use lib.ListN.{replicate}
use borrow.Author.Rules.{rules}
use Rattle.base.specs.Bytes.{laid}
use Rattle.image.proofs.Pieces.{laid_all}
use Rattle.image.proofs.Shapes.{FilesShaped, file_widths}
use Rattle.image.specs.Image.{file_pieces}
use Rattle.storing.proofs.parts.file_bytes.Goals as goal

pub returns : goal.returns
returns c =
    let f = c.args.f in
    let h : FilesShaped f = record { bytes = search rules; rules = search rules; lens = search rules } in
    (c.put-3.ensures ∙ ap (λ s. laid f.lens 497 s)
    (c.put-2.ensures ∙ ap (λ s. laid f.rules 416 s) c.put.ensures))
    ∙ laid_all _ (file_pieces f) (replicate 500 0) (file_widths f h) refl
