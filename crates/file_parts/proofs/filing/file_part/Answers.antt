-- `file_parts::filing::file_part` meets its contract.
use mathlib.Core.Path.{◌≡◌, ap, ◌∙◌}
use native.Mathlib.Omega.{arith}
use lib.ListN.{length}
use Rattle.file_parts.specs.Filing.{part_of}
use Rattle.file_parts.proofs.Parts.{file-fits, file-there}
use borrow.Author.Rules.{rules}
use Rattle.file_parts.proofs.filing.file_part.Goals as goal

pub overflow_add-end : goal.overflow_add-end
overflow_add-end c = omega (arith, file-fits c.args.n, c.file_start-start.ensures, c.file_size.ensures)

pub slice_bounds-cut-end : goal.slice_bounds-cut-end
slice_bounds-cut-end c =
    let a = c.args in
    let l : length a.f.bytes ≡ 416 = search rules in
    omega (arith, file-fits a.n, c.file_start-start.ensures, c.file_size.ensures)

pub returns : goal.returns
returns c =
    let a = c.args in
    c.cut.ensures.text ∙ ap (λ s. part_of s a.at a.count)
    (file-there a.f a.n c.file_start-start.result c.file_size.result c.file_start-start.ensures c.file_size.ensures)
