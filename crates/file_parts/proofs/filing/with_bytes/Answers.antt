-- `file_parts::filing::with_bytes` meets its contract.
use mathlib.Core.Path.{◌≡◌}
use lib.ListN.{length}
use Rattle.file_parts.proofs.Parts.{bytes-laid}
use borrow.Author.Rules.{rules}
use Rattle.file_parts.proofs.filing.with_bytes.Goals as goal

pub returns : goal.returns
returns c =
    let a = c.args in
    let l : length a.f.bytes ≡ 416 = search rules in
    bytes-laid a.f a.n a.at a.p.now _ _ _ l c.file_start.ensures c.saturating_add.ensures c.put.ensures
