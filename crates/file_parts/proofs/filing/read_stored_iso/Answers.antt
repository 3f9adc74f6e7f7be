-- `file_parts::filing::read_stored_iso` meets its contract.
use mathlib.Core.Path.{ap₂}
use Rattle.state.specs.State.{file_of}
use Rattle.replies.specs.Answer.{given}
use Rattle.replies.proofs.Equal.{gives_as}
use Rattle.file_parts.specs.Filing.{stored_iso}
use Rattle.file_parts.proofs.Parts.{file-short, part-given}
use Rattle.file_parts.proofs.filing.read_stored_iso.Goals as goal

pub returns : goal.returns
unfolding stored_iso
returns c =
    let a = c.args in
    gives_as c.give.ensures (ap₂ (λ t d. given t 0x9000 d) c.after.ensures
    (part-given (file_of a.tag.files a.n) a.at a.count _ (file-short a.tag.files a.n) c.file_part.ensures))
