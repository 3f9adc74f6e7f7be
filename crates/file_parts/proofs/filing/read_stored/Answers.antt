-- `file_parts::filing::read_stored` meets its contract.
use mathlib.Core.Path.{ap}
use Rattle.state.specs.State.{file_of}
use Rattle.replies.specs.Answer.{accepted}
use Rattle.replies.proofs.Equal.{gives_as}
use Rattle.file_parts.specs.Filing.{stored}
use Rattle.file_parts.proofs.Parts.{file-short, part-given}
use Rattle.file_parts.proofs.filing.read_stored.Goals as goal

pub returns : goal.returns
unfolding stored
returns c =
    let a = c.args in
    gives_as c.accept.ensures (ap (accepted a.tag a.m) (part-given (file_of a.tag.files a.n) a.at a.count _ (file-short a.tag.files a.n) c.file_part.ensures))
