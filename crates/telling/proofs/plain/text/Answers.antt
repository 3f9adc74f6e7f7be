use mathlib.Core.Path.{sym}
use Rattle.forms.proofs.Laying.{writes_more, writes_none}
use borrow.Author.Tests.{lt-ltb, le-ltb}
use Rattle.telling.specs.Plain.{plain_text}
use Rattle.telling.proofs.plain.text.Goals as goal

pub returns-then-printables-s : goal.returns-then-printables-s
unfolding plain_text
returns-then-printables-s c = rw (sym c.printables.ensures, lt-ltb _ _ c.if-printables-s.true) (writes_none _)

pub returns : goal.returns
unfolding plain_text
returns c =
    rw (sym c.printables.ensures, le-ltb _ _ c.if-printables-s.false)
    (writes_more (writes_more c.append.ensures c.characters.ensures) c.append-2.ensures)
