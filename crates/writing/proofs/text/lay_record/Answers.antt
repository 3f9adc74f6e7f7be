-- `writing::text::lay_record` meets its contract.
use mathlib.Core.Path.{ap, ap₂, ◌∙◌}
use lib.Dec.{leb}
use lib.ListN.{length, take}
use lib.Seq.{take-append_seam}
use Rattle.base.specs.Decide.{pick}
use Rattle.base.specs.Bytes.{over}
use Rattle.std.specs.Prelude.{Ok, Err}
use Rattle.writing.specs.declared.NotWritten.TheVariants.{NoRoom}
use Rattle.fields.specs.Fields.{string_of}
use Rattle.writing.specs.Answers.{record_as, record_room}
use Rattle.writing.proofs.text.lay_record.Goals as goal

pub returns : goal.returns
unfolding record_as record_room
returns c =
    let d = c.args.room.now in
    let lay = c.lay_string-n.ensures in
    let front = c.lay_front.ensures in
    let e = lay.place.0 in
    let text = ap₂ (λ k x. take k x) e lay.left ∙ take-append_seam (string_of c.args.r) _ in record { answer = front.answer ∙ ap (λ k. pick (leb k (length d)) (Ok k) (Err NoRoom)) e; left = front.left ∙ ap₂ (λ k x. pick (leb k (length d)) (over x d) d) e text }
