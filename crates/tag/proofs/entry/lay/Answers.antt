-- `tag::entry::lay` meets its contract: two pieces laid one behind the other.
use mathlib.Core.Path.{◌≡◌, ap, ◌∙◌}
use mathlib.Core.List.{[], ◌∷◌}
use Prim.Native.Nat.{◌/◌, ◌%◌}
use native.Mathlib.Omega.{arith}
use lib.ListN.{length}
use lib.Seq.{length-take-le}
use Rattle.base.specs.Bytes.{laid}
use Rattle.buffers.specs.Text.{text_of}
use Rattle.statuses.specs.Words.{status_word}
use Rattle.tag.proofs.Calling.{laid-reply}
use borrow.Author.Rules.{rules}
use Rattle.tag.proofs.entry.lay.Goals as goal

pub returns : goal.returns
returns c =
    let a = c.args in
    let l : length a.text.bytes ≡ 258 = search rules in
    laid-reply (text_of a.text) a.text.length (status_word a.status) a.room.now _ _ (length-take-le a.text.length a.text.bytes (omega arith))
    c.requires.0 c.requires.1
    (c.put.ensures ∙ ap (λ x. laid x 0 a.room.now) c.as_slice.ensures)
    (c.put-2.ensures ∙ ap (λ x. laid x a.text.length c.put.new.dst) (c.to_be_bytes.ensures ∙ ap (λ w. (w / 256 % 256) ∷ (w % 256) ∷ []) c.from-word.ensures))
