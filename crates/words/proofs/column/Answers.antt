-- `words::column` meets its contract: the words of the table, each rotated to its row.
use mathlib.Core.Path.{refl, ◌∙◌}
use Prim.Native.Nat.{ℕ}
use mir.Val.{Fits}
use mir.Syntax.{w32}
use borrow.Author.Rules.{rules}
use Rattle.base.specs.Bytes.{byte_at}
use Rattle.words.specs.Words.{column_of}
use Rattle.words.proofs.Words.{rotated_once, rotated_twice, rotated_thrice}
use Rattle.words.proofs.column.Goals as goal

pub returns : goal.returns
unfolding column_of
returns c =
    let b : (k : ℕ) → Fits w32 (byte_at c.args.t.now k) = λ k. search rules in
    rw (
      c.rotate_left-3.ensures ∙ rotated_thrice _ (b _).fits,
      c.rotate_left-2.ensures ∙ rotated_twice _ (b _).fits,
      c.rotate_left.ensures ∙ rotated_once _ (b _).fits,
      c.from-4.ensures,
      c.from-3.ensures,
      c.from-2.ensures,
      c.from.ensures,
      c.to_le_bytes-4.ensures,
      c.to_le_bytes-3.ensures,
      c.to_le_bytes-2.ensures,
      c.to_le_bytes.ensures,
    ) refl
