-- `words::columns` meets its contract: four words of the block.
use mathlib.Core.Path.{◌≡◌, refl}
use Prim.Native.Nat.{ℕ}
use mir.Val.{Fits}
use mir.Syntax.{w8}
use borrow.Author.Rules.{rules}
use lib.ListN.{length}
use Rattle.base.specs.Bytes.{byte_at, AllBytes}
use Rattle.words.specs.Words.{words_of}
use Rattle.words.proofs.Words.{columns_block}
use Rattle.words.proofs.columns.Goals as goal

pub returns : goal.returns
unfolding AllBytes words_of
returns c =
    let s = c.args.s in
    let b : (k : ℕ) → Fits w8 (byte_at s k) = λ k. search rules in
    let l : length s ≡ 16 = search rules in
    let e = c.pack.ensures in
    let f = c.pack-2.ensures in
    let g = c.pack-3.ensures in
    let h = c.pack-4.ensures in
    (rw (e, f, g, h) refl, rw (e, f, g, h) (columns_block s l (λ k. (b k).fits)))
