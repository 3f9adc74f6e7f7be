-- `key_expansion::first_word` meets its contract: a sum with a word of the table's bytes.
use mir.Val.{Fits}
use mir.Syntax.{w8}
use borrow.Author.Rules.{rules}
use Rattle.key_expansion.proofs.KeyWords.{first_rows}
use Rattle.key_expansion.proofs.first_word.Goals as goal

pub returns : goal.returns
returns c =
    let g = c.args in
    let h : Fits w8 g.rc = search rules in
    rw (c.pack.ensures, c.from.ensures, c.from-2.ensures, c.from-3.ensures, c.from-4.ensures, c.to_le_bytes.ensures, c.requires)
    (first_rows g.a g.d g.rc h.fits)
