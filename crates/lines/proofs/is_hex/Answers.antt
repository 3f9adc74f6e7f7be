use mathlib.Core.Path.{◌≡◌, refl, sym, ap, ◌∙◌}
use borrow.Author.Tests.{ne_eqb}
use Rattle.std.proofs.Common.{rules}
use Rattle.std.specs.Prelude.{is_some}
use Rattle.std.specs.List.{list_all}
use Rattle.std.proofs.lemmas.Iterator.{YieldsList-from_slice}
use Rattle.std.proofs.lemmas.Iterator.Search.{all_from_yields_List}
use Rattle.lines.specs.Hex.{digit_of}
use Rattle.lines.proofs.Steps.{hex_all}
use Rattle.lines.proofs.is_hex.Goals as goal

pub returns-then-text-eq0 : goal.returns-then-text-eq0
returns-then-text-eq0 c =
    let e : c.all.result ≡ list_all (λ x. is_some (digit_of x)) c.args.text.now =
    all_from_yields_List (λ x. is_some (digit_of x)) _ _ _ c.all.ensures.ran (YieldsList-from_slice c.args.text.now cc) (λ x b q k. search rules) in
    rw (hex_all c.args.text.now, c.if-text-eq0.true) e

pub returns-else-text-eq0 : goal.returns-else-text-eq0
returns-else-text-eq0 c = rw (hex_all c.args.text.now, ne_eqb _ _ c.if-text-eq0.false) refl
