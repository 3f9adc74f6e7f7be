use mathlib.Core.Path.{sym, ◌∙◌}
use Rattle.std.proofs.Common.{rules}
use Rattle.std.specs.Prelude.{is_none}
use Rattle.std.proofs.lemmas.Iterator.{YieldsList-from_slice}
use Rattle.std.proofs.lemmas.Iterator.Search.{any_from_yields_List}
use Rattle.lines.specs.Hex.{digit_of}
use Rattle.plans.proofs.Long.{stray_any}
use Rattle.plans.proofs.parts.stray.Goals as goal

pub returns : goal.returns
returns c =
    any_from_yields_List (λ x. is_none (digit_of x)) _ _ _ c.any.ensures.ran (YieldsList-from_slice c.args.s.now cc) (λ x b q k. search rules)
    ∙ sym (stray_any c.args.s.now)
