-- `base::alike` meets its contract: the library's comparison is `same`.
use mathlib.Core.Path.{◌∙◌}
use Rattle.base.proofs.Bytes.{pointwise-same}
use Rattle.base.proofs.alike.Goals as goal

pub returns : goal.returns
returns c = c.eq.ensures ∙ pointwise-same _ _
