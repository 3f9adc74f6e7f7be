use native.Mathlib.Omega.{arith}
use mathlib.Core.Path.{◌∙◌}
use Rattle.lines.proofs.Steps.{chars_whole}
use Rattle.forms.proofs.Laying.{writes_more, writes_as}
use Rattle.summaries.specs.Summary.{first_text, uid_of}
use Rattle.summaries.proofs.uid.Goals as goal

pub returns : goal.returns
unfolding first_text uid_of
returns c = writes_more c.append.ensures (writes_as c.append-2.ensures (c.encode.ensures ∙ chars_whole c.args.u _ (omega arith)))
