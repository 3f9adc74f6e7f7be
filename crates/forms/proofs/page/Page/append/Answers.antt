use mathlib.Core.Path.{refl}
use Rattle.forms.proofs.Laying.{lays_out}
use Rattle.forms.proofs.page.Page.append.Goals as goal

pub returns-then-self : goal.returns-then-self
returns-then-self c = record { laid = lays_out c.args.s.now _ _ c.if-self.true; same_room = refl }
