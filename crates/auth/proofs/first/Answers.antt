-- `auth::first` meets its contract.
use mathlib.Core.Path.{sym}
use Rattle.auth.proofs.Accepted.{first_lengths}
use Rattle.auth.proofs.first.Goals as goal

pub cap_of-cap-requires : goal.cap_of-cap-requires
cap_of-cap-requires c = first_lengths c.args.x.now c.args.tag.place.application (sym c.in_default.ensures)
