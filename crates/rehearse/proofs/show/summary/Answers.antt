-- `rehearse::show::summary` meets its contract.
use Rattle.forms.proofs.Laying.{tells}
use Rattle.rehearse.proofs.show.summary.Goals as goal

pub slice_bounds-room-end : goal.slice_bounds-room-end
slice_bounds-room-end g c = (tells c.summary-n.ensures).2.0

pub slice_bounds-write_all-end : goal.slice_bounds-write_all-end
slice_bounds-write_all-end g c = (tells c.summary-n.ensures).2.1
