-- `rehearse::show::tell` meets its contract.
use Rattle.forms.proofs.Laying.{tells}
use Rattle.rehearse.proofs.show.tell.Goals as goal

pub slice_bounds-room-end : goal.slice_bounds-room-end
slice_bounds-room-end g c = (tells c.lay_form-n.ensures).2.0

pub slice_bounds-write_all-end : goal.slice_bounds-write_all-end
slice_bounds-write_all-end g c = (tells c.lay_form-n.ensures).2.1
