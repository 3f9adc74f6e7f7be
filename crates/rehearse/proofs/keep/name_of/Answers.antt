-- `rehearse::keep::name_of` meets its contract: the form lies inside its room.
use Rattle.forms.proofs.Laying.{tells}
use Rattle.rehearse.proofs.keep.name_of.Goals as goal

pub slice_bounds-p-end : goal.slice_bounds-p-end
slice_bounds-p-end g c = (tells c.lay_form-n.ensures).2.0

pub slice_bounds-read_link-end : goal.slice_bounds-read_link-end
slice_bounds-read_link-end g c = (tells c.lay_form-n.ensures).2.1
