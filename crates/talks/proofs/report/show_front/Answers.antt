-- `talks::report::show_front` meets its contract: the digits lie inside the room.
use native.Mathlib.Omega.{arith}
use lib.ListN.{length-take}
use Rattle.talks.proofs.report.show_front.Goals as goal

pub slice_bounds-write_all-end : goal.slice_bounds-write_all-end
slice_bounds-write_all-end g c = simp length-take (omega arith)
