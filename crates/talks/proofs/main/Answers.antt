-- `talks::main` is safe: the length of its room by a lemma, since to count it costs by its size.
use Rattle.std.proofs.Common.{ℕ, sym}
use lib.ListN.{length-replicate}
use Rattle.talks.proofs.main.Goals as goal

pub slice_bounds-read_into-end : goal.slice_bounds-read_into-end
slice_bounds-read_into-end c = sym (length-replicate {A = ℕ} 524289 0)
