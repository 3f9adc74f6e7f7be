-- `rehearse::play` is safe: the length of its room by a lemma, since to count it costs by its size.
use Rattle.std.proofs.Common.{ℕ, sym}
use lib.ListN.{length-replicate}
use Rattle.rehearse.proofs.play.Goals as goal

pub slice_bounds-play_in-end : goal.slice_bounds-play_in-end
slice_bounds-play_in-end g c = sym (length-replicate {A = ℕ} 262144 0)
