-- The padding is a piece behind the text.
use Rattle.padding.proofs.Unpadding.{pads_copied, pads_not}
use Rattle.padding.specs.Padding.{padded_length}
use native.Mathlib.Omega.{arith}
use Rattle.padding.proofs.pad.Goals as goal

pub returns-then-room-n : goal.returns-then-room-n
unfolding padded_length
returns-then-room-n c = pads_not c.args.n c.args.room.now (omega arith)

pub returns : goal.returns
returns c = pads_copied c.args.n c.args.room.now _ (omega arith) c.copy_from_slice.ensures.after
