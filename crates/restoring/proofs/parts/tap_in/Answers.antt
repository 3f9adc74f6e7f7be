-- `restoring::parts::tap_in` meets its contract.
use mathlib.Core.Path.{ap, ◌∙◌}
use native.Mathlib.Omega.{arith}
use Rattle.std.specs.Int.{w32, from_le_bytes}
use Rattle.base.specs.Bytes.{byte_at}
use Rattle.image.specs.Image.{flag, tap_in}
use Rattle.restoring.proofs.Counters.{four}
use Rattle.restoring.proofs.parts.tap_in.Goals as goal

pub returns : goal.returns
unfolding tap_in
returns c =
    let s = c.args.s.now in
    let l = c.requires in
    λ i. record {
      on = flag (byte_at s 0);
      iso = flag (byte_at s 1);
      counter = (c.from_le_bytes.ensures ∙ ap (from_le_bytes w32) c.bytes_in.ensures ∙ four s 2 (omega arith)) i;
      padding = c.bytes_in-padding.ensures i;
    }
