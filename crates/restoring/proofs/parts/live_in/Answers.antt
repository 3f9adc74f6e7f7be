-- `restoring::parts::live_in` meets its contract.
use mathlib.Core.Path.{ap, ◌∙◌}
use native.Mathlib.Omega.{arith}
use Rattle.std.specs.Int.{w16, from_le_bytes}
use Rattle.base.specs.Bytes.{byte_at}
use Rattle.image.specs.Image.{flag, live_in}
use Rattle.restoring.proofs.Counters.{two}
use Rattle.restoring.proofs.parts.live_in.Goals as goal

pub returns : goal.returns
unfolding live_in
returns c =
    let s = c.args.s.now in
    let l = c.requires in
    λ i. record {
      on = flag (byte_at s 0);
      key = byte_at s 1;
      enc = c.bytes_in-enc.ensures i;
      mac = c.bytes_in-mac.ensures i;
      ti = c.bytes_in-ti.ensures i;
      counter = (c.from_le_bytes.ensures ∙ ap (from_le_bytes w16) c.bytes_in.ensures ∙ two s 38 (omega arith)) i;
    }
