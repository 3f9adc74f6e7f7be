-- `restoring::parts::pending_in` meets its contract.
use mathlib.Core.Path.{ap, ◌∙◌}
use native.Mathlib.Omega.{arith}
use Rattle.std.specs.Int.{w16, from_le_bytes}
use Rattle.base.specs.Bytes.{byte_at}
use Rattle.image.specs.Image.{flag, pending_in}
use Rattle.restoring.proofs.Counters.{two}
use Rattle.restoring.proofs.parts.pending_in.Goals as goal

pub returns : goal.returns
unfolding pending_in
returns c =
    let s = c.args.s.now in
    let l = c.requires in
    λ i. record {
      on = flag (byte_at s 0);
      first = flag (byte_at s 1);
      key = byte_at s 2;
      rnd_b = c.bytes_in-rnd_b.ensures i;
      cap = c.bytes_in-cap.ensures i;
      ti = c.bytes_in-ti.ensures i;
      counter = (c.from_le_bytes.ensures ∙ ap (from_le_bytes w16) c.bytes_in.ensures ∙ two s 29 (omega arith)) i;
    }
