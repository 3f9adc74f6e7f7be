use mathlib.Core.Path.{◌≡◌}
use Prim.Native.Nat.{◌-◌, ◌*◌, ◌/◌}
use lib.ListN.{length}
use Rattle.cbc.specs.Cbc.{sealed}
use Rattle.cbc.proofs.Turns.{Still}
use Rattle.cbc.proofs.cbc_encrypt.Given as goal

-- `cbc::cbc_encrypt` meets its contract: each turn lays one block in its place, and is counted.
abbrev pub invariant-loop-i : goal.invariant-loop-i
invariant-loop-i l =
    record {
      still : Still (sealed l.w) (sealed l.w) (length l.initial.buf / 16) l.initial.v l.initial.buf l.buf l.v (l.i * 16) (length l.initial.buf / 16 - l.i);
      cost : l.cost ≡ l.i;
    }
