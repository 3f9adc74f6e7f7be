use mathlib.Core.Path.{◌≡◌}
use Prim.Native.Nat.{◌+◌, ◌-◌, ◌*◌}
use lib.ListN.{length, drop}
use Rattle.cmac.specs.Cmac.{blocks_of}
use Rattle.cmac.proofs.Macs.{from}
use Rattle.cmac.proofs.cmac_of.Given as goal

-- `cmac::cmac_of` meets its contract: the CMAC of what is left stays the CMAC of the whole, and so does the number of its blocks.
abbrev pub invariant-loop-i : goal.invariant-loop-i
invariant-loop-i l =
    record {
      mac : from l.w l.v (drop (l.i * 16) l.s) ≡ from l.w l.initial.v l.s;
      cost : l.cost ≡ l.i;
      blocks : l.i + blocks_of (length l.s - l.i * 16) ≡ blocks_of (length l.s);
    }
