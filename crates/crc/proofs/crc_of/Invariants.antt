use mathlib.Core.Path.{◌≡◌}
use lib.ListN.{drop}
use Rattle.crc.specs.Crc.{crc_bytes}
use Rattle.crc.proofs.crc_of.Given as goal

-- `crc::crc_of` meets its contract: what is still to do is the whole.
abbrev pub invariant-loop-b : goal.invariant-loop-b
invariant-loop-b l = crc_bytes l.c (drop l.b-index l.s) ≡ crc_bytes l.initial.c l.s
