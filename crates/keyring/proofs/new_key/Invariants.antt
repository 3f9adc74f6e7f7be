-- `keyring::new_key`: a table filled byte by byte.
use lib.Dec.{eqb}
use lib.Bits.{bit_xor}
use Rattle.base.specs.Decide.{pick}
use Rattle.base.specs.Bytes.{byte_at}
use Rattle.base.proofs.Fill.{Filled}
use Rattle.keyring.proofs.new_key.Given as goal

abbrev pub invariant-loop-i : goal.invariant-loop-i
invariant-loop-i l = Filled 0 16 (λ j. pick (eqb l.k 0) (byte_at l.p j) (bit_xor (byte_at l.p j) (byte_at l.old j))) l.new l.i
