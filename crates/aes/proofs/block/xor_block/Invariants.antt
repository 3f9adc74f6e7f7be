use Rattle.base.specs.Bytes.{byte_at}
use Rattle.base.proofs.Fill.{Filled}
use Rattle.sbox.specs.Field.{◌⊕◌}
use Rattle.aes.proofs.block.xor_block.Given as goal

-- `aes::block::xor_block` meets its contract: a table filled byte by byte.
abbrev pub invariant-loop-i : goal.invariant-loop-i
invariant-loop-i l = Filled 0 16 (λ j. byte_at l.a j ⊕ byte_at l.b j) l.r l.i
