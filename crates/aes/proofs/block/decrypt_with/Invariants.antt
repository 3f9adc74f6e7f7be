use Prim.Native.Nat.{◌-◌}
use Rattle.aes.proofs.Rounds.{Back}
use Rattle.aes.proofs.block.decrypt_with.Given as goal

-- `aes::block::decrypt_with` meets its contract: each turn is one round back of the definition.
abbrev pub invariant-loop-i : goal.invariant-loop-i
invariant-loop-i l = Back l.v l.u l.w l.initial.x l.x (l.i - 1)
