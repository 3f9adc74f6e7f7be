use Prim.Native.Nat.{◌-◌}
use Rattle.aes.proofs.Rounds.{Forth}
use Rattle.aes.proofs.block.encrypt_with.Given as goal

-- `aes::block::encrypt_with` meets its contract: each turn is one round of the definition.
abbrev pub invariant-loop-i : goal.invariant-loop-i
invariant-loop-i l = Forth l.t l.w l.initial.x l.x (l.i - 1)
