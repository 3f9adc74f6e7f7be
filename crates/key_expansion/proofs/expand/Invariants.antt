use mathlib.Core.Path.{◌≡◌}
use mathlib.Core.List.{[]}
use Prim.Native.Nat.{◌-◌}
use Rattle.base.proofs.Fill.{Filled}
use Rattle.key_expansion.specs.Keys.{rcon, round_words}
use Rattle.words.specs.Words.{block_of}
use Rattle.key_expansion.proofs.expand.Given as goal

-- `key_expansion::expand` meets its contract: each turn makes the next round key, as the standard's words give it.
abbrev pub invariant-loop-i : goal.invariant-loop-i
invariant-loop-i l =
    record {
      rc : l.rc ≡ rcon l.i;
      key : block_of l.k ≡ round_words (block_of l.initial.k) (l.i - 1);
      keys : Filled [] 11 (round_words (block_of l.initial.k)) l.w l.i;
    }
