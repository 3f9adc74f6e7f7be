-- The two tables of words, at each entry.
use mathlib.Core.Path.{◌≡◌}
use Prim.Native.Nat.{ℕ, ◌<◌}
use Rattle.base.specs.Bytes.{byte_at}
use Rattle.base.proofs.Bytes.{tab_at}
use Rattle.sbox.specs.Words.{mixes, mixing_table, unmixes, unmixing_table}

pub mixing_at : (x : ℕ) → x < 256 → byte_at mixing_table x ≡ mixes x
unfolding mixing_table
mixing_at x h = tab_at 0 256 mixes x h

pub unmixing_at : (x : ℕ) → x < 256 → byte_at unmixing_table x ≡ unmixes x
unfolding unmixing_table
unmixing_at x h = tab_at 0 256 unmixes x h
