-- FIPS 197, 5.2: what the theorems ask of round keys.
use Rattle.std.specs.Prelude.{List, ℕ, ◌<◌}
use Rattle.aes.specs.Block.{IsBlock, round_key}

-- eleven round keys, each a block
pub record IsKeys (w : List (List ℕ)) : Type 0 where
  pub each : (i : ℕ) → i < 11 → IsBlock (round_key w i)
