-- How many lines of a plan did what, and how many AES blocks they took.
use Rattle.std.specs.Prelude.{Bool, ℕ, ◌+◌, eqb, leb, Option, None, Some}
use Rattle.base.specs.Decide.{pick}
use Rattle.tallies.specs.declared.Went.{Went}
use Rattle.tallies.specs.declared.Tally.{Tally}

-- so many more; a count ends at 2 ^ 64 - 1
unfoldable pub sum_by : ℕ → ℕ → ℕ
sum_by n k = pick (leb (n + k) 18446744073709551615) (n + k) 18446744073709551615

-- one more where it is so
unfoldable pub more_by : ℕ → Bool → ℕ
more_by n so = pick so (sum_by n 1) n

-- the first line that was not as expected
unfoldable pub first_by : Option ℕ → ℕ → Bool → ℕ → Option ℕ
first_by first unmet so number = pick so (pick (eqb unmet 0) (Some number) first) first

-- a line more, with its number
unfoldable pub counted_by : Tally → ℕ → Went → Tally
counted_by n number w =
    record {
      exchanges = more_by n.exchanges w.played;
      refused = more_by n.refused w.refused;
      skipped = more_by n.skipped w.skipped;
      undrawn = more_by n.undrawn w.undrawn;
      expecting = more_by n.expecting w.expecting;
      unmet = more_by n.unmet w.unmet;
      first = first_by n.first n.unmet w.unmet number;
      blocks = sum_by n.blocks w.blocks;
    }

unfoldable pub no_tally : Tally
no_tally = record { exchanges = 0; refused = 0; skipped = 0; undrawn = 0; expecting = 0; unmet = 0; first = None; blocks = 0 }
