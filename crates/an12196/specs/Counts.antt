-- How many values were compared, and how many differ.
use Rattle.std.specs.Prelude.{Bool, ◌+◌, ◌%◌}
use Rattle.base.specs.Decide.{pick}
use Rattle.an12196.specs.declared.tally.Tally.{Tally}

-- one more value, right or not; the counts stay below a million
abbrev pub counted_of : Tally → Bool → Tally
counted_of t right =
    record { values = t.values % 1000000 + 1; differ = pick right t.differ (t.differ % 1000000 + 1) }
