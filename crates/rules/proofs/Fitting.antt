-- One step of the test whether every field fits.
use mathlib.Core.Path.{◌≡◌}
use mathlib.Core.Bool.{Bool, false}
use mathlib.Core.List.{List}
use Prim.Native.Nat.{ℕ, ◌+◌, ◌<◌}
use native.Mathlib.Numerals.{add-one}
use lib.ListN.{length, get_or, drop}
use lib.Seq.{drop-cons}
use Rattle.base.specs.Decide.{and}
use Rattle.rules.specs.Rules.{field_fits, fields_fit}

pub fit-step : (ps : List Bool) (vs : List ℕ) (i : ℕ) → i < length ps → i < length vs
    → fields_fit (drop i ps) (drop i vs) ≡ and (field_fits (get_or ps i false) (get_or vs i 0)) (fields_fit (drop (i + 1) ps) (drop (i + 1) vs))
unfolding fields_fit
fit-step ps vs i h k = rw (add-one, drop-cons ps i false h, drop-cons vs i 0 k)
