-- One step of the search for two spans that share a byte.
use mathlib.Core.Path.{◌≡◌}
use mathlib.Core.List.{List}
use Prim.Native.Nat.{ℕ, ◌+◌, ◌-◌, ◌≤◌, ◌<◌}
use native.Mathlib.Numerals.{add-one}
use native.Mathlib.Omega.{arith}
use lib.ListN.{length, get_or, take, drop}
use lib.Seq.{drop-cons}
use Rattle.std.proofs.lemmas.List.{take_all, length-drop}
use Rattle.base.specs.Decide.{and}
use Rattle.spans.specs.declared.Span.{Span}
use Rattle.spans.specs.Spans.{apart, apart_from, all_apart}

pub from_step : (a d : Span) (s : List Span) (j : ℕ) → j < length s
    → apart_from a (drop j s) ≡ and (apart a (get_or s j d)) (apart_from a (drop (j + 1) s))
unfolding apart_from
from_step a d s j h = rw (add-one, drop-cons s j d h)

-- the spans behind the i-th, as the code takes them
pub all_step : (d : Span) (s : List Span) (i n : ℕ) → i < length s → length s ≤ n
    → all_apart (drop i s) ≡ and (apart_from (get_or s i d) (take (n - (i + 1)) (drop (i + 1) s))) (all_apart (drop (i + 1) s))
unfolding all_apart
all_step d s i n h k = rw (take_all (n - (i + 1)) (drop (i + 1) s) (omega (arith, length-drop (i + 1) s)), add-one, drop-cons s i d h)
