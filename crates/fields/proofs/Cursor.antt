-- One step of the cursor over the fields from index i on.
use mathlib.Core.Path.{◌≡◌}
use mathlib.Core.Bool.{Bool, false}
use mathlib.Core.List.{List, [], ◌∷◌, ◌++◌, append_assoc}
use Prim.Native.Nat.{ℕ, ◌+◌, ◌<◌}
use native.Mathlib.Numerals.{add-one}
use lib.ListN.{length, get_or, take, drop, set}
use lib.Seq.{drop-cons, take-suc-set}
use Rattle.base.specs.Decide.{pick}
use Rattle.fields.specs.Fields.{after, three, fields, ends}

pub fields-step : (s : List ℕ) (ps : List Bool) (i at : ℕ) → i < length ps
    → fields s at (drop i ps) ≡ pick (get_or ps i false) (three s at) 0 ∷ fields s (after at (get_or ps i false)) (drop (i + 1) ps)
unfolding fields
fields-step s ps i at h = rw (add-one, drop-cons ps i false h)

pub ends-step : (ps : List Bool) (i at : ℕ) → i < length ps
    → ends at (drop i ps) ≡ ends (after at (get_or ps i false)) (drop (i + 1) ps)
unfolding ends
ends-step ps i at h = rw (add-one, drop-cons ps i false h)

-- a value stored at the end of what was read
pub read_more : (read rest : List ℕ) (i v : ℕ) → i < length read → take (i + 1) (set read i v) ++ rest ≡ take i read ++ (v ∷ rest)
read_more read rest i v h = rw (add-one, take-suc-set read i v h) (append_assoc (take i read) (v ∷ []) rest)
