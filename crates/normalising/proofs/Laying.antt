-- What is laid at the front of a room, and a byte of it adjusted.
use mathlib.Core.Path.{◌≡◌, ◌∙◌}
use mathlib.Core.List.{List, ◌++◌}
use Prim.Native.Nat.{ℕ, ◌+◌, ◌≤◌, ◌<◌}
use native.Mathlib.Nat.{zero-add}
use lib.Dec.{ltb}
use lib.ListN.{length, take, drop, set}
use lib.Seq.{set-append_left, set_out}
use borrow.Author.Tests.{le-leb, lt-ltb, le-ltb}
use mathlib.Core.Logic.{⊎_elim}
use Rattle.base.specs.Decide.{pick}
use Rattle.base.specs.Bytes.{laid, over}
use Rattle.base.proofs.Bytes.{le_or_lt}

pub laid_is : (s : List ℕ) (i : ℕ) (d : List ℕ) → i + length s ≤ length d → laid s i d ≡ take i d ++ s ++ drop (i + length s) d
unfolding laid
laid_is s i d h = rw (le-leb (i + length s) (length d) h)

-- at the front
pub laid-front : (s d : List ℕ) → length s ≤ length d → laid s 0 d ≡ over s d
laid-front s d h = laid_is s 0 d (rw zero-add h) ∙ rw zero-add

-- a byte of what stands at the front, adjusted
pub adjusted : (s d : List ℕ) (i v : ℕ) → pick (ltb i (length s)) (set (over s d) i v) (over s d) ≡ over (set s i v) d
adjusted s d i v =
    ⊎_elim
    (λ (h : length s ≤ i). rw (le-ltb i (length s) h, set_out s i v h))
    (λ (h : i < length s). rw (lt-ltb i (length s) h, set-append_left s (drop (length s) d) i v h, lib.ListN.length-set s i v))
    (le_or_lt (length s) i)
