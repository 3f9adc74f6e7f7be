-- `sbox::unmixing` meets its contract: the constant is what the rule gives, computed over the whole table. Twice, four and
use mathlib.Core.Path.{◌≡◌, refl, ◌∙◌}
use Prim.Native.Nat.{ℕ}
use Rattle.base.proofs.Bytes.{tab_ext}
use Rattle.sbox.specs.Field.{◌⊕◌, xtime}
use Rattle.sbox.specs.Words.{packed, unmixes, unmixing_table}
use Rattle.sbox.proofs.Linear.{times_9, times_11, times_13, times_14}
use Rattle.sbox.proofs.unmixing.Goals as goal

-- `sbox::unmixing` meets its contract: the constant is what the rule gives, computed over the whole table. Twice, four and
-- eight times a byte are computed once for all four products.
abbrev by_8 : ℕ → ℕ → ℕ → ℕ → ℕ
by_8 x two four eight = packed (eight ⊕ four ⊕ two) (eight ⊕ x) (eight ⊕ four ⊕ x) (eight ⊕ two ⊕ x)

abbrev by_4 : ℕ → ℕ → ℕ → ℕ
by_4 x two four = by_8 x two four (xtime four)

abbrev by_2 : ℕ → ℕ → ℕ
by_2 x two = by_4 x two (xtime two)

abbrev doublings : ℕ → ℕ
doublings x = by_2 x (xtime x)

doublings_is : (x : ℕ) → doublings x ≡ unmixes x
doublings_is x = rw (times_9 x, times_11 x, times_13 x, times_14 x) refl

pub returns : goal.returns
unfolding xtime unmixing_table
returns c = refl ∙ tab_ext 256 doublings unmixes doublings_is
