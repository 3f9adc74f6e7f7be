-- `sbox::mixing` meets its contract: the constant is what the rule gives, computed over the whole table. One walk along the
use mathlib.Core.Path.{◌≡◌, refl, sym, ap, ap₂, ◌∙◌}
use mathlib.Core.List.{List, [], ◌∷◌}
use Prim.Native.Nat.{ℕ}
use lib.ListN.{length}
use Rattle.base.specs.Bytes.{byte_at, tab}
use Rattle.base.proofs.Bytes.{tab_ext}
use Rattle.sbox.specs.Field.{◌⊕◌, xtime}
use Rattle.sbox.specs.Tables.{sbox}
use Rattle.sbox.specs.Words.{packed, mixes, mixing_table}
use Rattle.sbox.proofs.Linear.{times_2, times_3}
use Rattle.sbox.proofs.mixing.Goals as goal

-- `sbox::mixing` meets its contract: the constant is what the rule gives, computed over the whole table. One walk along the
-- S-box, with twice each entry computed once.
abbrev by_2 : ℕ → ℕ → ℕ
by_2 y two = packed two y y (two ⊕ y)

abbrev words : List ℕ → List ℕ
words [] = []
words (y ∷ ys) = by_2 y (xtime y) ∷ words ys

words_are : (s : List ℕ) → words s ≡ tab (length s) (λ i. by_2 (byte_at s i) (xtime (byte_at s i)))
words_are [] = refl
words_are (y ∷ ys) = ap (λ l. by_2 y (xtime y) ∷ l) (words_are ys)

mixes_is : (x : ℕ) → by_2 (byte_at sbox x) (xtime (byte_at sbox x)) ≡ mixes x
mixes_is x = sym (ap₂ (λ (p q : ℕ). packed p (byte_at sbox x) (byte_at sbox x) q) (times_2 (byte_at sbox x)) (times_3 (byte_at sbox x)))

entries : words sbox ≡ mixing_table
unfolding mixing_table sbox
entries = words_are sbox ∙ tab_ext 256 (λ x. by_2 (byte_at sbox x) (xtime (byte_at sbox x))) mixes mixes_is

pub returns : goal.returns
unfolding xtime sbox
returns c = refl ∙ entries
