-- Where a byte next stands in a text: the end of a line (10) or of a word (32).
use Rattle.std.specs.Prelude.{List, [], ◌∷◌, ℕ, suc, ◌+◌, eqb, drop}
use Rattle.base.specs.Decide.{pick}

-- how many numbers stand before the first b, all of them where there is none
unfoldable pub before : ℕ → List ℕ → ℕ
before b [] = 0
before b (x ∷ xs) = pick (eqb x b) 0 (suc (before b xs))

-- the first place of b from i on, or the end
unfoldable pub seek : List ℕ → ℕ → ℕ → ℕ
seek s i b = i + before b (drop i s)
