-- What is printed of the cipher work of a call (02, request 10).
use Rattle.std.specs.Prelude.{true, List, [], ◌∷◌, ℕ}
use Rattle.forms.specs.Forms.{form_of}

-- "  blocks: #", and the end of the line
unfoldable pub blocks_form : List ℕ
blocks_form = 32 ∷ 32 ∷ 98 ∷ 108 ∷ 111 ∷ 99 ∷ 107 ∷ 115 ∷ 58 ∷ 32 ∷ 35 ∷ 10 ∷ []

-- how many AES blocks were computed, also where it is none
unfoldable pub blocks_text : ℕ → List ℕ
blocks_text blocks = form_of true blocks_form (blocks ∷ []) (true ∷ [])
