-- What is printed of the access decision, in words (02, request 5).
use Rattle.std.specs.Prelude.{true, List, [], ◌∷◌, ℕ, eqb}
use Rattle.base.specs.Decide.{pick}
use Rattle.forms.specs.Forms.{form_of}
use Rattle.telling.specs.declared.Why.{Why}

-- "  access: {by key #}{a tap}{free}{needs no right}{refused}{, under Read}{, under Write}{, under ReadWrite}{, under Change}
-- {, under SDMMetaRead}{, under SDMFileRead}{, under SDMCtrRet}", on one line, and its end
unfoldable pub access_form : List ℕ
access_form =
    32 ∷ 32 ∷ 97 ∷ 99 ∷ 99 ∷ 101 ∷ 115 ∷ 115 ∷ 58 ∷ 32 ∷ 123 ∷ 98 ∷ 121 ∷ 32 ∷ 107 ∷ 101 ∷ 121 ∷ 32 ∷ 35 ∷ 125 ∷ 123 ∷ 97 ∷ 32 ∷
    116 ∷ 97 ∷ 112 ∷ 125 ∷ 123 ∷ 102 ∷ 114 ∷ 101 ∷ 101 ∷ 125 ∷ 123 ∷ 110 ∷ 101 ∷ 101 ∷ 100 ∷ 115 ∷ 32 ∷ 110 ∷ 111 ∷ 32 ∷ 114 ∷
    105 ∷ 103 ∷ 104 ∷ 116 ∷ 125 ∷ 123 ∷ 114 ∷ 101 ∷ 102 ∷ 117 ∷ 115 ∷ 101 ∷ 100 ∷ 125 ∷ 123 ∷ 44 ∷ 32 ∷ 117 ∷ 110 ∷ 100 ∷ 101 ∷
    114 ∷ 32 ∷ 82 ∷ 101 ∷ 97 ∷ 100 ∷ 125 ∷ 123 ∷ 44 ∷ 32 ∷ 117 ∷ 110 ∷ 100 ∷ 101 ∷ 114 ∷ 32 ∷ 87 ∷ 114 ∷ 105 ∷ 116 ∷ 101 ∷ 125 ∷
    123 ∷ 44 ∷ 32 ∷ 117 ∷ 110 ∷ 100 ∷ 101 ∷ 114 ∷ 32 ∷ 82 ∷ 101 ∷ 97 ∷ 100 ∷ 87 ∷ 114 ∷ 105 ∷ 116 ∷ 101 ∷ 125 ∷ 123 ∷ 44 ∷ 32 ∷
    117 ∷ 110 ∷ 100 ∷ 101 ∷ 114 ∷ 32 ∷ 67 ∷ 104 ∷ 97 ∷ 110 ∷ 103 ∷ 101 ∷ 125 ∷ 123 ∷ 44 ∷ 32 ∷ 117 ∷ 110 ∷ 100 ∷ 101 ∷ 114 ∷ 32 ∷
    83 ∷ 68 ∷ 77 ∷ 77 ∷ 101 ∷ 116 ∷ 97 ∷ 82 ∷ 101 ∷ 97 ∷ 100 ∷ 125 ∷ 123 ∷ 44 ∷ 32 ∷ 117 ∷ 110 ∷ 100 ∷ 101 ∷ 114 ∷ 32 ∷ 83 ∷ 68 ∷
    77 ∷ 70 ∷ 105 ∷ 108 ∷ 101 ∷ 82 ∷ 101 ∷ 97 ∷ 100 ∷ 125 ∷ 123 ∷ 44 ∷ 32 ∷ 117 ∷ 110 ∷ 100 ∷ 101 ∷ 114 ∷ 32 ∷ 83 ∷ 68 ∷ 77 ∷ 67 ∷
    116 ∷ 114 ∷ 82 ∷ 101 ∷ 116 ∷ 125 ∷ 10 ∷ []

-- by the numbers of a journal: how (1 to 5) and under which right (1 to 7, in Table 9's order); nothing where the decision was never got to
unfoldable pub access_text : Why → List ℕ
access_text why =
    let how = why.how in
    let right = why.right in
    pick (eqb how 0) []
    (form_of true access_form (why.key ∷ [])
    (eqb how 1 ∷ eqb how 2 ∷ eqb how 3 ∷ eqb how 4 ∷ eqb how 5
    ∷ eqb right 1 ∷ eqb right 2 ∷ eqb right 3 ∷ eqb right 4 ∷ eqb right 5 ∷ eqb right 6 ∷ eqb right 7 ∷ []))
