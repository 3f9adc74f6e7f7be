-- What is printed of a line of a plan: nothing where it is blank, why it is skipped, or its exchange.
use Rattle.std.specs.Prelude.{Bool, true, Result, Ok, Err, List, [], ◌∷◌, ◌++◌, ℕ, eqb, take}
use Rattle.base.specs.Decide.{pick}
use Rattle.plans.specs.declared.Meaning.{Meaning}
use Rattle.plans.specs.declared.Meaning.TheVariants.{Blank, Drawn, Given}
use Rattle.plans.specs.declared.Reason.{Reason}
use Rattle.plans.specs.Numbers.{reason_number}
use Rattle.forms.specs.Forms.{form_of}
use Rattle.telling.specs.declared.Why.{Why}
use Rattle.telling.specs.Exchanges.{exchange_of, unlike_of}
use Rattle.telling.specs.Decision.{access_text}
use Rattle.telling.specs.Work.{blocks_text}

-- "line #: {no command before '/' or '='}{a character that is no hexadecimal digit}{an odd number of digits}{more than 512 bytes}
-- {behind '/' there must be 20 bytes, 40 digits}{behind '=' there must be 1 to 258 bytes, two digits each, and it comes last}
-- {the machine gives no random bytes}; skipped", on one line, and its end
unfoldable pub skipped_form : List ℕ
skipped_form =
    108 ∷ 105 ∷ 110 ∷ 101 ∷ 32 ∷ 35 ∷ 58 ∷ 32 ∷ 123 ∷ 110 ∷ 111 ∷ 32 ∷ 99 ∷ 111 ∷ 109 ∷ 109 ∷ 97 ∷ 110 ∷ 100 ∷ 32 ∷ 98 ∷ 101 ∷ 102 ∷
    111 ∷ 114 ∷ 101 ∷ 32 ∷ 39 ∷ 47 ∷ 39 ∷ 32 ∷ 111 ∷ 114 ∷ 32 ∷ 39 ∷ 61 ∷ 39 ∷ 125 ∷ 123 ∷ 97 ∷ 32 ∷ 99 ∷ 104 ∷ 97 ∷ 114 ∷ 97 ∷ 99 ∷
    116 ∷ 101 ∷ 114 ∷ 32 ∷ 116 ∷ 104 ∷ 97 ∷ 116 ∷ 32 ∷ 105 ∷ 115 ∷ 32 ∷ 110 ∷ 111 ∷ 32 ∷ 104 ∷ 101 ∷ 120 ∷ 97 ∷ 100 ∷ 101 ∷ 99 ∷ 105 ∷
    109 ∷ 97 ∷ 108 ∷ 32 ∷ 100 ∷ 105 ∷ 103 ∷ 105 ∷ 116 ∷ 125 ∷ 123 ∷ 97 ∷ 110 ∷ 32 ∷ 111 ∷ 100 ∷ 100 ∷ 32 ∷ 110 ∷ 117 ∷ 109 ∷ 98 ∷ 101
    ∷ 114 ∷ 32 ∷ 111 ∷ 102 ∷ 32 ∷ 100 ∷ 105 ∷ 103 ∷ 105 ∷ 116 ∷ 115 ∷ 125 ∷ 123 ∷ 109 ∷ 111 ∷ 114 ∷ 101 ∷ 32 ∷ 116 ∷ 104 ∷ 97 ∷ 110 ∷
    32 ∷ 53 ∷ 49 ∷ 50 ∷ 32 ∷ 98 ∷ 121 ∷ 116 ∷ 101 ∷ 115 ∷ 125 ∷ 123 ∷ 98 ∷ 101 ∷ 104 ∷ 105 ∷ 110 ∷ 100 ∷ 32 ∷ 39 ∷ 47 ∷ 39 ∷ 32 ∷ 116
    ∷ 104 ∷ 101 ∷ 114 ∷ 101 ∷ 32 ∷ 109 ∷ 117 ∷ 115 ∷ 116 ∷ 32 ∷ 98 ∷ 101 ∷ 32 ∷ 50 ∷ 48 ∷ 32 ∷ 98 ∷ 121 ∷ 116 ∷ 101 ∷ 115 ∷ 44 ∷ 32 ∷
    52 ∷ 48 ∷ 32 ∷ 100 ∷ 105 ∷ 103 ∷ 105 ∷ 116 ∷ 115 ∷ 125 ∷ 123 ∷ 98 ∷ 101 ∷ 104 ∷ 105 ∷ 110 ∷ 100 ∷ 32 ∷ 39 ∷ 61 ∷ 39 ∷ 32 ∷ 116 ∷
    104 ∷ 101 ∷ 114 ∷ 101 ∷ 32 ∷ 109 ∷ 117 ∷ 115 ∷ 116 ∷ 32 ∷ 98 ∷ 101 ∷ 32 ∷ 49 ∷ 32 ∷ 116 ∷ 111 ∷ 32 ∷ 50 ∷ 53 ∷ 56 ∷ 32 ∷ 98 ∷ 121
    ∷ 116 ∷ 101 ∷ 115 ∷ 44 ∷ 32 ∷ 116 ∷ 119 ∷ 111 ∷ 32 ∷ 100 ∷ 105 ∷ 103 ∷ 105 ∷ 116 ∷ 115 ∷ 32 ∷ 101 ∷ 97 ∷ 99 ∷ 104 ∷ 44 ∷ 32 ∷ 97 ∷
    110 ∷ 100 ∷ 32 ∷ 105 ∷ 116 ∷ 32 ∷ 99 ∷ 111 ∷ 109 ∷ 101 ∷ 115 ∷ 32 ∷ 108 ∷ 97 ∷ 115 ∷ 116 ∷ 125 ∷ 123 ∷ 116 ∷ 104 ∷ 101 ∷ 32 ∷ 109
    ∷ 97 ∷ 99 ∷ 104 ∷ 105 ∷ 110 ∷ 101 ∷ 32 ∷ 103 ∷ 105 ∷ 118 ∷ 101 ∷ 115 ∷ 32 ∷ 110 ∷ 111 ∷ 32 ∷ 114 ∷ 97 ∷ 110 ∷ 100 ∷ 111 ∷ 109 ∷ 32
    ∷ 98 ∷ 121 ∷ 116 ∷ 101 ∷ 115 ∷ 125 ∷ 59 ∷ 32 ∷ 115 ∷ 107 ∷ 105 ∷ 112 ∷ 112 ∷ 101 ∷ 100 ∷ 10 ∷ []

-- by the reason's number; 7 where the machine gives no random bytes
unfoldable pub skipped_text : ℕ → ℕ → List ℕ
skipped_text number reason =
    form_of true skipped_form (number ∷ []) (eqb reason 1 ∷ eqb reason 2 ∷ eqb reason 3 ∷ eqb reason 4 ∷ eqb reason 5 ∷ eqb reason 6 ∷ eqb reason 7 ∷ [])

-- an exchange, how its command was granted, the AES blocks that it took, and what was expected where the reply was not that
unfoldable pub played_text : ℕ → List ℕ → List ℕ → Why → ℕ → List ℕ → Bool → List ℕ
played_text number command reply why blocks expected unmet =
    exchange_of number command reply ++ access_text why ++ blocks_text blocks ++ pick unmet (unlike_of expected) []

-- a line with this number: its command is the first n bytes of c
unfoldable pub line_text : ℕ → Result Meaning Reason → List ℕ → List ℕ → Why → ℕ → List ℕ → Bool → Bool → List ℕ
line_text number (Ok Blank) c reply why blocks expected undrawn unmet = []
line_text number (Err r) c reply why blocks expected undrawn unmet = skipped_text number (reason_number r)
line_text number (Ok (Drawn n)) c reply why blocks expected undrawn unmet =
    pick undrawn (skipped_text number 7) (played_text number (take n c) reply why blocks expected unmet)
line_text number (Ok (Given n)) c reply why blocks expected undrawn unmet = played_text number (take n c) reply why blocks expected unmet
