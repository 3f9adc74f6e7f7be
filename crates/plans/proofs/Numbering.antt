-- The number of what a line means, case by case.
use mathlib.Core.Path.{◌≡◌, refl, ap, ap₂, ◌∙◌}
use mathlib.Core.Bool.{Bool, true, false}
use mathlib.Core.List.{List}
use Prim.Native.Nat.{ℕ, ◌+◌}
use lib.Dec.{eqb, leb, ltb}
use lib.ListN.{length}
use Rattle.base.specs.Decide.{pick}
use Rattle.lines.specs.Hex.{decoded}
use Rattle.lines.specs.declared.DecodeError.{DecodeError}
use Rattle.lines.specs.declared.DecodeError.TheVariants.{NotHex, RoomTooSmall}
use Rattle.first_lines.specs.Said.{said, good_bytes}
use Rattle.plans.specs.declared.Reason.{Reason}
use Rattle.plans.specs.declared.Reason.TheVariants.{NoCommand, Stray, OddDigits, TooLong, BadRandom, BadExpected}
use Rattle.plans.specs.declared.Line.{Line}
use Rattle.plans.specs.declared.Meaning.{Meaning}
use Rattle.plans.specs.declared.Meaning.TheVariants.{Blank, Drawn, Given}
use Rattle.std.specs.Prelude.{Result, Ok, Err}
use Rattle.plans.specs.Plan.{stray_in, as_digits, digits_of, slash, front, back, drawn_by, given_by, meaning_of, plain_line, expecting_by}
use Rattle.plans.specs.Plan.{equals, asked, awaited, line_of, line_command, line_random, line_expected}
use Rattle.plans.specs.Numbers.{reason_number, meaning_number, line_number, digits_number, decoded_case, digits_case, unless_wrong, meaning_case, expecting_case, line_case, Means}

-- ---- digits
digits_by : (none stray : Bool) (d : Result ℕ DecodeError)
    → digits_number (pick none (Err NoCommand) (pick stray (Err Stray) (as_digits d))) ≡ pick none 1 (pick stray 2 (decoded_case d))
unfolding digits_number reason_number
digits_by true stray d = refl
digits_by false true d = refl
digits_by false false (Ok n) = refl
digits_by false false (Err NotHex) = refl
digits_by false false (Err RoomTooSmall) = refl

digits_number_lem : (s room : List ℕ) → digits_number (digits_of s room) ≡ digits_case s room
unfolding digits_of digits_case
digits_number_lem s room = digits_by (eqb (length s) 0) (stray_in s) (decoded s room)

-- ---- what stands before '='
wrong_number : (r : Reason) (n : ℕ) → 10 + reason_number r ≡ unless_wrong (reason_number r) n
unfolding reason_number
wrong_number NoCommand n = refl
wrong_number Stray n = refl
wrong_number OddDigits n = refl
wrong_number TooLong n = refl
wrong_number BadRandom n = refl
wrong_number BadExpected n = refl

-- what stands before '=', by its number
abbrev asked_number : Result Meaning Reason → ℕ
asked_number (Ok m) = meaning_number m
asked_number (Err r) = 10 + reason_number r

drawn_number : (d : Result ℕ Reason) → asked_number (drawn_by d) ≡ unless_wrong (digits_number d) 1
unfolding digits_number
drawn_number (Ok n) = refl
drawn_number (Err r) = wrong_number r 1

given-number : (good : Bool) (d : Result ℕ Reason) → asked_number (given_by good d) ≡ unless_wrong (digits_number d) (pick good 2 15)
unfolding digits_number reason_number
given-number true (Ok n) = refl
given-number false (Ok n) = refl
given-number good (Err r) = wrong_number r (pick good 2 15)

meaning_by : (none both : Bool) (m n : Result Meaning Reason)
    → asked_number (pick none (Ok Blank) (pick both m n)) ≡ pick none 0 (pick both (asked_number m) (asked_number n))
meaning_by true both m n = refl
meaning_by false true m n = refl
meaning_by false false m n = refl

meaning_number_lem : (s c x : List ℕ) → asked_number (meaning_of s c x) ≡ meaning_case s c x
unfolding meaning_of meaning_case
meaning_number_lem s c x =
    let g = good_bytes (length x) (back s) in
    let with-random = given-number g (digits_of (front s) c) ∙ ap (λ d. unless_wrong d (pick g 2 15)) (digits_number_lem (front s) c) in
    let alone = drawn_number (digits_of s c) ∙ ap (λ d. unless_wrong d 1) (digits_number_lem s c) in
    meaning_by (eqb (length s) 0) (ltb (slash s) (length s)) (given_by g (digits_of (front s) c)) (drawn_by (digits_of s c))
    ∙ (λ i. pick (eqb (length s) 0) 0 (pick (ltb (slash s) (length s)) (with-random i) (alone i)))

-- ---- a line
bad_number : (r : Reason) (d : ℕ) → 10 + reason_number r ≡ expecting_case (10 + reason_number r) d
unfolding expecting_case reason_number
bad_number NoCommand d = refl
bad_number Stray d = refl
bad_number OddDigits d = refl
bad_number TooLong d = refl
bad_number BadRandom d = refl
bad_number BadExpected d = refl

unmet-number : (r : Reason) (m : ℕ) → 16 ≡ pick (eqb (reason_number r) 0) m 16
unfolding reason_number
unmet-number NoCommand m = refl
unmet-number Stray m = refl
unmet-number OddDigits m = refl
unmet-number TooLong m = refl
unmet-number BadRandom m = refl
unmet-number BadExpected m = refl

expecting_number : (m : Result Meaning Reason) (d : Result ℕ Reason) → line_number (expecting_by m d) ≡ expecting_case (asked_number m) (digits_number d)
unfolding expecting_case line_number digits_number reason_number
expecting_number (Ok Blank) d = refl
expecting_number (Err r) d = bad_number r (digits_number d)
expecting_number (Ok (Drawn n)) (Ok k) = refl
expecting_number (Ok (Drawn n)) (Err r) = unmet-number r 1
expecting_number (Ok (Given n)) (Ok k) = refl
expecting_number (Ok (Given n)) (Err r) = unmet-number r 2

plain_number : (m : Result Meaning Reason) → line_number (plain_line m) ≡ asked_number m
unfolding line_number
plain_number (Ok m) = refl
plain_number (Err r) = refl

line_by : (long expects : Bool) (l : Result Line Reason) (m : Result Meaning Reason)
    → line_number (pick long (Err TooLong) (pick expects l (plain_line m)))
    ≡ pick long 14 (pick expects (line_number l) (asked_number m))
unfolding line_number reason_number
line_by true expects l m = refl
line_by false true l m = refl
line_by false false l m = plain_number m

line_number_lem : (s c x e : List ℕ) → line_number (line_of s c x e) ≡ line_case s c x e
unfolding line_of line_case
line_number_lem s c x e =
    let m = meaning_of (asked s) c x in
    let d = digits_of (awaited s) e in
    let awaits = expecting_number m d ∙ ap₂ expecting_case (meaning_number_lem (asked s) c x) (digits_number_lem (awaited s) e) in
    line_by (leb 1700 (length s)) (ltb (equals s) (length s)) (expecting_by m d) (meaning_of s c x)
    ∙ (λ i. pick (leb 1700 (length s)) 14 (pick (ltb (equals s) (length s)) (awaits i) (meaning_number_lem s c x i)))

-- what a line means, by its number too
pub means : (line c x e : List ℕ) (r : Result Line Reason) (c' x' e' : List ℕ) → r ≡ line_of (said line) c x e → c' ≡ line_command (said line) c
    → x' ≡ line_random (said line) x → e' ≡ line_expected (said line) e → Means line c x e r c' x' e'
means line c x e r c' x' e' t p q w =
    record { number = ap line_number t ∙ line_number_lem (said line) c x e; told = t; command = p; random = q; expected = w }
