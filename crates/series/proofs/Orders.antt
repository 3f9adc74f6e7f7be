-- What is known of a command that the order of checks lets through, and of an authentication that begins.
use mathlib.Core.Path.{◌≡◌, refl, sym, ◌∙◌, ap, ap₂}
use mathlib.Core.Bool.{Bool, true, false}
use mathlib.Core.List.{List, [], ◌∷◌}
use Prim.Native.Nat.{ℕ, ◌+◌, ◌%◌, ◌/◌, ◌≤◌}
use lib.Dec.{eqb, leb, ltb}
use lib.ListN.{length}
use borrow.Author.Tests.{ltb-false, eqb-true}
use Rattle.base.specs.Decide.{pick, and, one_of}
use Rattle.base.specs.Bytes.{byte_at}
use Rattle.base.proofs.Bytes.{and_right}
use Rattle.order.specs.declared.Name.{Name}
use Rattle.order.specs.Order.{command_data, order_status, header_length, names_key, key_status, byte_status, front_status, wrapped_status}
use Rattle.order.specs.Order.{lc_of, has_le, fits, on_file_status, iso_status}
use Rattle.order.specs.Commands.{wrapped_command}
use Rattle.auth.specs.Parts.{values_status, first_status, next_status}
use Rattle.series.proofs.Choices.{not_both}

-- ---- CLA 90
-- steps 3 and 4 passed: a part two is pending exactly where the command is AF
order_zero : (zero pending af : Bool) → eqb (pick zero (pick pending (pick af 0 0x91CA) (pick af 0x911C 0)) 0x919E) 0 ≡ true → pending ≡ af
order_zero true true true e = refl
order_zero true true false e = absurd (not_both e)
order_zero true false true e = absurd (not_both e)
order_zero true false false e = refl
order_zero false pending af e = absurd (not_both e)

order-right : (ins p1 p2 : ℕ) (pending : Bool) → eqb (order_status ins p1 p2 pending) 0 ≡ true → pending ≡ eqb ins 0xAF
unfolding order_status
order-right ins p1 p2 pending e = order_zero (and (eqb p1 0) (eqb p2 0)) pending (eqb ins 0xAF) e

-- step 5 passed, of all but 71, 77 and AF: the application is selected
front_zero : (own short application : Bool) (s : ℕ) → own ≡ false → eqb (pick own 0 (pick short 0x917E (pick application s 0x919D))) 0 ≡ true
    → application ≡ true
front_zero true short application s o e = absurd (not_both (sym o))
front_zero false true application s o e = absurd (not_both e)
front_zero false false true s o e = refl
front_zero false false false s o e = absurd (not_both e)

front-right : (ins : ℕ) (x : List ℕ) (application : Bool) → one_of ins (0x71 ∷ 0x77 ∷ 0xAF ∷ []) ≡ false
    → eqb (front_status ins x application) 0 ≡ true → application ≡ true
unfolding front_status
front-right ins x application =
    front_zero (one_of ins (0x71 ∷ 0x77 ∷ 0xAF ∷ [])) (ltb (length x) (header_length ins)) application (byte_status ins (byte_at x 0))

-- two statuses in a row
pub record Zeros (s f : ℕ) : Type 0 where
  pub first : eqb s 0 ≡ true
  pub then : eqb f 0 ≡ true

zeros : (s f : ℕ) (b : Bool) → eqb s 0 ≡ b → eqb (pick b f s) 0 ≡ true → Zeros s f
zeros s f true z e = record { first = z; then = e }
zeros s f false z e = absurd (not_both (sym z ∙ e))

pub status-zeros : (c : List ℕ) (pending application : Bool) → eqb (wrapped_status c pending application) 0 ≡ true
    → Zeros (order_status (byte_at c 1) (byte_at c 2) (byte_at c 3) pending) (front_status (byte_at c 1) (command_data c) application)
unfolding wrapped_status
status-zeros c pending application e =
    let s = order_status (byte_at c 1) (byte_at c 2) (byte_at c 3) pending in
    zeros s (front_status (byte_at c 1) (command_data c) application) (eqb s 0) refl e

-- steps 3 to 5 passed
pub record Passed (ins : ℕ) (pending application : Bool) : Type 0 where
  pub order : pending ≡ eqb ins 0xAF
  pub front : one_of ins (0x71 ∷ 0x77 ∷ 0xAF ∷ []) ≡ false → application ≡ true

pub wrapped-passes : (c : List ℕ) (pending application : Bool) → eqb (wrapped_status c pending application) 0 ≡ true
    → Passed (byte_at c 1) pending application
wrapped-passes c pending application e =
    let z = status-zeros c pending application e in
    record {
      order = order-right (byte_at c 1) (byte_at c 2) (byte_at c 3) pending z.first;
      front = λ o. front-right (byte_at c 1) (command_data c) application o z.then;
    }

-- the file of a command whose header is a file byte
pub wrapped-file : (name : Name) (c : List ℕ) (ins : ℕ) → byte_at c 1 ≡ ins → names_key ins ≡ false → leb 1 (header_length ins) ≡ true
    → (wrapped_command name c).file ≡ byte_at (command_data c) 0
unfolding wrapped_command
wrapped-file name c ins e k h =
    ap (λ i. pick (names_key i) 0 (pick (leb 1 (header_length i)) (byte_at (command_data c) 0) 0)) e
    ∙ ap₂ (λ x y. pick x 0 (pick y (byte_at (command_data c) 0) 0)) k h

-- ---- CLA 00
-- steps 4 and 5 passed: no part two is pending, and all but selects have a selected file and, by their INS, data or none
pub record IsoPassed (c : List ℕ) (pending : Bool) (file : ℕ) : Type 0 where
  pub idle : pending ≡ false
  pub selected : eqb (byte_at c 1) 0xA4 ≡ false → eqb file 0 ≡ false
  pub fit : eqb (byte_at c 1) 0xA4 ≡ false → fits (eqb (byte_at c 1) 0xB0) c ≡ true

iso_zero : (c : List ℕ) (file : ℕ) (pending select high right none : Bool) → eqb (byte_at c 1) 0xA4 ≡ select → fits (eqb (byte_at c 1) 0xB0) c ≡ right
    → eqb file 0 ≡ none → eqb (pick pending 0x6985 (pick select 0 (pick high 0x6A86 (pick right (pick none 0x6985 0) 0x6700)))) 0 ≡ true
    → IsoPassed c pending file
iso_zero c file true select high right none i r f e = absurd (not_both e)
iso_zero c file false true high right none i r f e =
    record { idle = refl; selected = λ z. absurd (not_both (sym z ∙ i)); fit = λ z. absurd (not_both (sym z ∙ i)) }
iso_zero c file false false true right none i r f e = absurd (not_both e)
iso_zero c file false false false false none i r f e = absurd (not_both e)
iso_zero c file false false false true true i r f e = absurd (not_both e)
iso_zero c file false false false true false i r f e = record { idle = refl; selected = λ z. f; fit = λ z. r }

pub iso_passes : (c : List ℕ) (pending : Bool) (file : ℕ) → eqb (iso_status c pending file) 0 ≡ true → IsoPassed c pending file
unfolding iso_status on_file_status
iso_passes c pending file =
    iso_zero c file pending (eqb (byte_at c 1) 0xA4) (leb 128 (byte_at c 2)) (fits (eqb (byte_at c 1) 0xB0) c) (eqb file 0) refl refl refl

-- a read has no data
pub fits_read : (c : List ℕ) → fits true c ≡ true → leb 1 (lc_of c) ≡ false
unfolding fits
fits_read c e = rw (eqb-true (lc_of c) 0 (and_right (has_le c) (eqb (lc_of c) 0) e)) refl

-- ---- part one
key_zero : (k : ℕ) (over small : Bool) → ltb 4 k ≡ small → eqb (pick over 0x919E (pick small 0x9140 0)) 0 ≡ true → k ≤ 4
key_zero k true small s e = absurd (not_both e)
key_zero k false true s e = absurd (not_both e)
key_zero k false false s e = ltb-false 4 k s

key_right : (k : ℕ) → eqb (key_status k) 0 ≡ true → k ≤ 4
unfolding key_status
key_right k e = key_zero k (ltb 63 k) (ltb 4 k) refl e

-- part one of 71 accepted: its key byte, and the application; of 77: its key byte, and the session
pub record First (k : ℕ) (place : Bool) : Type 0 where
  pub key : k ≤ 4
  pub there : place ≡ true

first_zero : (k : ℕ) (short cap long bit application right : Bool) → eqb (key_status k) 0 ≡ right
    → eqb (pick short 0x917E (pick cap 0x919E (pick long (pick right (pick bit 0x919D (pick application 0 0x9140)) (key_status k)) 0x917E))) 0 ≡ true
    → First k application
first_zero k true cap long bit application right s e = absurd (not_both e)
first_zero k false true long bit application right s e = absurd (not_both e)
first_zero k false false false bit application right s e = absurd (not_both e)
first_zero k false false true bit application false s e = absurd (not_both (sym s ∙ e))
first_zero k false false true true application true s e = absurd (not_both e)
first_zero k false false true false false true s e = absurd (not_both e)
first_zero k false false true false true true s e = record { key = key_right k s; there = refl }

pub first_right : (x : List ℕ) (application : Bool) → eqb (first_status x application) 0 ≡ true → First (byte_at x 0) application
unfolding first_status values_status
first_right x application e =
    first_zero (byte_at x 0) (ltb (length x) 2) (ltb 6 (byte_at x 1)) (eqb (length x) (2 + byte_at x 1)) (eqb (byte_at x 2 / 2 % 2) 1) application
    (eqb (key_status (byte_at x 0)) 0) refl e

next_zero : (k : ℕ) (one live : Bool) → eqb (pick one (pick live (key_status k) 0x919D) 0x917E) 0 ≡ true → First k live
next_zero k false live e = absurd (not_both e)
next_zero k true false e = absurd (not_both e)
next_zero k true true e = record { key = key_right k e; there = refl }

pub next_right : (x : List ℕ) (live : Bool) → eqb (next_status x live) 0 ≡ true → First (byte_at x 0) live
unfolding next_status
next_right x live e = next_zero (byte_at x 0) (eqb (length x) 1) live e
