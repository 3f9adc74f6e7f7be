-- One step of a form, and one of a number's digits.
use mathlib.Core.Path.{◌≡◌, refl, ap, ap₂, ◌∙◌}
use mathlib.Core.Bool.{Bool, true, false}
use mathlib.Core.List.{List, [], ◌∷◌, ◌++◌}
use Prim.Native.Nat.{ℕ, zero, suc, ◌+◌, ◌-◌, ◌/◌, ◌%◌, ◌≤◌, ◌<◌}
use native.Mathlib.Nat.{add-zero}
use native.Mathlib.Numerals.{add-one}
use native.Mathlib.Omega.{arith}
use lib.ListN.{length, get_or, drop, set, length-set, drop_of_length-le}
use lib.Seq.{drop-cons, drop-drop, get_or-drop, get_or-set_same, drop-set-lt}
use lib.Dec.{eqb}
use borrow.Author.Tests.{eq-eqb, ne_eqb}
use Rattle.base.specs.Decide.{pick, or}
use Rattle.forms.specs.Forms.{digits_before, decimal_of, piece_of, numbers_of, flags_of, standing, form_of}

pub form_step : (on : Bool) (form ns : List ℕ) (fs : List Bool) (i k j : ℕ) → i < length form
    → form_of on (drop i form) (drop k ns) (drop j fs)
    ≡ piece_of on (get_or form i 0) (get_or ns k 0)
    ++ form_of (standing on (get_or form i 0) (get_or fs j false)) (drop (i + 1) form)
    (drop (k + numbers_of (get_or form i 0)) ns) (drop (j + flags_of (get_or form i 0)) fs)
unfolding form_of
form_step on form ns fs i k j h =
    rw (
      add-one i,
      drop-cons form i 0 h,
      get_or-drop k ns 0 0,
      add-zero k,
      get_or-drop j fs 0 false,
      add-zero j,
      drop-drop (numbers_of (get_or form i 0)) k ns,
      drop-drop (flags_of (get_or form i 0)) j fs,
    ) refl

-- the same by what was computed of it
pub form_next : (on : Bool) (form ns : List ℕ) (fs : List Bool) (i k j : ℕ) {v u w : ℕ} {flag on' : Bool} → i < length form
    → v ≡ get_or ns k 0 → flag ≡ get_or fs j false → on' ≡ standing on (get_or form i 0) flag → u ≡ numbers_of (get_or form i 0)
    → w ≡ flags_of (get_or form i 0)
    → form_of on (drop i form) (drop k ns) (drop j fs)
    ≡ piece_of on (get_or form i 0) v ++ form_of on' (drop (i + 1) form) (drop (k + u) ns) (drop (j + w) fs)
form_next on form ns fs i k j h pv pf po pu pw = rw (po, pf, pv, pu, pw) (form_step on form ns fs i k j h)

at_most_one : (t : Bool) → pick t 1 0 ≤ 1
at_most_one true = omega arith
at_most_one false = omega arith

pub numbers_one : (c : ℕ) → numbers_of c ≤ 1
unfolding numbers_of
numbers_one c = at_most_one (or (eqb c 35) (eqb c 37))

pub flags_one : (c : ℕ) → flags_of c ≤ 1
unfolding flags_of
flags_one c = at_most_one (eqb c 123)

pub form_end : (on : Bool) (form ns : List ℕ) (fs : List Bool) (i : ℕ) → length form ≤ i → form_of on (drop i form) ns fs ≡ []
unfolding form_of
form_end on form ns fs i h = rw (drop_of_length-le form {i = i} h) refl

-- ---- digits
set_front : (d : List ℕ) (j x : ℕ) → j < length d → drop j (set d j x) ≡ x ∷ drop (suc j) d
set_front d j x h =
    drop-cons (set d j x) j 0 (omega (arith, length-set d j x))
    ∙ ap₂ (λ y l. y ∷ l) (get_or-set_same d j x 0 h) (drop-set-lt (suc j) d j x (omega arith))

pub last_digit : (d : List ℕ) (x : ℕ) → length d ≡ 20 → drop 19 (set d 19 x) ≡ x ∷ []
last_digit d x h =
    set_front d 19 x (omega arith) ∙ ap (λ l. x ∷ l) (drop_of_length-le d {i = 20} (omega arith))

pub digits_more : (i rest x : ℕ) (d : List ℕ) → 0 < i → i ≤ length d → (rest ≡ 0 → ⊥) → x ≡ 48 + rest % 10
    → digits_before (i - 1) (rest / 10) (drop (i - 1) (set d (i - 1) x)) ≡ digits_before i rest (drop i d)
unfolding digits_before
digits_more zero rest x d p h n e = absurd (omega arith)
digits_more (suc j) rest x d p h n e =
    let q : suc j - 1 ≡ j = omega arith in
    let w : digits_before j (rest / 10) (drop j (set d j x)) ≡ digits_before (suc j) rest (drop (suc j) d)
    = rw (ne_eqb rest 0 n, set_front d j x (omega arith), e) refl in
    ap (λ m. digits_before m (rest / 10) (drop m (set d m x))) q ∙ w

pub digits_done : (i rest : ℕ) (ds : List ℕ) → rest ≡ 0 → digits_before i rest ds ≡ ds
unfolding digits_before
digits_done zero rest ds e = refl
digits_done (suc i) rest ds e = rw (eq-eqb rest 0 e) refl

pub digits_full : (i rest : ℕ) (ds : List ℕ) → i ≤ 0 → digits_before i rest ds ≡ ds
unfolding digits_before
digits_full zero rest ds e = refl
digits_full (suc i) rest ds e = absurd (omega arith)

-- the digits before the last, with it, are the number's
pub digits_all : (v : ℕ) (d : List ℕ) (x : ℕ) → length d ≡ 20 → x ≡ 48 + v % 10
    → digits_before 19 (v / 10) (drop 19 (set d 19 x)) ≡ decimal_of v
unfolding decimal_of
digits_all v d x h e = ap (λ l. digits_before 19 (v / 10) l) (last_digit d x h ∙ ap (λ y. y ∷ []) e)
