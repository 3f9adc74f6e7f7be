-- Where each settings string stands: a changed string is read back in its place, and the others stay.
use mathlib.Core.Path.{◌≡◌, refl, sym, ◌∙◌, ap, ap₂, subst}
use mathlib.Core.Bool.{Bool, true, false}
use mathlib.Core.List.{List, [], ◌∷◌, ◌++◌, append_assoc}
use mathlib.Core.Logic.{◌⊎◌, inl, inr, ⊎_elim}
use Prim.Native.Nat.{ℕ, ◌+◌, ◌-◌, ◌*◌, ◌≤◌, ◌<◌}
use native.Mathlib.Omega.{arith}
use lib.Dec.{eqb}
use lib.ListN.{length, get_or, take, drop}
use lib.Seq.{length-take-le, take-append-le, take-take, take-add, take-append_seam, drop-drop, drop_at, drop-append-add, get_or-take, get_or-drop}
use native.Mathlib.Nat.{add-zero}
use borrow.Author.Tests.{eqb-true, le-leb}
use Rattle.base.specs.Decide.{pick}
use Rattle.base.specs.Bytes.{byte_at, laid}
use Rattle.base.proofs.Bytes.{le_or_lt, laid-not, laid-length}
use Rattle.state.specs.declared.Files.{Files}
use Rattle.state.specs.State.{start_of, size_of, slot_of, rules_of}
use Rattle.change_settings.specs.ChangeSettings.{with_rules}
use Rattle.series.specs.Series.{slot_in}

-- a part of a list, cut out in one order or the other
part_cut : (a n : ℕ) (x : List ℕ) → a ≤ length x → take n (drop a x) ≡ drop a (take (a + n) x)
part_cut a n x h = sym (ap (drop a) (take-add a n x) ∙ drop_at (take a x) (take n (drop a x)) a (length-take-le a x h))

module _ (s d : List ℕ) (i : ℕ) (f : i + length s ≤ length d) where
  laid_is : laid s i d ≡ take i d ++ (s ++ drop (i + length s) d)
  unfolding laid
  laid_is = rw (le-leb (i + length s) (length d) f) (append_assoc (take i d) s (drop (i + length s) d))

  front_is : length (take i d) ≡ i
  front_is = length-take-le i d (omega arith)

  laid-before : (a : ℕ) → a ≤ i → take a (laid s i d) ≡ take a d
  laid-before a h =
      ap (take a) laid_is ∙ take-append-le a (take i d) (s ++ drop (i + length s) d) (subst (λ k. a ≤ k) (sym front_is) h) ∙ take-take a i d h

  behind : drop i (laid s i d) ≡ s ++ drop (i + length s) d
  behind = ap (drop i) laid_is ∙ drop_at (take i d) (s ++ drop (i + length s) d) i front_is

  laid-there : take (length s) (drop i (laid s i d)) ≡ s
  laid-there = ap (take (length s)) behind ∙ take-append_seam s (drop (i + length s) d)

  laid-behind : (a : ℕ) → i + length s ≤ a → drop a (laid s i d) ≡ drop a d
  laid-behind a h =
      let b : ℕ = a - (i + length s) in
      let e : i + (length s + b) ≡ a = omega arith in
      let g : i + length s + b ≡ a = omega arith in
      ap (λ k. drop k (laid s i d)) (sym e)
      ∙ sym (drop-drop (length s + b) i (laid s i d))
      ∙ ap (drop (length s + b)) behind
      ∙ drop-append-add s (drop (i + length s) d) b
      ∙ drop-drop b (i + length s) d
      ∙ ap (λ k. drop k d) g

-- a part that does not touch what is laid stays
pub part_stays : (s d : List ℕ) (i a n : ℕ) → (i + length s ≤ a) ⊎ (a + n ≤ i) → take n (drop a (laid s i d)) ≡ take n (drop a d)
part_stays s d i a n away = ⊎_elim fits (λ h. ap (λ x. take n (drop a x)) (laid-not s i d h)) (le_or_lt (i + length s) (length d))
  where
    fits : i + length s ≤ length d → take n (drop a (laid s i d)) ≡ take n (drop a d)
    fits f =
        ⊎_elim (λ h. ap (take n) (laid-behind s d i f a h))
        (λ h.
        let l : length (laid s i d) ≡ length d = laid-length s i d in
        part_cut a n (laid s i d) (omega arith) ∙ ap (drop a) (laid-before s d i f (a + n) h) ∙ sym (part_cut a n d (omega arith)))
        away

byte_part : (x : List ℕ) (j : ℕ) → byte_at x j ≡ byte_at (take 1 (drop j x)) 0
byte_part x j = sym (get_or-take 1 (drop j x) 0 0 (omega arith) ∙ get_or-drop j x 0 0 ∙ ap (λ k. get_or x k 0) (add-zero j))

-- ---- slots
pub below-or_above : (i j : ℕ) → (i ≡ j → ⊥) → (i < j) ⊎ (j < i)
below-or_above i j e = ⊎_elim (λ p. ⊎_elim (λ q. absurd (e (omega arith))) (λ q. inl q) (le_or_lt j i)) (λ p. inr p) (le_or_lt i j)

-- the stored lengths: another slot's stays, and a slot's own is the new one
pub length_other : (n k : ℕ) (f : Files) (text : List ℕ) (len : ℕ) → (slot_of n ≡ slot_of k → ⊥)
    → byte_at (with_rules f n text len).lens (slot_of k) ≡ byte_at f.lens (slot_of k)
unfolding with_rules
length_other n k f text len h =
    let away : (slot_of n < slot_of k) ⊎ (slot_of k < slot_of n) = below-or_above (slot_of n) (slot_of k) h in
    byte_part (laid (len ∷ []) (slot_of n) f.lens) (slot_of k)
    ∙ ap (λ x. byte_at x 0) (part_stays (len ∷ []) f.lens (slot_of n) (slot_of k) 1 (⊎_elim (λ a. inl (omega arith)) (λ a. inr (omega arith)) away))
    ∙ sym (byte_part f.lens (slot_of k))

pub length_same : (n k : ℕ) (f : Files) (text : List ℕ) (len : ℕ) → length f.lens ≡ 3 → slot_of n ≡ slot_of k → slot_of k ≤ 2
    → byte_at (with_rules f n text len).lens (slot_of k) ≡ len
unfolding with_rules
length_same n k f text len e same small =
    let i : ℕ = slot_of k in
    ap (λ j. byte_at (laid (len ∷ []) j f.lens) i) same
    ∙ byte_part (laid (len ∷ []) i f.lens) i
    ∙ ap (λ x. byte_at x 0) (laid-there (len ∷ []) f.lens i (omega arith))

pub slot-stays : (n k : ℕ) (f : Files) (text : List ℕ) (len : ℕ) → length text ≡ 27 → (slot_of n ≡ slot_of k → ⊥)
    → slot_in (with_rules f n text len) k ≡ slot_in f k
unfolding with_rules
slot-stays n k f text len l h =
    let away : (slot_of n < slot_of k) ⊎ (slot_of k < slot_of n) = below-or_above (slot_of n) (slot_of k) h in
    part_stays text f.rules (slot_of n * 27) (slot_of k * 27) 27 (⊎_elim (λ a. inl (omega arith)) (λ a. inr (omega arith)) away)

pub slot_other : (n k : ℕ) (f : Files) (text : List ℕ) (len : ℕ) → length text ≡ 27 → (slot_of n ≡ slot_of k → ⊥)
    → rules_of (with_rules f n text len) k ≡ rules_of f k
unfolding rules_of
slot_other n k f text len l h = ap₂ (λ x y. take x y) (length_other n k f text len h) (slot-stays n k f text len l h)

pub slot_same : (n k : ℕ) (f : Files) (text : List ℕ) (len : ℕ) → length text ≡ 27 → length f.rules ≡ 81 → length f.lens ≡ 3
    → slot_of n ≡ slot_of k → slot_of k ≤ 2 → rules_of (with_rules f n text len) k ≡ take len text
unfolding rules_of with_rules
slot_same n k f text len l r e same small =
    let i : ℕ = slot_of k in
    let b : byte_at (laid (len ∷ []) (slot_of n) f.lens) i ≡ len = length_same n k f text len e same small in
    let t : take 27 (drop (i * 27) (laid text (i * 27) f.rules)) ≡ text =
    ap (λ x. take x (drop (i * 27) (laid text (i * 27) f.rules))) (sym l) ∙ laid-there text f.rules (i * 27) (omega arith) in
    ap₂ (λ x y. take x y) b (ap (λ j. take 27 (drop (i * 27) (laid text (j * 27) f.rules))) same ∙ t)

-- the file of a slot
slot-file : (n : ℕ) → slot_of n ≤ 2 → n ≡ slot_of n + 1
unfolding slot_of
slot-file n h = by (eqb n 1) (eqb n 2) (eqb n 3) refl refl refl h
  where
    by : (a b c : Bool) → eqb n 1 ≡ a → eqb n 2 ≡ b → eqb n 3 ≡ c → pick {A = ℕ} a 0 (pick b 1 (pick c 2 3)) ≤ 2
        → n ≡ pick a 0 (pick b 1 (pick c 2 3)) + 1
    by true b c p q r h = eqb-true n 1 p
    by false true c p q r h = eqb-true n 2 q
    by false false true p q r h = eqb-true n 3 r
    by false false false p q r h = absurd (omega arith)

pub same_slot : (n k : ℕ) → slot_of n ≡ slot_of k → slot_of k ≤ 2 → n ≡ k
same_slot n k e h = slot-file n (omega arith) ∙ ap (λ i. i + 1) e ∙ sym (slot-file k h)

-- ---- files 1 to 3
pub slot_1 : slot_of 1 ≤ 2
unfolding slot_of
slot_1 = omega arith

pub slot_2 : slot_of 2 ≤ 2
unfolding slot_of
slot_2 = omega arith

pub slot_3 : slot_of 3 ≤ 2
unfolding slot_of
slot_3 = omega arith

-- what holds of files 1, 2 and 3 holds of every file there is
pub each-file : (P : ℕ → Type 0) → P 1 → P 2 → P 3 → (n : ℕ) → 1 ≤ n → n ≤ 3 → P n
each-file P one two three n a b =
    ⊎_elim (λ p. let e : n ≡ 1 = omega arith in subst P (sym e) one)
    (λ p.
    ⊎_elim (λ q. let e : n ≡ 2 = omega arith in subst P (sym e) two) (λ q. let e : n ≡ 3 = omega arith in subst P (sym e) three) (le_or_lt n 2))
    (le_or_lt n 1)

pub small : (n : ℕ) → 1 ≤ n → n ≤ 3 → slot_of n ≤ 2
small = each-file (λ k. slot_of k ≤ 2) slot_1 slot_2 slot_3

-- the files stand in the order of their slots, one behind the other
pub file-order : (n k : ℕ) → slot_of n < slot_of k → start_of n + size_of n ≤ start_of k
unfolding slot_of start_of size_of
file-order n k = by (eqb n 1) (eqb n 2) (eqb n 3) (eqb k 1) (eqb k 2) (eqb k 3)
  where
    slot : Bool → Bool → Bool → ℕ
    slot a b c = pick a 0 (pick b 1 (pick c 2 3))

    start : Bool → Bool → Bool → ℕ
    start a b c = pick a 0 (pick b 32 (pick c 288 416))

    size : Bool → Bool → Bool → ℕ
    size a b c = pick a 32 (pick b 256 (pick c 128 0))

    by : (a b c d e f : Bool) → slot a b c < slot d e f → start a b c + size a b c ≤ start d e f
    by true b c true e f h = absurd (omega arith)
    by true b c false true f h = omega arith
    by true b c false false true h = omega arith
    by true b c false false false h = omega arith
    by false true c true e f h = absurd (omega arith)
    by false true c false true f h = absurd (omega arith)
    by false true c false false true h = omega arith
    by false true c false false false h = omega arith
    by false false true true e f h = absurd (omega arith)
    by false false true false true f h = absurd (omega arith)
    by false false true false false true h = absurd (omega arith)
    by false false true false false false h = omega arith
    by false false false true e f h = absurd (omega arith)
    by false false false false true f h = absurd (omega arith)
    by false false false false false true h = absurd (omega arith)
    by false false false false false false h = absurd (omega arith)

-- what is no file has no bytes
pub no_bytes : (n : ℕ) → 2 < slot_of n → size_of n ≡ 0
unfolding slot_of size_of
no_bytes n = by (eqb n 1) (eqb n 2) (eqb n 3)
  where
    by : (a b c : Bool) → 2 < pick {A = ℕ} a 0 (pick b 1 (pick c 2 3)) → pick {A = ℕ} a 32 (pick b 256 (pick c 128 0)) ≡ 0
    by true b c h = absurd (omega arith)
    by false true c h = absurd (omega arith)
    by false false true h = absurd (omega arith)
    by false false false h = refl
