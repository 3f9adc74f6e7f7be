-- Laws of tidied lines, of what they leave, and of lines that are too long.
use mathlib.Core.Path.{◌≡◌, refl, sym, ap, ap₂, subst, ◌∙◌}
use mathlib.Core.Bool.{Bool, true, false}
use mathlib.Core.List.{List, [], ◌∷◌, ◌++◌, append-nil}
use mathlib.Core.Logic.{⊎_elim}
use Prim.Native.Nat.{ℕ, ◌+◌, ◌/◌, ◌≤◌, ◌<◌}
use native.Mathlib.Numerals.{add-one}
use native.Mathlib.Omega.{arith}
use lib.ListN.{length, get_or, take, drop, length-take, take-append-drop, drop_of_length-le}
use lib.Seq.{take-suc, take_all, take-append_seam, length-take-le}
use lib.Dec.{eqb}
use borrow.Author.Tests.{ne_eqb, eq-eqb, eqb-true}
use Rattle.lines.specs.Hex.{bytes_of}
use Rattle.lines.proofs.Steps.{bytes_half}
use Rattle.base.specs.Decide.{pick}
use Rattle.base.specs.Bytes.{over}
use Rattle.base.proofs.Bytes.{Holds, le_or_lt, and_left, and_right}
use Rattle.first_lines.specs.Said.{is_blank, capital_of, tidied, good_bytes, bytes_room}

tidied-append : (a b : List ℕ) → tidied (a ++ b) ≡ tidied a ++ tidied b
unfolding tidied
tidied-append [] b = refl
tidied-append (x ∷ a) b = rw (tidied-append a b) (apart (is_blank x))
  where
    apart : (t : Bool) → pick t (tidied a ++ tidied b) (capital_of x ∷ (tidied a ++ tidied b)) ≡ pick t (tidied a) (capital_of x ∷ tidied a) ++ tidied b
    apart true = refl
    apart false = refl

-- a character more: one that does not count, and one that does
one_more : (s : List ℕ) (i : ℕ) → i < length s → tidied (take (i + 1) s) ≡ tidied (take i s) ++ tidied (get_or s i 0 ∷ [])
one_more s i h = ap (λ n. tidied (take n s)) (add-one i) ∙ ap tidied (take-suc s i 0 h) ∙ tidied-append (take i s) (get_or s i 0 ∷ [])

pub tidied-blank : (s : List ℕ) (i : ℕ) → i < length s → is_blank (get_or s i 0) ≡ true → tidied (take (i + 1) s) ≡ tidied (take i s)
unfolding tidied
tidied-blank s i h e = one_more s i h ∙ rw e (append-nil (tidied (take i s)))

pub tidied_other : (s : List ℕ) (i : ℕ) → i < length s → is_blank (get_or s i 0) ≡ false
    → tidied (take (i + 1) s) ≡ tidied (take i s) ++ (capital_of (get_or s i 0) ∷ [])
unfolding tidied
tidied_other s i h e = one_more s i h ∙ rw e refl

-- the line is cut where the room is full, and whole where it is not
pub tidied_full : (s : List ℕ) (i : ℕ) {l : ℕ} → length (tidied (take i s)) ≡ l → take l (tidied s) ≡ tidied (take i s)
tidied_full s i e =
    ap₂ (λ n x. take n x) (sym e) (ap tidied (sym (take-append-drop i s)) ∙ tidied-append (take i s) (drop i s))
    ∙ take-append_seam (tidied (take i s)) (tidied (drop i s))

pub tidied-whole : (s : List ℕ) (i : ℕ) {l : ℕ} → length s ≤ i → length (tidied (take i s)) ≤ l → take l (tidied s) ≡ tidied (take i s)
tidied-whole s i {l} h k =
    let e = take_all i s h in
    take_all l (tidied s) (subst (λ x. length (tidied x) ≤ l) e k) ∙ ap tidied (sym e)

-- what is held is held under an equal name
pub held : {p q old b : List ℕ} {n : ℕ} → Holds p old b n → q ≡ p → (n ≡ length q) × (b ≡ over q old)
held {p} {q} {old} h e = (h.len ∙ ap length (sym e), h.is ∙ ap (λ x. over x old) (sym e))

pub renamed : {p q old b : List ℕ} {n : ℕ} → Holds p old b n → q ≡ p → Holds q old b n
renamed {p} {q} {old} {b} {n} h e = subst (λ x. Holds x old b n) (sym e) h

-- a line that fills the room is too long, whatever was cut off
pub cut : {A : Type 0} (f : List ℕ → A) (v : A) → ((s : List ℕ) → 1700 ≤ length s → f s ≡ v) → (s : List ℕ) → f (take 1700 s) ≡ f s
cut f v long s =
    ⊎_elim
    (λ (h : 1700 ≤ length s). long (take 1700 s) (omega (arith, length-take-le 1700 s h)) ∙ sym (long s h))
    (λ (h : length s < 1700). ap f (take_all 1700 s (omega arith)))
    (le_or_lt 1700 (length s))

long_good : (n : ℕ) → n ≤ 20 → (s : List ℕ) → 1700 ≤ length s → good_bytes n s ≡ false
unfolding good_bytes
long_good n k s h = rw (ne_eqb (length s / 2) n (λ e. omega arith)) refl

long_bytes : (room : List ℕ) → length room ≤ 20 → (s : List ℕ) → 1700 ≤ length s → bytes_room s room ≡ room
unfolding bytes_room
long_bytes room k s h = rw (long_good (length room) k s h) refl

pub cut_good : (n : ℕ) → n ≤ 20 → (s : List ℕ) → good_bytes n (take 1700 s) ≡ good_bytes n s
cut_good n k = cut (good_bytes n) false (long_good n k)

pub cut_bytes : (room : List ℕ) → length room ≤ 20 → (s : List ℕ) → bytes_room (take 1700 s) room ≡ bytes_room s room
cut_bytes room k = cut (λ s. bytes_room s room) room (long_bytes room k)

-- bytes that fill the room are all it holds
pub whole : (s room : List ℕ) → length room ≡ 7 → good_bytes 7 s ≡ true → bytes_room s room ≡ bytes_of s
unfolding bytes_room good_bytes
whole s room e g =
    let n : length s / 2 ≡ 7 = eqb-true (length s / 2) 7 (and_left _ _ g) in
    let h = and_right (eqb (length s / 2) 7) _ g in
    let l : length (bytes_of s) ≡ length room = bytes_half s h ∙ n ∙ sym e in
    rw (eq-eqb (length s / 2) (length room) (n ∙ sym e), h) (ap (λ r. bytes_of s ++ r) (drop_of_length-le room {i = length (bytes_of s)} (omega arith)) ∙ append-nil (bytes_of s))

-- the part of the room that was filled is the tidied line, cut
pub seen : (l old : List ℕ) {q : List ℕ} {n : ℕ} → length old ≡ 1700 → n ≡ length (take (length old) (tidied l))
    → q ≡ over (take (length old) (tidied l)) old → take n q ≡ take 1700 (tidied l)
seen l old e en eq =
    ap₂ (λ k x. take k x) en eq
    ∙ take-append_seam (take (length old) (tidied l)) (drop (length (take (length old) (tidied l))) old)
    ∙ ap (λ k. take k (tidied l)) e

pub seen-fits : (l old : List ℕ) {n : ℕ} → length old ≡ 1700 → n ≡ length (take (length old) (tidied l)) → n ≤ 1700
seen-fits l old e en = omega (arith, e, en, length-take (length old) (tidied l))
