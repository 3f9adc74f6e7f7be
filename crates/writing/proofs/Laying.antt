-- Pieces laid one behind the other into a room.
use mathlib.Core.Path.{◌≡◌, refl, sym, ap, ap₂, ◌∙◌}
use mathlib.Core.Bool.{Bool, true, false}
use mathlib.Core.List.{List, [], ◌∷◌, ◌++◌, append_assoc, append-nil}
use Prim.Native.Nat.{ℕ, ◌+◌, ◌*◌, ◌≤◌, ◌<◌}
use native.Mathlib.Nat.{zero-add, add-zero, add_assoc}
use native.Mathlib.Numerals.{add-one}
use native.Mathlib.Omega.{arith}
use lib.ListN.{length, get_or, take, drop, length-append, take-append-drop, drop_of_length-le}
use lib.Seq.{drop-cons, length-take-le, take_at, drop-append-add, drop-drop}
use Rattle.base.specs.Decide.{pick}
use Rattle.base.specs.Bytes.{laid, low, over}
use Rattle.base.proofs.Bytes.{laid-length}
use Rattle.base.proofs.Numbers.{low-length}
use Rattle.normalising.proofs.Laying.{laid_is, laid-front}
use Rattle.fields.specs.declared.Settings.{Settings}
use Rattle.fields.specs.Fields.{after, present, written, listed, front_bytes, sdm_bytes, string_of}

-- nothing laid
pub laid_none : (i : ℕ) (d : List ℕ) → i ≤ length d → laid [] i d ≡ d
laid_none i d h = laid_is [] i d (rw add-zero h) ∙ simp (add-zero, append-nil, take-append-drop)

-- one behind the other
pub laid_more : (a b : List ℕ) (i : ℕ) (d : List ℕ) → i + length a + length b ≤ length d
    → laid b (i + length a) (laid a i d) ≡ laid (a ++ b) i d
laid_more a b i d h =
    let la : length (laid a i d) ≡ length d = laid-length a i d in
    let p : List ℕ = take i d ++ a in
    let lp : length (take i d ++ a) ≡ i + length a = simp (length-append, length-take-le i d (omega arith)) in
    laid_is b (i + length a) (laid a i d) (omega arith)
    ∙ ap (λ x. take (i + length a) x ++ b ++ drop (i + length a + length b) x)
    (laid_is a i d (omega arith))
    ∙ ap₂ (λ x y. x ++ b ++ y) (take_at (take i d ++ a) (drop (i + length a) d) (i + length a) lp)
    (ap (λ n. drop (n + length b) ((take i d ++ a) ++ drop (i + length a) d)) (sym lp)
    ∙ drop-append-add (take i d ++ a) (drop (i + length a) d) (length b)
    ∙ drop-drop (length b) (i + length a) d)
    ∙ (simp (append_assoc, length-append, add_assoc))
    ∙ sym (laid_is (a ++ b) i d (rw (length-append a b, ← add_assoc) h))

-- ---- the fields, one a turn
written_step : (ps : List Bool) (vs : List ℕ) (i : ℕ) → i < length ps → i < length vs
    → written (drop i ps) (drop i vs) ≡ pick (get_or ps i false) (low 3 (get_or vs i 0)) [] ++ written (drop (i + 1) ps) (drop (i + 1) vs)
unfolding written
written_step ps vs i h k = rw (add-one, drop-cons ps i false h, drop-cons vs i 0 k)

piece_length : (q : Bool) (v : ℕ) → length (pick q (low 3 v) []) ≡ pick q 3 0
piece_length true v = low-length 3 v
piece_length false v = refl

piece_small : (q : Bool) (v : ℕ) → length (pick q (low 3 v) []) ≤ 3
piece_small true v = rw (low-length 3 v) (omega arith)
piece_small false v = omega arith

written_small : (ps : List Bool) (vs : List ℕ) → length (written ps vs) ≤ 3 * length ps
unfolding written
written_small [] vs = omega arith
written_small (p ∷ ps) [] = omega arith
written_small (p ∷ ps) (v ∷ vs) =
    let h = piece_small p v in
    let k = written_small ps vs in
    rw (length-append (pick p (low 3 v) []) (written ps vs)) (omega arith)

-- what is still to lay of the fields from i on goes to at, in a room as long as the first
pub record Still (ps : List Bool) (vs d : List ℕ) (i at : ℕ) (b : List ℕ) : Type 0 where
  pub long : length b ≡ length d
  pub place : at ≤ 6 + 3 * i
  pub ends : at + length (written (drop i ps) (drop i vs)) ≡ 6 + length (written ps vs)
  pub is : laid (written (drop i ps) (drop i vs)) at b ≡ laid (written ps vs) 6 d

pub still_all : (ps : List Bool) (vs d : List ℕ) → Still ps vs d 0 6 d
still_all ps vs d = record { long = refl; place = omega arith; ends = refl; is = refl }

after_small : (at : ℕ) (q : Bool) → after at q ≤ at + 3
after_small at true = omega arith
after_small at false = omega arith

pub still_more : {ps : List Bool} {vs d b : List ℕ} {i at : ℕ} → Still ps vs d i at b → i < length ps → i < length vs
    → 6 + length (written ps vs) ≤ length d → {b' : List ℕ} {at' : ℕ} → at' ≡ after at (get_or ps i false)
    → b' ≡ laid (pick (get_or ps i false) (low 3 (get_or vs i 0)) []) at b → Still ps vs d (i + 1) at' b'
still_more {ps} {vs} {d} {b} {i} {at} s h k f {b'} {at'} n e =
    let q = get_or ps i false in
    let w = pick q (low 3 (get_or vs i 0)) [] in
    let rest = written (drop (i + 1) ps) (drop (i + 1) vs) in
    let step = written_step ps vs i h k in
    let a = after_small at q in
    let lw : at' ≡ at + length w = n ∙ ap (λ x. at + x) (sym (piece_length q (get_or vs i 0))) in
    let l : at + length w + length rest ≡ 6 + length (written ps vs) =
    add_assoc at (length w) (length rest) ∙ ap (λ x. at + x) (sym (length-append w rest)) ∙ sym (ap (λ x. at + length x) step) ∙ s.ends in
    let g : at + length w + length rest ≤ length b = omega (arith, s.long) in
    record {
      long = ap length e ∙ laid-length w at b ∙ s.long;
      place = omega (arith, s.place);
      ends = ap (λ x. x + length rest) lw ∙ l;
      is =
          ap₂ (λ x y. laid rest x y) lw e
          ∙ laid_more w rest at b g
          ∙ sym (ap (λ x. laid x at b) step)
          ∙ s.is;
    }

-- nothing is left behind the last
pub still_none : {ps : List Bool} {vs d b : List ℕ} {i at : ℕ} → Still ps vs d i at b → length ps ≤ i → at ≤ length b
    → (at ≡ 6 + length (written ps vs)) × (b ≡ laid (written ps vs) 6 d)
unfolding written
still_none {ps} {vs} {d} {b} {i} {at} s h f =
    let e : drop i ps ≡ [] = drop_of_length-le ps {i = i} h in
    let w : written (drop i ps) (drop i vs) ≡ [] = ap (λ x. written x (drop i vs)) e in (
      sym (add-zero at) ∙ sym (ap (λ x. at + length x) w) ∙ s.ends,
      sym (laid_none at b f) ∙ sym (ap (λ x. laid x at b) w) ∙ s.is,
    )

-- eight fields fit
pub eight_small : (ps : List Bool) (vs : List ℕ) → length ps ≡ 8 → 6 + length (written ps vs) ≤ 30
eight_small ps vs l = omega (arith, written_small ps vs)

-- the bytes in front, those of SDM, the fields
pub string_on : (r : Settings) → r.head.sdm ≡ true
    → string_of r ≡ front_bytes r.head ++ (sdm_bytes r.head ++ written (present r.head) (listed r.places))
unfolding string_of
string_on r e = ap (λ t. front_bytes r.head ++ pick t (sdm_bytes r.head ++ written (present r.head) (listed r.places)) []) e

pub string_off : (r : Settings) → r.head.sdm ≡ false → string_of r ≡ front_bytes r.head
unfolding string_of
string_off r e =
    ap (λ t. front_bytes r.head ++ pick t (sdm_bytes r.head ++ written (present r.head) (listed r.places)) []) e
    ∙ append-nil (front_bytes r.head)

pub same_three : {a b c x y z : ℕ} → a ≡ x → b ≡ y → c ≡ z → a ∷ b ∷ c ∷ [] ≡ x ∷ y ∷ z ∷ []
same_three p q r = ap₂ (λ u v. u ∷ v) p (ap₂ (λ u v. u ∷ v) q (ap (λ u. u ∷ []) r))

pub in_three : (a b w d : List ℕ) {x y b₁ b₂ b₃ v : List ℕ} → length a ≡ 3 → length b ≡ 3 → 6 + length w ≤ length d → x ≡ a → y ≡ b
    → b₁ ≡ laid x 0 d → b₂ ≡ laid y 3 b₁ → v ≡ w → b₃ ≡ laid v 6 b₂ → b₃ ≡ over (a ++ (b ++ w)) d
in_three a b w d {x} {y} {b₁} {b₂} la lb h ea eb f₁ f₂ ev e₃ =
    let e₁ : b₁ ≡ laid a 0 d = f₁ ∙ ap (λ z. laid z 0 d) ea in
    let e₂ : b₂ ≡ laid b 3 b₁ = f₂ ∙ ap (λ z. laid z 3 b₁) eb in
    let l : length (a ++ b) ≡ 6 = simp (length-append, la, lb) in
    let m : length (a ++ (b ++ w)) ≡ 6 + length w = simp (length-append, la, lb) (omega arith) in
    e₃
    ∙ ap (λ x. laid x 6 b₂) ev
    ∙ ap (λ x. laid w 6 x)
    (e₂ ∙ ap₂ (λ n x. laid b n x) (sym (zero-add 3 ∙ refl) ∙ ap (λ n. 0 + n) (sym la)) e₁ ∙ laid_more a b 0 d (omega arith))
    ∙ ap (λ n. laid w n (laid (a ++ b) 0 d)) (sym l ∙ sym (zero-add (length (a ++ b))))
    ∙ laid_more (a ++ b) w 0 d (omega arith)
    ∙ ap (λ x. laid x 0 d) (append_assoc a b w)
    ∙ laid-front (a ++ (b ++ w)) d (omega arith)
