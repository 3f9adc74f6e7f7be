-- Text laid behind text, and loops that lay a piece a turn.
use mathlib.Core.Path.{◌≡◌, refl, sym, ap, ap₂, subst, ◌∙◌}
use mathlib.Core.List.{List, [], ◌∷◌, ◌++◌, append-nil, append_assoc}
use mathlib.Core.Logic.{⊎_elim}
use Prim.Native.Nat.{ℕ, zero, suc, ◌+◌, ◌-◌, ◌≤◌, ◌<◌}
use native.Mathlib.Nat.{add-zero, sub-zero, zero-sub, suc-sub-suc}
use native.Mathlib.Omega.{arith}
use lib.ListN.{length, take, length-take, length-append}
use lib.Seq.{take-nil, take_all, length-take-le}
use Rattle.base.specs.Bytes.{laid, over}
use Rattle.base.proofs.Bytes.{more, le_or_lt, laid-length, laid-not, laid-front}
use Rattle.base.proofs.Pieces.{fronted}
use Rattle.forms.specs.Rooms.{Lays, Writes, Within}
use Rattle.forms.specs.declared.page.Page.{Page}

take_more : (k : ℕ) (s t : List ℕ) → take k (s ++ t) ≡ take k s ++ take (k - length s) t
take_more zero s t = sym (ap (λ m. take m t) (zero-sub (length s)))
take_more (suc k) [] t = sym (ap (λ m. take m t) (sub-zero (suc k)))
take_more (suc k) (x ∷ s) t =
    ap (λ l. x ∷ l) (take_more k s t ∙ ap (λ m. take k s ++ take m t) (sym (suc-sub-suc k (length s))))

-- two texts, one laid behind the other, where both fit
laid_twice : (n : ℕ) (b u v : List ℕ) → n + length u + length v ≤ length b → laid v (n + length u) (laid u n b) ≡ laid (u ++ v) n b
laid_twice n b u v h =
    let f = fronted n b (omega arith) in
    let g = more (more f u (laid u n b) (omega arith) refl) v (laid v (n + length u) (laid u n b)) (omega arith) refl in
    let w = more f (u ++ v) (laid (u ++ v) n b) (omega (arith, length-append u v)) refl in
    g.is ∙ ap (λ x. over x b) (append_assoc (take n b) u v) ∙ sym w.is

-- behind the end of a room nothing is laid
laid_out : (n : ℕ) (b u v : List ℕ) → length b < n → laid v (n + length u) (laid u n b) ≡ laid (u ++ v) n b
laid_out n b u v h =
    laid-not v (n + length u) (laid u n b) (omega (arith, laid-length u n b))
    ∙ laid-not u n b (omega arith)
    ∙ sym (laid-not (u ++ v) n b (omega arith))

-- as much of the second as the first leaves room for
laid-rest : (n : ℕ) (a s t : List ℕ)
    → laid (take (length a - n - length s) t) (n + length (take (length a - n) s)) (laid (take (length a - n) s) n a)
    ≡ laid (take (length a - n) (s ++ t)) n a
laid-rest n a s t =
    ⊎_elim
    (λ (h : n ≤ length a). laid_twice n a (take (length a - n) s) (take (length a - n - length s) t)
    (omega (arith, length-take (length a - n) s, length-take (length a - n - length s) t)))
    (λ (h : length a < n). laid_out n a (take (length a - n) s) (take (length a - n - length s) t) h)
    (le_or_lt n (length a))
    ∙ ap (λ x. laid x n a) (sym (take_more (length a - n) s t))

pub lays_more : {s t : List ℕ} {n m r : ℕ} {a b c : List ℕ} → Lays s n a m b → Lays t m b r c → Lays (s ++ t) n a r c
lays_more {s} {t} {n} {m} {r} {a} {b} {c} p q =
    let l : length b ≡ length a = ap length p.left ∙ laid-length (take (length a - n) s) n a in
    let x : length b - m ≡ length a - n - length s = omega (arith, l, p.end, length-take (length a - n) s) in
    let y : r ≡ m + length (take (length a - n - length s) t) = q.end ∙ ap (λ e. m + length (take e t)) x in
    let z : length (take (length a - n) (s ++ t)) ≡ length (take (length a - n) s) + length (take (length a - n - length s) t)
    = ap length (take_more (length a - n) s t) ∙ length-append (take (length a - n) s) (take (length a - n - length s) t) in
    record {
      end = omega (arith, y, z, p.end);
      left = q.left
          ∙ ap (λ e. laid (take e t) m b) x
          ∙ ap₂ (λ e o. laid (take (length a - n - length s) t) e o) p.end p.left
          ∙ laid-rest n a s t;
    }

laid_nothing : (n : ℕ) (old : List ℕ) → laid [] n old ≡ old
laid_nothing n old =
    ⊎_elim
    (λ (h : n ≤ length old).
    let f = fronted n old h in
    let g = more f [] (laid [] n old) (omega arith) refl in
    g.is ∙ ap (λ x. over x old) (append-nil (take n old)) ∙ sym f.is)
    (λ (h : length old < n). laid-not [] n old (omega arith))
    (le_or_lt n (length old))

-- no text
pub lays_none : (n : ℕ) (old : List ℕ) → Lays [] n old n old
lays_none n old =
    let e : ◌≡◌ {A = List ℕ} (take (length old - n) []) [] = take-nil (length old - n) in
    record {
      end = sym (ap (λ x. n + length x) e ∙ add-zero n);
      left = sym (ap (λ x. laid x n old) e ∙ laid_nothing n old);
    }

pub lays_as : {s t : List ℕ} {n m : ℕ} {a b : List ℕ} → Lays s n a m b → s ≡ t → Lays t n a m b
lays_as {s} {t} {n} {m} {a} {b} l e = subst (λ x. Lays x n a m b) e l

-- a text that is laid whole, or cut where the room ends, or not at all
pub lays_whole : (s : List ℕ) (n : ℕ) (a b : List ℕ) → n ≤ length a → length s ≤ length a - n → b ≡ laid s n a → Lays s n a (n + length s) b
lays_whole s n a b h k e =
    let t : take (length a - n) s ≡ s = take_all (length a - n) s k in
    record {
      end = ap (λ x. n + length x) (sym t);
      left = e ∙ ap (λ x. laid x n a) (sym t);
    }

pub lays_cut : (s : List ℕ) (n : ℕ) (a b : List ℕ) {k : ℕ} → k ≡ length a - n → k < length s → b ≡ laid (take k s) n a → Lays s n a (n + k) b
lays_cut s n a b {k} q h e =
    record {
      end = ap (λ x. n + x) (q ∙ sym (length-take-le (length a - n) s (omega arith)));
      left = e ∙ ap (λ x. laid (take x s) n a) q;
    }

pub lays_out : (s : List ℕ) (n : ℕ) (a : List ℕ) → length a < n → Lays s n a n a
lays_out s n a h =
    let z : length a - n ≡ 0 = omega arith in
    let e : take (length a - n) s ≡ [] = ap (λ m. take m s) z in
    record {
      end = sym (ap (λ x. n + length x) e ∙ add-zero n);
      left = sym (ap (λ x. laid x n a) e ∙ laid_nothing n a);
    }

-- ---- pages
pub writes_none : (p : Page) → Writes [] p p
writes_none p = record { laid = lays_none p.used p.room.now; same_room = refl }

pub writes_more : {s t : List ℕ} {p q r : Page} → Writes s p q → Writes t q r → Writes (s ++ t) p r
writes_more u v = record { laid = lays_more u.laid v.laid; same_room = v.same_room ∙ u.same_room }

pub writes_as : {s t : List ℕ} {p q : Page} → Writes s p q → s ≡ t → Writes t p q
writes_as {s} {t} {p} {q} u e = subst (λ x. Writes x p q) e u

pub writes_in : {s : List ℕ} {p o q : Page} → Writes s p q → p ≡ o → Writes s o q
writes_in {s} {p} {o} {q} u e = subst (λ x. Writes s x q) e u

pub writes_to : {s : List ℕ} {p q o : Page} → Writes s p q → q ≡ o → Writes s p o
writes_to {s} {p} {q} {o} u e = subst (λ x. Writes s p x) e u

-- loops: what is written so far, and what is still to come
pub record Going (text : List ℕ) (old new : Page) (rest : List ℕ) : Type 0 where
  pub done : List ℕ
  pub so : Writes done old new
  pub whole : done ++ rest ≡ text

pub going_none : (text : List ℕ) (p : Page) → Going text p p text
going_none text p = record { done = []; so = writes_none p; whole = refl }

pub going_more : {text : List ℕ} {p q r : Page} {rest : List ℕ} → Going text p q rest → (s rest' : List ℕ) → Writes s q r
    → rest ≡ s ++ rest' → Going text p r rest'
going_more g s rest' l e =
    record {
      done = g.done ++ s;
      so = writes_more g.so l;
      whole = append_assoc g.done s rest' ∙ ap (λ x. g.done ++ x) (sym e) ∙ g.whole;
    }

pub going_end : {text : List ℕ} {p q : Page} {rest : List ℕ} → Going text p q rest → rest ≡ [] → Writes text p q
going_end g e = writes_as g.so (sym (append-nil g.done) ∙ ap (λ x. g.done ++ x) (sym e) ∙ g.whole)

pub lays_length : {text : List ℕ} {n m : ℕ} {old b : List ℕ} → Lays text n old m b → length b ≡ length old
lays_length {text} {n} {m} {old} l = ap length l.left ∙ laid-length (take (length old - n) text) n old

-- ---- at the front
pub tells : {text old new : List ℕ} {r : ℕ} → Lays text 0 old r new
    → (r ≡ length (take (length old) text)) × (new ≡ over (take (length old) text) old) × Within r new
tells {text} {old} {new} {r} l =
    let e : length old - 0 ≡ length old = sub-zero (length old) in
    let k : r ≡ length (take (length old) text) = omega (arith, l.end, ap (λ m. length (take m text)) e) in
    let w : r ≤ length new = omega (arith, k, length-take (length old) text, lays_length l) in (
      k,
      l.left ∙ ap (λ m. laid (take m text) 0 old) e
          ∙ laid-front (take (length old) text) old (omega (arith, length-take (length old) text)),
      (w, sym (length-take-le r new w)),
    )
