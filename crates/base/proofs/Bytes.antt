-- Laws of the bytes that every floor reads, compares and lays.
use mathlib.Core.Path.{◌≡◌, refl, sym, ap, ap₂, subst, ◌∙◌}
use mathlib.Core.Bool.{Bool, true, false, ◌&&◌}
use mathlib.Core.List.{List, [], ◌∷◌, ◌++◌, append_assoc, append-nil}
use Prim.Native.Nat.{ℕ, zero, suc, ◌+◌, ◌-◌, ◌≤◌, ◌<◌}
use native.Mathlib.Omega.{arith}
use lib.Dec.{eqb, lit<}
use lib.Pointwise.{pointwise}
use lib.ListN.{length, get_or, take, drop, length-append, length-drop, replicate, drop_of_length-le}
use lib.Seq.{get_or-drop, take-length, drop-append-add, drop-drop, take-append_seam, paste, length-paste}
use borrow.Author.Tests.{le-leb, lt-leb, eq-eqb, ne_eqb, eqb-true}
use mathlib.Core.Logic.{◌⊎◌, inl, inr, ⊎_elim}
use native.Mathlib.Nat.{le_refl, sub-zero, zero-sub, suc-sub-suc}
use native.Mathlib.Decide.{dec_le}
use Rattle.base.specs.Decide.{pick, and}
use Rattle.base.specs.Bytes.{byte_at, AllBytes, same, laid, over, tab}

pub ruleset tests = (borrow.Author.Tests.eq-eqb, borrow.Author.Tests.ne_eqb, borrow.Author.Tests.lt-ltb, borrow.Author.Tests.le-ltb, borrow.Author.Tests.le-leb, borrow.Author.Tests.lt-leb)

-- the library's comparison of two lists
pub pointwise-same : (a b : List ℕ) → pointwise eqb a b ≡ same a b
unfolding same
pointwise-same [] [] = refl
pointwise-same [] (y ∷ ys) = refl
pointwise-same (x ∷ xs) [] = refl
pointwise-same (x ∷ xs) (y ∷ ys) = rw (pointwise-same xs ys) (both (eqb x y) (same xs ys))
  where
    both : (t u : Bool) → t && u ≡ and t u
    both true u = refl
    both false u = refl

-- one of two numbers is at most the other
pub le_or_lt : (a b : ℕ) → (a ≤ b) ⊎ (b < a)
le_or_lt a b = elim (dec_le a b) [ yes p ↦ inl p | no p ↦ inr (omega arith) ]

not_both : false ≡ true → ⊥
not_both p = let z : ◌≡◌ {A = ℕ} 0 1 = ap (λ (t : Bool). pick t 1 0) p in omega arith

-- what is computed of one of two answers
pub pick_of : {A B : Type 0} (f : A → B) (t : Bool) (a b : A) → f (pick t a b) ≡ pick t (f a) (f b)
pick_of f true a b = refl
pick_of f false a b = refl

pub and_left : (a b : Bool) → and a b ≡ true → a ≡ true
and_left true b e = refl
and_left false b e = e

pub and_right : (a b : Bool) → and a b ≡ true → b ≡ true
and_right true b e = e
and_right false b e = absurd (not_both e)

-- the comparison says that the lists are equal, and only then
pub same_true : (a b : List ℕ) → same a b ≡ true → a ≡ b
unfolding same
same_true [] [] e = refl
same_true [] (y ∷ ys) e = absurd (not_both e)
same_true (x ∷ xs) [] e = absurd (not_both e)
same_true (x ∷ xs) (y ∷ ys) e = rw (eqb-true x y (and_left _ _ e), same_true xs ys (and_right (eqb x y) _ e)) refl

pub same_refl : (a : List ℕ) → same a a ≡ true
unfolding same
same_refl [] = refl
same_refl (x ∷ xs) = rw (eq-eqb x x refl) (same_refl xs)

-- what fits is laid
pub laid-fits : (s : List ℕ) (i : ℕ) (d : List ℕ) → i + length s ≤ length d → laid s i d ≡ paste d i s (length s)
unfolding laid
laid-fits s i d h = rw (le-leb (i + length s) (length d) h, take-length s)

pub laid-not : (s : List ℕ) (i : ℕ) (d : List ℕ) → length d < i + length s → laid s i d ≡ d
unfolding laid
laid-not s i d h = rw (lt-leb (i + length s) (length d) h)

pub laid-length : (s : List ℕ) (i : ℕ) (d : List ℕ) → length (laid s i d) ≡ length d
laid-length s i d =
    ⊎_elim (λ h. ap length (laid-fits s i d h) ∙ length-paste d i s (length s) h (le_refl (length s)))
    (λ h. ap length (laid-not s i d h))
    (le_or_lt (i + length s) (length d))

-- ---- tabulated lists
pub tab-length : {A : Type 0} (n : ℕ) (f : ℕ → A) → length (tab n f) ≡ n
tab-length zero f = refl
tab-length (suc n) f = ap suc (tab-length n (λ i. f (suc i)))

pub tab_at : {A : Type 0} (d : A) (n : ℕ) (f : ℕ → A) (i : ℕ) → i < n → get_or (tab n f) i d ≡ f i
tab_at d zero f i h = absurd (omega arith)
tab_at d (suc n) f zero h = refl
tab_at d (suc n) f (suc i) h = tab_at d n (λ j. f (suc j)) i (omega arith)

-- two tables with the same values
pub tab_ext : {A : Type 0} (n : ℕ) (f g : ℕ → A) → ((i : ℕ) → f i ≡ g i) → tab n f ≡ tab n g
tab_ext zero f g e = refl
tab_ext (suc n) f g e = ap₂ (λ x xs. x ∷ xs) (e 0) (tab_ext n (λ i. f (suc i)) (λ i. g (suc i)) (λ i. e (suc i)))

-- a list is the table of its numbers
pub tab_all : (s : List ℕ) → tab (length s) (byte_at s) ≡ s
tab_all [] = refl
tab_all (x ∷ xs) = ap (λ l. x ∷ l) (tab_all xs)

-- a table of bytes holds bytes
pub tab-bytes : (n : ℕ) (f : ℕ → ℕ) → ((i : ℕ) → f i < 256) → AllBytes (tab n f)
unfolding AllBytes
tab-bytes zero f h i = lit< tt
tab-bytes (suc n) f h zero = h 0
tab-bytes (suc n) f h (suc i) = tab-bytes n (λ j. f (suc j)) (λ j. h (suc j)) i

-- ---- bytes
pub append-bytes : (a b : List ℕ) → AllBytes a → AllBytes b → AllBytes (a ++ b)
unfolding AllBytes
append-bytes [] b ha hb i = hb i
append-bytes (x ∷ a) b ha hb zero = ha 0
append-bytes (x ∷ a) b ha hb (suc i) = append-bytes a b (λ j. ha (suc j)) hb i

pub drop-bytes : (n : ℕ) (s : List ℕ) → AllBytes s → AllBytes (drop n s)
unfolding AllBytes
drop-bytes n s h i = rw (get_or-drop n s i 0) (h (n + i))

pub take-bytes : (n : ℕ) (s : List ℕ) → AllBytes s → AllBytes (take n s)
unfolding AllBytes
take-bytes zero s h i = lit< tt
take-bytes (suc n) [] h i = lit< tt
take-bytes (suc n) (x ∷ xs) h zero = h 0
take-bytes (suc n) (x ∷ xs) h (suc i) = take-bytes n xs (λ j. h (suc j)) i

-- ---- the room: what is laid behind a reply lengthens it
pub over_more : (p s old : List ℕ) → length p + length s ≤ length old → laid s (length p) (over p old) ≡ over (p ++ s) old
over_more p s old h =
    laid-fits s (length p) (over p old) (simp (length-append, length-drop) (omega arith))
    ∙ simp (take-append_seam, take-length, drop-append-add, drop-drop, length-append, append_assoc)

-- what is laid at the front of a room
pub laid-front : (s old : List ℕ) → length s ≤ length old → laid s 0 old ≡ over s old
laid-front s old h = over_more [] s old (omega arith)

-- what is laid over the whole of a room
pub laid-whole : (s old : List ℕ) → length s ≡ length old → laid s 0 old ≡ s
laid-whole s old e =
    laid-front s old (omega arith) ∙ ap (λ r. s ++ r) (drop_of_length-le old {i = length s} (omega arith)) ∙ append-nil s

pub drop-replicate : (k n a : ℕ) → drop k (replicate n a) ≡ replicate (n - k) a
drop-replicate zero n a = ap (λ m. replicate m a) (sym (sub-zero n))
drop-replicate (suc k) zero a = ap (λ m. replicate m a) (sym (zero-sub (suc k)))
drop-replicate (suc k) (suc n) a = drop-replicate k n a ∙ ap (λ m. replicate m a) (sym (suc-sub-suc n k))

-- the pieces p stand at the front of b, over old, and i is their length
pub record Holds (p old b : List ℕ) (i : ℕ) : Type 0 where
  pub is : b ≡ over p old
  pub len : i ≡ length p

pub none : (old : List ℕ) → Holds [] old old 0
none old = record { is = refl; len = refl }

pub more : {p old b : List ℕ} {i : ℕ} → Holds p old b i → (s b' : List ℕ) → i + length s ≤ length old → b' ≡ laid s i b
    → Holds (p ++ s) old b' (i + length s)
more {p} {old} {b} {i} h s b' f e =
    record {
      is = e ∙ ap₂ (λ k x. laid s k x) h.len h.is ∙ over_more p s old (subst (λ k. k + length s ≤ length old) h.len f);
      len = ap (λ k. k + length s) h.len ∙ sym (length-append p s);
    }

pub front : {p old b : List ℕ} {i : ℕ} → Holds p old b i → take i b ≡ p
front {p} {old} h = ap₂ (λ k x. take k x) h.len h.is ∙ take-append_seam p (drop (length p) old)
