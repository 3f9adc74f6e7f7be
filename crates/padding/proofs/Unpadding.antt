-- Padding in a room, and the mark that its opposite looks for.
use mathlib.Core.Bool.{Bool, true, false}
use mathlib.Core.Path.{◌≡◌, refl, sym, ap, ◌∙◌}
use mathlib.Core.List.{List, ◌∷◌, ◌++◌}
use mathlib.Core.Logic.{⊎_elim}
use Rattle.std.proofs.Common.{Some, None}
use Prim.Native.Nat.{ℕ, zero, suc, ◌+◌, ◌-◌, ◌*◌, ◌/◌, ◌%◌, ◌≤◌, ◌<◌}
use native.Mathlib.Omega.{arith}
use lib.Dec.{eqb, leb}
use lib.ListN.{length, take, drop, replicate, length-append, length-replicate}
use lib.Seq.{length-take-le}
use borrow.Author.Tests.{le-leb, lt-leb, eqb-true, leb-true}
use borrow.Rule.Slice.PartMut.{put_mid}
use Rattle.std.proofs.lemmas.List.{drop-drop, append_assoc}
use Rattle.base.specs.Decide.{pick}
use Rattle.base.specs.Bytes.{byte_at, laid}
use Rattle.base.proofs.Bytes.{Holds, and_left, and_right, le_or_lt}
use Rattle.padding.specs.Padding.{padded, padded_length, blocks, mark, unpad, padding, padded_in, padded_number, Pads}
use Rattle.base.proofs.Pieces.{also, fronted}

-- what a copy into a part of a buffer leaves: the bytes laid there
pub put_laid : (i k : ℕ) (old s : List ℕ) → length s ≡ k → i + k ≤ length old → put_mid i k old s ≡ laid s i old
unfolding laid
put_laid i k old s e f =
    rw (le-leb (i + length s) (length old) (omega arith)) (ap (λ n. take i old ++ (s ++ n)) (drop-drop k i old ∙ ap (λ n. drop (i + n) old) (sym e))
    ∙ sym (append_assoc (take i old) s (drop (i + length s) old)))

-- ---- padding in a room
take-zeros : (m n : ℕ) → m ≤ n → take {A = ℕ} m (replicate n 0) ≡ replicate m 0
take-zeros zero n h = refl
take-zeros (suc m) zero h = absurd (omega arith)
take-zeros (suc m) (suc n) h = ap (λ l. 0 ∷ l) (take-zeros m n (omega arith))

-- what stands behind a text is the front of 80 and fifteen zeros
piece : (k : ℕ) → k < 16 → take {A = ℕ} (16 - k) (128 ∷ replicate 15 0) ≡ 128 ∷ replicate (15 - k) 0
piece k h =
    let e : 16 - k ≡ suc (15 - k) = omega arith in
    ap (λ n. take {A = ℕ} n (128 ∷ replicate 15 0)) e ∙ ap (λ l. 128 ∷ l) (take-zeros (15 - k) 15 (omega arith))

pub padded-length : (x : List ℕ) → length (padded x) ≡ padded_length (length x)
unfolding padded padded_length
padded-length x = simp (length-append, length-replicate) (omega arith)

pub pads_not : (n : ℕ) (old : List ℕ) → length old < padded_length n → Pads n old None old
unfolding padding padded_in padded_number
pads_not n old h =
    let e = lt-leb (padded_length n) (length old) h in
    record { told = rw e refl; left = rw e refl; number = rw e refl }

pads : (n : ℕ) (old new : List ℕ) → n + (16 - n % 16) ≤ length old
    → new ≡ laid (take (16 - n % 16) (128 ∷ replicate 15 0)) n old → Pads n old (Some (n + (16 - n % 16))) new
unfolding padding padded_in padded_number padded_length padded
pads n old new f e =
    let g : n / 16 * 16 + 16 ≤ length old = omega arith in
    let q : n + (16 - n % 16) ≡ n / 16 * 16 + 16 = omega arith in
    let p : List ℕ = 128 ∷ replicate (15 - n % 16) 0 in
    let r : new ≡ laid p n old = e ∙ ap (λ l. laid l n old) (piece (n % 16) (omega arith)) in
    let h : Holds (take n old ++ p) old new (n / 16 * 16 + 16) =
    also (fronted n old (omega arith)) p (n / 16 * 16 + 16) (simp length-replicate (omega arith)) g r in
    record {
      told = rw (le-leb (n / 16 * 16 + 16) (length old) g) (ap Some q);
      left = rw (le-leb (n / 16 * 16 + 16) (length old) g, length-take-le n old (omega arith)) h.is;
      number = rw (le-leb (n / 16 * 16 + 16) (length old) g) refl;
    }

pub pads_copied : (n : ℕ) (old s : List ℕ) → n + (16 - n % 16) ≤ length old → s ≡ take (16 - n % 16) (128 ∷ replicate 15 0)
    → Pads n old (Some (n + (16 - n % 16))) (put_mid n (n + (16 - n % 16) - n) old s)
pads_copied n old s f e =
    let k = 16 - n % 16 in
    let l : length s ≡ k = ap length e ∙ length-take-le k (128 ∷ replicate 15 0) (omega arith) in
    pads n old _ f (put_laid n (n + k - n) old s (l ∙ omega arith) (omega arith) ∙ ap (λ p. laid p n old) e)

-- ---- the mark
pub mark_step : (k : ℕ) (s : List ℕ) (n : ℕ) → 0 < k
    → mark k s n ≡ pick (eqb (byte_at s (n - 1)) 128) (Some (n - 1)) (pick (eqb (byte_at s (n - 1)) 0) (mark (k - 1) s (n - 1)) None)
unfolding mark
mark_step zero s n h = absurd (omega arith)
mark_step (suc k) s n h =
    let e : k ≡ suc k - 1 = omega arith in
    ap (λ m. pick (eqb (byte_at s (n - 1)) 128) (Some (n - 1)) (pick (eqb (byte_at s (n - 1)) 0) (mark m s (n - 1)) None)) e

mark_none : (s : List ℕ) (n : ℕ) → mark 0 s n ≡ None
unfolding mark
mark_none s n = refl

mark_more : (k : ℕ) (s : List ℕ) (n : ℕ)
    → mark (suc k) s n ≡ pick (eqb (byte_at s (n - 1)) 128) (Some (n - 1)) (pick (eqb (byte_at s (n - 1)) 0) (mark k s (n - 1)) None)
unfolding mark
mark_more k s n = refl

pub unpad_is : (s : List ℕ) → pick (blocks (length s)) (mark 16 s (length s)) None ≡ unpad s
unfolding unpad
unpad_is s = refl

-- what a length of whole blocks is
pub whole_of : (n : ℕ) → blocks n ≡ true → n % 16 ≡ 0
unfolding blocks
whole_of n e = eqb-true (n % 16) 0 (and_left (eqb (n % 16) 0) (leb 16 n) e)

pub least_of : (n : ℕ) → blocks n ≡ true → 16 ≤ n
unfolding blocks
least_of n e = leb-true 16 n (and_right (eqb (n % 16) 0) (leb 16 n) e)

-- what a mark that is found says of the bytes below n
pub record Marked (s : List ℕ) (n k j : ℕ) : Type 0 where
  pub is : byte_at s j ≡ 128
  pub below : j < n
  pub near : n ≤ j + k
  pub zeros : (i : ℕ) → j < i → i < n → byte_at s i ≡ 0

mark_cases : (k : ℕ) (s : List ℕ) (n j : ℕ) → k < n → (mark k s (n - 1) ≡ Some j → Marked s (n - 1) k j) → (t u : Bool)
    → eqb (byte_at s (n - 1)) 128 ≡ t → eqb (byte_at s (n - 1)) 0 ≡ u
    → pick t (Some (n - 1)) (pick u (mark k s (n - 1)) None) ≡ Some j → Marked s n (suc k) j
mark_cases k s n j h f true u p q e =
    let i : n - 1 ≡ j = cc in
    record {
      is = ap (byte_at s) (sym i) ∙ eqb-true (byte_at s (n - 1)) 128 p;
      below = omega arith;
      near = omega arith;
      zeros = λ m a b. absurd (omega arith);
    }
mark_cases k s n j h f false true p q e =
    let r = f e in
    record {
      is = r.is;
      below = omega (arith, r.below);
      near = omega (arith, r.near);
      zeros = λ m a b. ⊎_elim
          (λ g. let i : m ≡ n - 1 = omega arith in ap (byte_at s) i ∙ eqb-true (byte_at s (n - 1)) 0 q)
          (λ g. r.zeros m a g) (le_or_lt (n - 1) m);
    }
mark_cases k s n j h f false false p q e = let z : ◌≡◌ {A = ℕ} 0 1 = cc in absurd (omega arith)

pub mark-says : (k : ℕ) (s : List ℕ) (n j : ℕ) → k ≤ n → mark k s n ≡ Some j → Marked s n k j
mark-says zero s n j h e = let z : ◌≡◌ {A = ℕ} 0 1 = cc (mark_none s n) in absurd (omega arith)
mark-says (suc k) s n j h e =
    mark_cases k s n j (omega arith) (mark-says k s (n - 1) j (omega arith)) (eqb (byte_at s (n - 1)) 128) (eqb (byte_at s (n - 1)) 0) refl refl
    (sym (mark_more k s n) ∙ e)

-- what a text that unpads is shorter than
pub unpad-below : (s : List ℕ) (j : ℕ) → unpad s ≡ Some j → j < length s
unpad-below s j e = below_case (blocks (length s)) refl (unpad_is s ∙ e)
  where
    below_case : (t : Bool) → blocks (length s) ≡ t → pick t (mark 16 s (length s)) None ≡ Some j → j < length s
    below_case true p q = (mark-says 16 s (length s) j (least_of (length s) p) q).below
    below_case false p q = let z : ◌≡◌ {A = ℕ} 0 1 = cc in absurd (omega arith)
