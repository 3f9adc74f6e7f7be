-- Padding and its opposite: a padded text unpads to the text, and a text that unpads is the padding of what it gives; so what unpads is what is padded.
use mathlib.Core.Bool.{Bool, true, false}
use mathlib.Core.Path.{◌≡◌, refl, sym, ap, ap₂, ◌∙◌}
use mathlib.Core.List.{List, ◌∷◌, ◌++◌}
use mathlib.Core.Logic.{⊎_elim}
use Rattle.std.proofs.Common.{Option, Some, None}
use Prim.Native.Nat.{ℕ, zero, suc, ◌+◌, ◌-◌, ◌*◌, ◌/◌, ◌%◌, ◌≤◌, ◌<◌}
use native.Mathlib.Omega.{arith}
use lib.ListN.{length, take, drop, replicate, length-drop, length-replicate}
use lib.Seq.{length-take-le, split_at, get_or-append_seam, get_or-append-add, get_or-drop, ext_get_or}
use borrow.Author.Tests.{eq-eqb, le-leb}
use Rattle.base.specs.Decide.{pick, or}
use Rattle.base.specs.Bytes.{byte_at, same}
use Rattle.base.proofs.Bytes.{le_or_lt, same_true, same_refl}
use Rattle.padding.specs.Padding.{padded, padded_length, blocks, mark, unpad, padded_below, is_padded, unpadded_status}
use Rattle.padding.proofs.Unpadding.{padded-length, mark_step, unpad_is, whole_of, least_of, Marked, mark-says, unpad-below}

-- 80 with z zeros behind it is found
mark-found : (z k : ℕ) (s : List ℕ) (m : ℕ) → z < k → byte_at s m ≡ 128 → ((j : ℕ) → m < j → j ≤ m + z → byte_at s j ≡ 0)
    → mark k s (m + 1 + z) ≡ Some m
mark-found zero k s m h e f =
    let q : m + 1 + 0 - 1 ≡ m = omega arith in
    mark_step k s (m + 1 + 0) (omega arith) ∙ rw (q, e) refl
mark-found (suc z) k s m h e f =
    let q : m + 1 + suc z - 1 ≡ m + 1 + z = omega arith in
    mark_step k s (m + 1 + suc z) (omega arith)
    ∙ rw (q, f (m + 1 + z) (omega arith) (omega arith)) (mark-found z (k - 1) s m (omega arith) e (λ j a b. f j a (omega arith)))

zeros_at : (n i : ℕ) → byte_at (replicate {A = ℕ} n 0) i ≡ 0
zeros_at zero i = refl
zeros_at (suc n) zero = refl
zeros_at (suc n) (suc i) = zeros_at n i

at_mark : (x : List ℕ) → byte_at (padded x) (length x) ≡ 128
unfolding padded
at_mark x = get_or-append_seam x 128 (replicate (15 - length x % 16) 0) 0

behind-mark : (x : List ℕ) (j : ℕ) → length x < j → byte_at (padded x) j ≡ 0
unfolding padded
behind-mark x j h =
    let z : List ℕ = replicate (15 - length x % 16) 0 in
    let e : j ≡ length x + suc (j - length x - 1) = omega arith in
    ap (λ n. byte_at (x ++ 128 ∷ z) n) e ∙ get_or-append-add x (128 ∷ z) (suc (j - length x - 1)) 0 ∙ zeros_at (15 - length x % 16) (j - length x - 1)

-- unpadding a padded text gives the text
pub unpad-padded : (x : List ℕ) → unpad (padded x) ≡ Some (length x)
unfolding unpad blocks padded_length
unpad-padded x =
    let n = length x / 16 * 16 + 16 in
    let l : length (padded x) ≡ n = padded-length x in
    let q : n ≡ length x + 1 + (15 - length x % 16) = omega arith in
    rw (l, eq-eqb (n % 16) 0 (omega arith), le-leb 16 n (omega arith), q)
    (mark-found (15 - length x % 16) 16 (padded x) (length x) (omega arith) (at_mark x) (λ j a b. behind-mark x j a))

rest-zeros : (s : List ℕ) (n : ℕ) → ((i : ℕ) → n ≤ i → i < length s → byte_at s i ≡ 0) → drop n s ≡ replicate (length s - n) 0
rest-zeros s n f =
    ext_get_or 0 (drop n s) (replicate (length s - n) 0) (length-drop n s ∙ sym (length-replicate (length s - n) 0))
    (λ i h. get_or-drop n s i 0 ∙ f (n + i) (omega arith) (omega (arith, length-drop n s)) ∙ sym (zeros_at (length s - n) i))

-- a text that unpads is the padding of what it gives
padded_marked : (s : List ℕ) (j : ℕ) → length s % 16 ≡ 0 → Marked s (length s) 16 j → padded (take j s) ≡ s
unfolding padded
padded_marked s j h m =
    let l : length (take j s) ≡ j = length-take-le j s (omega (arith, m.below)) in
    let z : 15 - j % 16 ≡ length s - suc j = omega (arith, m.below, m.near) in
    rw (l, z) (sym (split_at s j 0 m.below ∙ ap₂ (λ b r. take j s ++ b ∷ r) m.is (rest-zeros s (suc j) (λ i a b. m.zeros i (omega arith) b))))

blocks_case : (s : List ℕ) (j : ℕ) (t : Bool) → blocks (length s) ≡ t → pick t (mark 16 s (length s)) None ≡ Some j → padded (take j s) ≡ s
blocks_case s j true p q = padded_marked s j (whole_of (length s) p) (mark-says 16 s (length s) j (least_of (length s) p) q)
blocks_case s j false p q = let z : ◌≡◌ {A = ℕ} 0 1 = cc in absurd (omega arith)

pub padded-unpad : (s : List ℕ) (j : ℕ) → unpad s ≡ Some j → padded (take j s) ≡ s
padded-unpad s j e = blocks_case s j (blocks (length s)) refl (unpad_is s ∙ e)

-- ---- the status
or_right : (a : Bool) → or a true ≡ true
or_right true = refl
or_right false = refl

below_has : (n : ℕ) (s : List ℕ) (j : ℕ) → j < n → padded (take j s) ≡ s → padded_below n s ≡ true
unfolding padded_below
below_has zero s j h e = absurd (omega arith)
below_has (suc n) s j h e =
    ⊎_elim
    (λ k. let q : n ≡ j = omega arith in rw (q, e, same_refl s) refl)
    (λ k. rw (below_has n s j k e) (or_right (same (padded (take n s)) s)))
    (le_or_lt n j)

below_unpads : (n : ℕ) (s : List ℕ) → padded_below n s ≡ true → unpadded_status (unpad s) ≡ 0x9100
unfolding padded_below unpadded_status
below_unpads zero s e = let z : ◌≡◌ {A = ℕ} 0 1 = ap (λ (t : Bool). pick t 1 0) e in absurd (omega arith)
below_unpads (suc n) s e = by (same (padded (take n s)) s) refl e (below_unpads n s)
  where
    by : (t : Bool) → same (padded (take n s)) s ≡ t → or t (padded_below n s) ≡ true
        → (padded_below n s ≡ true → unpadded_status (unpad s) ≡ 0x9100) → unpadded_status (unpad s) ≡ 0x9100
    by true p q f = ap unpadded_status (ap unpad (sym (same_true (padded (take n s)) s p)) ∙ unpad-padded (take n s))
    by false p q f = f q

not-padded : (s : List ℕ) (u : Option ℕ) → unpad s ≡ u → is_padded s ≡ false → unpadded_status u ≡ 0x911E
unfolding is_padded unpadded_status
not-padded s (Some j) e f =
    let g = below_has (length s) s j (unpad-below s j e) (padded-unpad s j e) in
    let z : ◌≡◌ {A = ℕ} 0 1 = ap (λ (t : Bool). pick t 1 0) (sym f ∙ g) in
    absurd (omega arith)
not-padded s None e f = refl

status_of : (s : List ℕ) (t : Bool) → is_padded s ≡ t → unpadded_status (unpad s) ≡ pick t 0x9100 0x911E
unfolding is_padded
status_of s true e = below_unpads (length s) s e
status_of s false e = not-padded s (unpad s) refl e

-- 9100 for a text with its padding, 911E for any other
pub told_status : (s : List ℕ) (r : Option ℕ) → r ≡ unpad s → unpadded_status r ≡ pick (is_padded s) 0x9100 0x911E
told_status s r e = ap unpadded_status e ∙ status_of s (is_padded s) refl
