-- Pieces of given widths: laid one behind the other, joined, and cut again. One law serves every field.
use mathlib.Core.Path.{◌≡◌, refl, sym, ap, subst, ◌∙◌}
use mathlib.Core.List.{List, [], ◌∷◌, ◌++◌, append_assoc, append-nil}
use Prim.Native.Nat.{ℕ, zero, suc, ◌+◌, ◌*◌, ◌≤◌, ◌<◌}
use native.Mathlib.Omega.{arith}
use lib.ListN.{length, get_or, take, drop, length-append, length-drop, take-append-drop}
use lib.Seq.{get_or-drop, get_or-take, take-append_seam, drop-append-add, drop-drop, take-add, take-length, length-take-le, ext_get_or}
use Rattle.base.specs.Bytes.{byte_at, laid, over, tab, number, low, AllBytes}
use Rattle.base.proofs.Bytes.{Holds, more, laid-whole, laid-length, tab-length, tab_at, take-bytes, drop-bytes}
use Rattle.base.proofs.Numbers.{low-number}
use Rattle.image.specs.Image.{join, bytes_from}

-- the widths of pieces, and the place behind them
abbrev pub lengths : List (List ℕ) → List ℕ
lengths [] = []
lengths (p ∷ ps) = length p ∷ lengths ps

abbrev pub sum : List ℕ → ℕ
sum [] = 0
sum (w ∷ ws) = w + sum ws

pub join-length : (ps : List (List ℕ)) → length (join ps) ≡ sum (lengths ps)
unfolding join
join-length [] = refl
join-length (p ∷ ps) = length-append p (join ps) ∙ ap (λ n. length p + n) (join-length ps)

pub joined_length : (ps : List (List ℕ)) (ws : List ℕ) → lengths ps ≡ ws → length (join ps) ≡ sum ws
joined_length ps ws e = join-length ps ∙ ap sum e

-- ---- writing
-- pieces laid one behind the other, each where the widths before it end
abbrev pub lays : List ℕ → List (List ℕ) → ℕ → List ℕ → List ℕ
lays [] ps i b = b
lays (w ∷ ws) [] i b = b
lays (w ∷ ws) (p ∷ ps) i b = lays ws ps (i + w) (laid p i b)

-- what stands in front of i, and then a piece
front-held : (i : ℕ) (b : List ℕ) → i ≤ length b → Holds (take i b) b b i
front-held i b h =
    record { is = rw (length-take-le i b h) (sym (take-append-drop i b)); len = sym (length-take-le i b h) }

-- one piece behind another is both joined
laid-laid : (p q : List ℕ) (i : ℕ) (b : List ℕ) → i + (length p + length q) ≤ length b
    → laid q (i + length p) (laid p i b) ≡ laid (p ++ q) i b
laid-laid p q i b h =
    let f = front-held i b (omega arith) in
    (more (more f p (laid p i b) (omega arith) refl) q (laid q (i + length p) (laid p i b)) (omega arith) refl).is
    ∙ ap (λ x. over x b) (append_assoc (take i b) p q)
    ∙ sym (more f (p ++ q) (laid (p ++ q) i b) (rw (length-append p q) h) refl).is

lays_join : (ps : List (List ℕ)) (i : ℕ) (b : List ℕ) → i + sum (lengths ps) ≤ length b → lays (lengths ps) ps i b ≡ laid (join ps) i b
unfolding join
lays_join [] i b h =
    let f = front-held i b (omega arith) in
    f.is ∙ ap (λ x. over x b) (sym (append-nil (take i b))) ∙ sym (more f [] (laid [] i b) h refl).is
lays_join (p ∷ ps) i b h =
    lays_join ps (i + length p) (laid p i b) (rw (laid-length p i b) (omega arith))
    ∙ laid-laid p (join ps) i b (rw (join-length ps) h)

-- pieces that fill the bytes
pub laid_all : (ws : List ℕ) (ps : List (List ℕ)) (b : List ℕ) → lengths ps ≡ ws → sum ws ≡ length b → lays ws ps 0 b ≡ join ps
laid_all ws ps b e h =
    let k : sum (lengths ps) ≡ length b = ap sum e ∙ h in
    ap (λ v. lays v ps 0 b) (sym e) ∙ lays_join ps 0 b (omega arith) ∙ laid-whole (join ps) b (join-length ps ∙ k)

-- ---- reading
-- the piece at index k of those that were joined
piece_at : (ps : List (List ℕ)) (k : ℕ) → bytes_from (join ps) (sum (take k (lengths ps))) (get_or (lengths ps) k 0) ≡ get_or ps k []
unfolding join
piece_at [] zero = refl
piece_at [] (suc k) = refl
piece_at (p ∷ ps) zero = take-append_seam p (join ps)
piece_at (p ∷ ps) (suc k) =
    ap (λ s. take (get_or (lengths ps) k 0) s) (drop-append-add p (join ps) (sum (take k (lengths ps)))) ∙ piece_at ps k

pub piece : (ws : List ℕ) (ps : List (List ℕ)) → lengths ps ≡ ws → (k : ℕ) → bytes_from (join ps) (sum (take k ws)) (get_or ws k 0) ≡ get_or ps k []
piece ws ps e k = subst (λ v. bytes_from (join ps) (sum (take k v)) (get_or v k 0) ≡ get_or ps k []) e (piece_at ps k)

-- the pieces of given widths from i on
abbrev pub cuts : List ℕ → ℕ → List ℕ → List (List ℕ)
cuts [] i s = []
cuts (w ∷ ws) i s = bytes_from s i w ∷ cuts ws (i + w) s

-- joined they are what was cut
join_cuts : (ws : List ℕ) (i : ℕ) (s : List ℕ) → join (cuts ws i s) ≡ bytes_from s i (sum ws)
unfolding join
join_cuts [] i s = refl
join_cuts (w ∷ ws) i s =
    ap (λ r. bytes_from s i w ++ r) (join_cuts ws (i + w) s ∙ ap (λ r. take (sum ws) r) (sym (drop-drop w i s)))
    ∙ sym (take-add w (sum ws) (drop i s))

pub cut_join : (ws : List ℕ) (s : List ℕ) → sum ws ≡ length s → join (cuts ws 0 s) ≡ s
cut_join ws s e = join_cuts ws 0 s ∙ ap (λ n. take n s) e ∙ take-length s

-- ---- bytes from an index on
pub bytes-from-length : (s : List ℕ) (i n : ℕ) → i + n ≤ length s → length (bytes_from s i n) ≡ n
bytes-from-length s i n h = length-take-le n (drop i s) (rw (length-drop i s) (omega arith))

pub bytes-from-bytes : (s : List ℕ) (i n : ℕ) → AllBytes s → AllBytes (bytes_from s i n)
bytes-from-bytes s i n h = take-bytes n (drop i s) (drop-bytes i s h)

-- its bytes one by one
pub bytes-from_one : (s : List ℕ) (i n j : ℕ) → j < n → byte_at (bytes_from s i n) j ≡ byte_at s (i + j)
bytes-from_one s i n j k = get_or-take n (drop i s) j 0 k ∙ get_or-drop i s j 0

pub bytes-from-tab : (s : List ℕ) (i n : ℕ) → i + n ≤ length s → bytes_from s i n ≡ tab n (λ j. byte_at s (i + j))
bytes-from-tab s i n h =
    ext_get_or 0 (bytes_from s i n) (tab n (λ j. byte_at s (i + j))) (bytes-from-length s i n h ∙ sym (tab-length n (λ j. byte_at s (i + j))))
    (λ j k. at j (subst (λ m. j < m) (bytes-from-length s i n h) k))
  where
    at : (j : ℕ) → j < n → byte_at (bytes_from s i n) j ≡ byte_at (tab n (λ j. byte_at s (i + j))) j
    at j k = bytes-from_one s i n j k ∙ sym (tab_at 0 n (λ j. byte_at s (i + j)) j k)

-- the bytes of the number that they stand for
pub bytes-from-low : (s : List ℕ) (i n : ℕ) → AllBytes s → i + n ≤ length s → low n (number (bytes_from s i n)) ≡ bytes_from s i n
bytes-from-low s i n a h =
    subst (λ m. low m (number (bytes_from s i n)) ≡ bytes_from s i n) (bytes-from-length s i n h) (low-number (bytes_from s i n) (bytes-from-bytes s i n a))
