-- Of every good string: each present span lies inside 256 bytes, no two share a byte, MAC input start and ENC lie as the
-- rules say; and it has 3 to 27 bytes.
use mathlib.Core.Path.{◌≡◌, refl, ap}
use mathlib.Core.Bool.{Bool, true, false, not}
use mathlib.Core.List.{List, [], ◌∷◌}
use mathlib.Core.Logic.{⊎_elim}
use Prim.Native.Nat.{ℕ, zero, suc, ◌+◌, ◌%◌, ◌≤◌, ◌<◌}
use native.Mathlib.Omega.{arith}
use lib.Dec.{eqb, leb}
use lib.ListN.{length, get_or}
use borrow.Author.Tests.{leb-true, eqb-true, ne_eqb, lt-leb}
use Rattle.std.specs.Prelude.{Ok}
use Rattle.base.specs.Decide.{pick, and, or}
use Rattle.base.specs.Bytes.{byte_at}
use Rattle.base.proofs.Bytes.{le_or_lt, and_left, and_right}
use Rattle.fields.specs.declared.Head.{Head}
use Rattle.fields.specs.declared.Settings.{Settings}
use Rattle.spans.specs.declared.Span.{Span}
use Rattle.fields.specs.Fields.{sdm_on, sdm_byte, head_of, has_uid, has_counter, has_picc, has_mac, has_enc, present, ends, places_in, read_of, size_of}
use Rattle.spans.specs.Spans.{span, uid_span, counter_span, picc_span, enc_span, mac_span, spans_of, end_of, Inside, Disjoint, inside, apart, apart_from, all_apart}
use Rattle.rules.specs.Rules.{found, enc_size, mac_input, enc_between, position_rules}
use Rattle.settings.specs.Answers.{judged}
use Rattle.meanings.specs.Placing.{none, Placed}
use Rattle.writing.proofs.Small.{or_true}
use Rattle.meanings.proofs.Kept.{off_size, sdm_kept, positions_held}

apart-disjoint : (a b : Span) → apart a b ≡ true → Disjoint a b
unfolding apart Disjoint
apart-disjoint a b e i p q =
    ⊎_elim (λ h. omega (arith, leb-true (end_of a) b.start h, p.from, p.below, q.from, q.below))
    (λ h. omega (arith, leb-true (end_of b) a.start h, p.from, p.below, q.from, q.below))
    (or_true (leb (end_of a) b.start) _ e)

none_disjoint : (a : Span) → Disjoint a none
unfolding Disjoint
none_disjoint a i p q = omega (arith, q.from, q.below)

from-disjoint : (a : Span) (ss : List Span) → apart_from a ss ≡ true → (k : ℕ) → Disjoint a (get_or ss k none)
unfolding apart_from
from-disjoint a [] e k = none_disjoint a
from-disjoint a (b ∷ ss) e zero = apart-disjoint a b (and_left (apart a b) (apart_from a ss) e)
from-disjoint a (b ∷ ss) e (suc k) = from-disjoint a ss (and_right (apart a b) (apart_from a ss) e) k

all_disjoint : (ss : List Span) → all_apart ss ≡ true → (j k : ℕ) → j < k → Disjoint (get_or ss j none) (get_or ss k none)
unfolding all_apart
all_disjoint [] e j k h = none_disjoint none
all_disjoint (a ∷ ss) e zero zero h = absurd (omega arith)
all_disjoint (a ∷ ss) e zero (suc k) h = from-disjoint a ss (and_left (apart_from a ss) (all_apart ss) e) k
all_disjoint (a ∷ ss) e (suc j) zero h = absurd (omega arith)
all_disjoint (a ∷ ss) e (suc j) (suc k) h = all_disjoint ss (and_right (apart_from a ss) (all_apart ss) e) j k (omega arith)

-- a condition "or not present" of something present
when : (p b : Bool) → p ≡ true → or (not p) b ≡ true → b ≡ true
when true b e h = h
when false b e h = cc

-- ---- with SDM off nothing is present
off_byte : (s : List ℕ) (i : ℕ) → sdm_on s ≡ false → sdm_byte s i ≡ 0
unfolding sdm_byte
off_byte s i e = ap (λ t. pick t (byte_at s i) 0) e

pub record Absent (h : Head) : Type 0 where
  pub uid : has_uid h ≡ false
  pub counter : has_counter h ≡ false
  pub picc : has_picc h ≡ false
  pub mac : has_mac h ≡ false
  pub enc : has_enc h ≡ false
  pub limit : h.limit ≡ false

pub off_absent : (s : List ℕ) → sdm_on s ≡ false → Absent (head_of s)
unfolding head_of has_uid has_counter has_picc has_mac has_enc
off_absent s e =
    let z = off_byte s 3 e in
    record {
      uid = rw z refl;
      counter = rw z refl;
      picc = rw e refl;
      mac = rw e refl;
      enc = rw z refl;
      limit = rw z refl;
    }

off_positions : (r : Settings) → Absent r.head → found (position_rules r) ≡ Ok tt
unfolding found position_rules enc_size mac_input enc_between span uid_span counter_span picc_span enc_span mac_span spans_of inside apart apart_from all_apart
off_positions r a = rw (a.uid, a.counter, a.picc, a.mac, a.enc) refl

on_positions : (s : List ℕ) → found (position_rules (record { head = head_of s; places = places_in s (head_of s) })) ≡ Ok tt
    → found (position_rules (read_of s)) ≡ Ok tt
unfolding read_of
on_positions s e = e

off_read : (s : List ℕ) → sdm_on s ≡ false → Absent (read_of s).head
unfolding read_of
off_read s e = off_absent s e

pub positions_kept : (n : ℕ) (s : List ℕ) → judged n s ≡ Ok tt → found (position_rules (read_of s)) ≡ Ok tt
positions_kept n s e = by (sdm_on s) refl
  where
    by : (t : Bool) → sdm_on s ≡ t → found (position_rules (read_of s)) ≡ Ok tt
    by true o = on_positions s (sdm_kept n s e o).positions
    by false o = off_positions (read_of s) (off_read s o)

-- ---- the theorem
inside-ends : (a : Span) → inside a ≡ true → end_of a ≤ 256
unfolding inside
inside-ends a e = leb-true (end_of a) 256 e

five : (a b c d e : Span) → inside a ≡ true → inside b ≡ true → inside c ≡ true → inside d ≡ true → inside e ≡ true
    → (j : ℕ) → end_of (get_or (a ∷ b ∷ c ∷ d ∷ e ∷ []) j none) ≤ 256
five a b c d e p q r s t zero = inside-ends a p
five a b c d e p q r s t (suc zero) = inside-ends b q
five a b c d e p q r s t (suc (suc zero)) = inside-ends c r
five a b c d e p q r s t (suc (suc (suc zero))) = inside-ends d s
five a b c d e p q r s t (suc (suc (suc (suc zero)))) = inside-ends e t
five a b c d e p q r s t (suc (suc (suc (suc (suc j))))) = omega arith

spans-inside : (r : Settings) → found (position_rules r) ≡ Ok tt → (j : ℕ) → end_of (get_or (spans_of r) j none) ≤ 256
unfolding spans_of
spans-inside r e j =
    let p = positions_held r e in
    five (uid_span r) (counter_span r) (picc_span r) (enc_span r) (mac_span r) p.uid p.counter p.picc p.enc p.mac j

mac_input_placed : (r : Settings) → mac_input r ≡ true → has_mac r.head ≡ true → r.places.input ≤ r.places.mac
unfolding mac_input
mac_input_placed r e m = leb-true _ _ (when (has_mac r.head) _ m e)

enc_size_placed : (r : Settings) → enc_size r ≡ true → has_enc r.head ≡ true → (r.places.size % 32 ≡ 0) × (32 ≤ r.places.size)
unfolding enc_size
enc_size_placed r e m =
    let b = when (has_enc r.head) (and (eqb (r.places.size % 32) 0) (leb 32 r.places.size)) m e in
    (eqb-true _ _ (and_left (eqb (r.places.size % 32) 0) _ b), leb-true _ _ (and_right (eqb (r.places.size % 32) 0) _ b))

enc_between_placed : (r : Settings) → enc_between r ≡ true → has_enc r.head ≡ true
    → (r.places.input ≤ r.places.enc) × (r.places.enc + r.places.size ≤ r.places.mac)
unfolding enc_between
enc_between_placed r e m =
    let b = when (has_enc r.head) (and (leb r.places.input r.places.enc) (leb (r.places.enc + r.places.size) r.places.mac)) m e in
    (leb-true _ _ (and_left (leb r.places.input r.places.enc) _ b), leb-true _ _ (and_right (leb r.places.input r.places.enc) _ b))

pub kept_placed : (r : Settings) → found (position_rules r) ≡ Ok tt → Placed r
unfolding Inside
kept_placed r e =
    let p = positions_held r e in
    record {
      end = spans-inside r e;
      inside = λ j i c. omega (arith, spans-inside r e j, c.below);
      disjoint = all_disjoint (spans_of r) p.shared;
      mac_input_fits = mac_input_placed r p.input;
      enc_size_fits = enc_size_placed r p.size;
      enc_lies_between = enc_between_placed r p.between;
    }

-- Of every good string
pub good_placed : (n : ℕ) (s : List ℕ) → judged n s ≡ Ok tt → Placed (read_of s)
good_placed n s e = kept_placed (read_of s) (positions_kept n s e)

-- ---- lengths
small : (p : Bool) → pick p 3 0 ≤ 3
small true = omega arith
small false = omega arith

and_false : (a b : Bool) → b ≡ false → and a b ≡ false
and_false true b e = e
and_false false b e = refl

no_uid : (h : Head) → h.sdm_meta_read ≤ 4 → has_uid h ≡ false
unfolding has_uid
no_uid h l = and_false h.uid (eqb h.sdm_meta_read 14) (ne_eqb h.sdm_meta_read 14 (λ e. omega arith))

no_picc : (h : Head) → 4 < h.sdm_meta_read → has_picc h ≡ false
unfolding has_picc
no_picc h l = and_false h.sdm (leb h.sdm_meta_read 4) (lt-leb h.sdm_meta_read 4 l)

-- UIDOffset and PICCDataOffset are not both there
not_both : (h : Head) → pick (has_uid h) 3 0 + pick (has_picc h) 3 0 ≤ 3
not_both h =
    ⊎_elim (λ (l : h.sdm_meta_read ≤ 4). rw (no_uid h l) (omega (arith, small (has_picc h))))
    (λ (l : 4 < h.sdm_meta_read). rw (no_picc h l) (omega (arith, small (has_uid h))))
    (le_or_lt h.sdm_meta_read 4)

size_bounds : (h : Head) → (3 ≤ size_of h) × (size_of h ≤ 27)
unfolding size_of ends present
size_bounds h = by h.sdm
  where
    by : (t : Bool) → (3 ≤ pick t (ends 6 (present h)) 3) × (pick t (ends 6 (present h)) 3 ≤ 27)
    by true =
        let a = not_both h in
        let b = small (has_counter h) in
        let c = small (has_mac h) in
        let d = small (has_enc h) in
        let e = small h.limit in
        (omega arith, omega arith)
    by false = (omega arith, omega arith)

pub good_size : (n : ℕ) (s : List ℕ) → judged n s ≡ Ok tt → length s ≡ size_of (head_of s)
good_size n s e = by (sdm_on s) refl
  where
    by : (t : Bool) → sdm_on s ≡ t → length s ≡ size_of (head_of s)
    by true o = (sdm_kept n s e o).whole
    by false o = off_size n s e o

-- A good string has 3 to 27 bytes
pub good_length : (n : ℕ) (s : List ℕ) → judged n s ≡ Ok tt → (3 ≤ length s) × (length s ≤ 27)
good_length n s e = let b = size_bounds (head_of s) in let l = good_size n s e in (omega arith, omega arith)
