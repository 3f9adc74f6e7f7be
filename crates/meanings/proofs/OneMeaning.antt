-- One meaning, one normal string.
use mathlib.Core.Path.{◌≡◌, refl, sym, ap, ◌∙◌}
use mathlib.Core.Bool.{Bool, true, false}
use mathlib.Core.List.{List, [], ◌∷◌, ◌++◌}
use Prim.Native.Nat.{ℕ, zero, suc, ◌+◌, ◌≤◌, ◌<◌}
use native.Mathlib.Omega.{arith}
use lib.ListN.{length}
use borrow.Author.Tests.{le-leb, eq-eqb}
use Rattle.std.specs.Prelude.{Result, Ok}
use Rattle.base.specs.Decide.{pick, and}
use Rattle.base.specs.Bytes.{byte_at, AllBytes, low}
use Rattle.base.proofs.Numbers.{low-bytes}
use Rattle.fields.specs.declared.Head.{Head}
use Rattle.fields.specs.declared.Settings.{Settings}
use Rattle.rules.specs.declared.Part.{Part}
use Rattle.rules.specs.declared.Check.{Check}
use Rattle.rules.specs.declared.Part.TheVariants.{OptionByte, RightsBytes, SdmOptionsByte, SdmRightsBytes, Whole}
use Rattle.rules.specs.declared.Check.TheVariants.{OptionBits, SdmFile, Rights, SdmOptionsBits, SdmRights, MetaMirrors, MetaOff, EncNeeds}
use Rattle.rules.specs.declared.findings.Broken.{Broken}
use Rattle.fields.specs.Fields.{sdm_on, head_of, present, written, listed, read_of, size_of, front_bytes, sdm_bytes, string_of}
use Rattle.rules.specs.Rules.{Rule, there, right, found, kept, option_bits, sdm_file, rights, sdm_options_bits, sdm_rights}
use Rattle.rules.specs.Rules.{position_rules, sdm_rules, rest_rules, rules, fields_fit, sdm_meets, sdm_absent, sdm_part, modes, meets}
use Rattle.settings.specs.Answers.{judged}
use Rattle.meanings.specs.Meaning.{OneString, SameMeaning}
use Rattle.meanings.proofs.Bits.{one_small, mode_is, option_good, packed-good}
use Rattle.meanings.proofs.Kept.{front_kept, sdm_kept, kept_is, rules_kept, rest_on, rest_off}
use Rattle.writing.proofs.Meets.{meets-parts, sdm-parts, meets-rights}
use Rattle.meanings.proofs.Mirrors.{positions_kept}
use Rattle.meanings.proofs.NormalForm.{normal-reads}
use Rattle.meanings.proofs.RoundTrip as trip
use Rattle.writing.proofs.Small.{mode_small, rights_small, sdm_small}
use Rattle.meanings.proofs.Walk.{written-length, fields_fit_lem}

and_both : {a b : Bool} → a ≡ true → b ≡ true → and a b ≡ true
and_both {a} {b} p q = rw (p, q) refl

-- ---- what a good string means meets the rules
absent_read : (s : List ℕ) → sdm_on s ≡ false → sdm_absent (head_of s) ≡ true
unfolding sdm_absent head_of
absent_read s e = rw (trip.zero_byte s 3 e, trip.zero_byte s 4 e, trip.zero_byte s 5 e) refl

kept_true : {f : Result (Unit {0}) Broken} → f ≡ Ok tt → kept f ≡ true
unfolding kept
kept_true e = ap kept e

part_read : (n : ℕ) (s : List ℕ) → judged n s ≡ Ok tt → sdm_part (read_of s) ≡ true
unfolding sdm_part sdm_meets read_of
part_read n s e = by (sdm_on s) refl
  where
    by : (t : Bool) → sdm_on s ≡ t → sdm_part (read_of s) ≡ true
    by true o =
        let k = sdm_kept n s e o in
        ap (λ t. pick t (sdm_meets (read_of s)) (sdm_absent (head_of s))) (trip.sdm_of s ∙ o)
        ∙ and_both (and_both k.conditions (and_both k.mirrors (and_both k.none k.needs))) (kept_true (positions_kept n s e))
    by false o = ap (λ t. pick t (sdm_meets (read_of s)) (sdm_absent (head_of s))) (trip.sdm_of s ∙ o) ∙ absent_read s o

mode_read : (s : List ℕ) → modes (head_of s).mode ≡ true
unfolding head_of
mode_read s = mode_is (byte_at s 0)

-- Of a good string of bytes, what it means meets the rules
pub good-meets : (n : ℕ) (s : List ℕ) → AllBytes s → judged n s ≡ Ok tt → meets n (read_of s) ≡ true
unfolding meets read_of
good-meets n s b e =
    let k = front_kept n s e in
    and_both (and_both (mode_read s) (and_both k.file k.conditions))
    (and_both (ap (λ v. fields_fit (present (head_of s)) v) (trip.listed_places s (head_of s)) ∙ fields_fit_lem (present (head_of s)) s 6 b) (part_read n s e))

-- ---- the string of a record that meets the rules is good
there_kept : (p : Part) (b : Bool) (rs : List Rule) → b ≡ true → found rs ≡ Ok tt → found (there p b ∷ rs) ≡ Ok tt
unfolding found
there_kept p b rs h e = rw h e

right_kept : (k : Check) (b : Bool) (rs : List Rule) → b ≡ true → found rs ≡ Ok tt → found (right k b ∷ rs) ≡ Ok tt
unfolding found
right_kept k b rs h e = rw h e

front_first : (h : Head) (w : List ℕ) → modes h.mode ≡ true → option_bits (byte_at (front_bytes h ++ w) 0) ≡ true
unfolding front_bytes
front_first h w m = option_good h.mode h.sdm (mode_small h.mode m)

front_long : (h : Head) (w : List ℕ) → length (front_bytes h ++ w) ≡ 3 + length w
unfolding front_bytes
front_long h w = omega arith

sdm_long : (h : Head) (w : List ℕ) → length (sdm_bytes h ++ w) ≡ 3 + length w
unfolding sdm_bytes
sdm_long h w = omega arith

sdm_first : (h : Head) (w : List ℕ) → sdm_options_bits (byte_at (front_bytes h ++ (sdm_bytes h ++ w)) 3) ≡ true
unfolding front_bytes sdm_bytes
sdm_first h w = packed-good h.uid h.counter h.limit h.enc

-- the rules of a string whose parts are known
string_kept : (n : ℕ) (s : List ℕ) (h : Head) → 1 ≤ n → n ≤ 3 → head_of s ≡ h → 3 ≤ length s → option_bits (byte_at s 0) ≡ true → sdm_file n h ≡ true → rights h ≡ true
    → found (rest_rules s h) ≡ Ok tt → judged n s ≡ Ok tt
unfolding rules
string_kept n s h i j e l o f r k =
    rules_kept n s i j
    (there_kept OptionByte _ _ (le-leb 1 (length s) (omega arith))
    (right_kept OptionBits _ _ o
    (right_kept SdmFile _ _ (ap (λ x. sdm_file n x) e ∙ f)
    (there_kept RightsBytes _ _ (le-leb 3 (length s) l)
    (right_kept Rights _ _ (ap rights e ∙ r)
    (ap (λ x. found (rest_rules s x)) e ∙ k))))))

judged_on : (n : ℕ) (r : Settings) → 1 ≤ n → n ≤ 3 → meets n r ≡ true → r.head.sdm ≡ true
    → judged n (front_bytes r.head ++ (sdm_bytes r.head ++ written (present r.head) (listed r.places))) ≡ Ok tt
unfolding sdm_rules
judged_on n r i j e o =
    let h = r.head in
    let w = written (present h) (listed r.places) in
    let s = front_bytes h ++ (sdm_bytes h ++ w) in
    let m = meets-parts n r e in
    let x = trip.whole_on n r e o in
    let p = sdm-parts r (trip.part_on n r e o) in
    let l : length (front_bytes h ++ (sdm_bytes h ++ w)) ≡ 6 + length w = omega (arith, front_long h (sdm_bytes h ++ w), sdm_long h w) in
    let z : length (front_bytes h ++ (sdm_bytes h ++ w)) ≡ size_of h = l ∙ written-length (present h) (listed r.places) 6 (trip.same_number h r.places) ∙ sym (trip.size_on h o) in
    string_kept n s h i j x.head (omega arith) (front_first h (sdm_bytes h ++ w) m.mode) m.file m.conditions
    (ap found (rest_on s h (trip.front-sdm h (sdm_bytes h ++ w) m.mode ∙ o))
    ∙ there_kept SdmOptionsByte _ _ (le-leb 4 (length s) (omega arith))
    (right_kept SdmOptionsBits _ _ (sdm_first h w)
    (there_kept SdmRightsBytes _ _ (le-leb 6 (length s) (omega arith))
    (right_kept SdmRights _ _ p.conditions
    (right_kept MetaMirrors _ _ p.mirrors
    (right_kept MetaOff _ _ p.none
    (right_kept EncNeeds _ _ p.needs
    (there_kept Whole _ _ (eq-eqb _ _ z)
    (ap (λ y. found (position_rules (record { head = h; places = y }))) x.places ∙ kept_is _ p.positions)))))))))

three_is : (h : Head) → length (front_bytes h) ≡ 3
unfolding front_bytes
three_is h = refl

three_long : (h : Head) → 3 ≤ length (front_bytes h)
three_long h = let e = three_is h in omega arith

first_alone : (h : Head) → modes h.mode ≡ true → option_bits (byte_at (front_bytes h) 0) ≡ true
unfolding front_bytes
first_alone h m = option_good h.mode h.sdm (mode_small h.mode m)

none_found : found [] ≡ Ok tt
unfolding found
none_found = refl

judged_off : (n : ℕ) (r : Settings) → 1 ≤ n → n ≤ 3 → meets n r ≡ true → r.head.sdm ≡ false → judged n (front_bytes r.head) ≡ Ok tt
judged_off n r i j e o =
    let h = r.head in
    let m = meets-parts n r e in
    let x = trip.whole_off n r e o in
    string_kept n (front_bytes h) h i j x.head (three_long h) (first_alone h m.mode) m.file m.conditions
    (ap found (rest_off (front_bytes h) h (trip.front-sdm_alone h m.mode ∙ o))
    ∙ there_kept Whole _ _ (eq-eqb _ _ (three_is h ∙ sym (trip.size_off h o))) none_found)

-- The string of a record that meets the rules is good
pub written-good : (n : ℕ) (r : Settings) → 1 ≤ n → n ≤ 3 → meets n r ≡ true → judged n (string_of r) ≡ Ok tt
written-good n r i j e = by r.head.sdm refl
  where
    by : (t : Bool) → r.head.sdm ≡ t → judged n (string_of r) ≡ Ok tt
    by true o = ap (λ s. judged n s) (trip.whole_on n r e o).is ∙ judged_on n r i j e o
    by false o = ap (λ s. judged n s) (trip.whole_off n r e o).is ∙ judged_off n r i j e o

-- ---- and made of bytes
bytes-append : (a b : List ℕ) → AllBytes a → AllBytes b → AllBytes (a ++ b)
unfolding AllBytes
bytes-append [] b p q i = q i
bytes-append (x ∷ a) b p q zero = p 0
bytes-append (x ∷ a) b p q (suc i) = bytes-append a b (λ k. p (suc k)) q i

bytes_none : AllBytes []
unfolding AllBytes
bytes_none i = omega arith

bytes-three : (a b c : ℕ) → a < 256 → b < 256 → c < 256 → AllBytes (a ∷ b ∷ c ∷ [])
unfolding AllBytes
bytes-three a b c p q r zero = p
bytes-three a b c p q r (suc zero) = q
bytes-three a b c p q r (suc (suc zero)) = r
bytes-three a b c p q r (suc (suc (suc i))) = omega arith

piece_bytes : (p : Bool) (v : ℕ) → AllBytes (pick p (low 3 v) [])
piece_bytes true v = low-bytes 3 v
piece_bytes false v = bytes_none

written-bytes : (ps : List Bool) (vs : List ℕ) → AllBytes (written ps vs)
unfolding written
written-bytes [] vs = bytes_none
written-bytes (p ∷ ps) [] = bytes_none
written-bytes (p ∷ ps) (v ∷ vs) = bytes-append (pick p (low 3 v) []) (written ps vs) (piece_bytes p v) (written-bytes ps vs)

front_bytes_lem : (h : Head) → modes h.mode ≡ true → rights h ≡ true → AllBytes (front_bytes h)
unfolding front_bytes
front_bytes_lem h m r =
    let f = rights_small h r in
    let l = mode_small h.mode m in
    let o = one_small h.sdm in
    bytes-three _ _ _ (omega arith) (omega (arith, f.both, f.change)) (omega (arith, f.read, f.write))

sdm-bytes : (h : Head) → sdm_rights h ≡ true → AllBytes (sdm_bytes h)
unfolding sdm_bytes
sdm-bytes h r =
    let g = sdm_small h r in
    let a = one_small h.uid in
    let b = one_small h.counter in
    let c = one_small h.limit in
    let d = one_small h.enc in
    bytes-three _ _ _ (omega arith) (omega (arith, g.ret)) (omega (arith, g.meta, g.file))

rest-bytes : (t : Bool) (l : List ℕ) → AllBytes l → AllBytes (pick t l [])
rest-bytes true l b = b
rest-bytes false l b = bytes_none

pub string_bytes : (n : ℕ) (r : Settings) → meets n r ≡ true → AllBytes (string_of r)
unfolding string_of
string_bytes n r e =
    let m = meets-parts n r e in
    bytes-append (front_bytes r.head) _ (front_bytes_lem r.head m.mode m.conditions)
    (rest-bytes r.head.sdm _
    (bytes-append (sdm_bytes r.head) _ (sdm-bytes r.head (meets-rights n r e)) (written-bytes (present r.head) (listed r.places))))

-- ---- the theorems
pub one_string : (n : ℕ) (r : Settings) → 1 ≤ n → n ≤ 3 → meets n r ≡ true → OneString n r (string_of r)
one_string n r i j e =
    let g = written-good n r i j e in
    let b = trip.read_written n r e in
    record {
      good = g;
      own = sym (trip.written_read n (string_of r) (string_bytes n r e) g) ∙ ap string_of b;
      reads = b;
      only = λ t y j o q. sym o ∙ sym (trip.written_read n t y j) ∙ ap string_of q;
    }

pub same_meaning : (n m : ℕ) (s t : List ℕ) → AllBytes s → AllBytes t → judged n s ≡ Ok tt → judged m t ≡ Ok tt → SameMeaning s t
same_meaning n m s t b c e f =
    record {
      if_read = λ q. sym (trip.written_read n s b e) ∙ ap string_of q ∙ trip.written_read m t c f;
      if_normal = λ q. sym (normal-reads s) ∙ ap read_of q ∙ normal-reads t;
    }
