-- Strings and records: writing what was read of a good string gives its normal form, and reading the string of a record that
-- meets the rules gives the record back.
use mathlib.Core.Path.{◌≡◌, refl, sym, ap, ap₂, ◌∙◌}
use mathlib.Core.Bool.{Bool, true, false, not}
use mathlib.Core.List.{List, [], ◌∷◌, ◌++◌, append_assoc}
use Prim.Native.Nat.{ℕ, ◌+◌, ◌*◌, ◌/◌, ◌%◌, ◌≤◌}
use native.Mathlib.Omega.{arith}
use lib.Dec.{eqb, leb}
use lib.ListN.{length, drop}
use borrow.Author.Tests.{eqb-true, not-true}
use Rattle.std.specs.Prelude.{Ok}
use Rattle.base.specs.Decide.{pick, and, or}
use Rattle.base.specs.Bytes.{byte_at, AllBytes}
use Rattle.base.proofs.Bytes.{and_left, and_right}
use Rattle.fields.specs.declared.Head.{Head}
use Rattle.fields.specs.declared.Places.{Places}
use Rattle.fields.specs.declared.Settings.{Settings}
use Rattle.fields.specs.Fields.{bit, sdm_on, sdm_byte, mode_of, head_of, has_uid, has_counter, has_picc, has_mac, has_enc}
use Rattle.fields.specs.Fields.{present, fields, ends, written, places_of, listed, places_in, read_of, size_of, front_bytes, sdm_bytes, string_of}
use Rattle.rules.specs.Rules.{option_bits, rights, sdm_options_bits, sdm_rights, field_fits, fields_fit, sdm_meets, sdm_absent, sdm_part, modes, meets}
use Rattle.fields.specs.Normal.{plain_mode, free_bits, normal}
use Rattle.settings.specs.Answers.{judged}
use Rattle.meanings.proofs.Bits.{mode_read, sdm_read, option_back, options_back, packed_7, packed_6, packed_5, packed_4}
use Rattle.meanings.proofs.Kept.{front_kept, sdm_kept, off_size}
use Rattle.writing.proofs.Laying.{string_on, string_off}
use Rattle.writing.proofs.Meets.{Both, both, meets-parts, meets-rights}
use Rattle.meanings.proofs.Mirrors.{Absent}
use Rattle.writing.proofs.Small.{mode_small, rights_small, sdm_small}
use Rattle.meanings.proofs.Walk.{fields-written, written-fields}

-- ---- places by name and in order
pub places_listed : (p : Places) → places_of (listed p) ≡ p
unfolding places_of listed
places_listed p = refl

pub listed_places : (s : List ℕ) (h : Head) → listed (places_in s h) ≡ fields s 6 (present h)
unfolding places_in places_of listed fields present
listed_places s h = refl

pub same_number : (h : Head) (p : Places) → length (present h) ≡ length (listed p)
unfolding present listed
same_number h p = refl

-- ---- writing what was read of a good string
on_byte : (s : List ℕ) (i : ℕ) → sdm_on s ≡ true → sdm_byte s i ≡ byte_at s i
unfolding sdm_byte
on_byte s i e = ap (λ t. pick t (byte_at s i) 0) e

-- a byte from its two halves
halves : (x : ℕ) → x / 16 * 16 + x % 16 ≡ x
halves x = omega arith

front-back : (s : List ℕ) → AllBytes s → option_bits (byte_at s 0) ≡ true → front_bytes (head_of s) ≡ plain_mode (byte_at s 0) ∷ byte_at s 1 ∷ byte_at s 2 ∷ []
unfolding front_bytes head_of sdm_on AllBytes
front-back s b e = rw (option_back (byte_at s 0) (b 0) e, halves (byte_at s 1), halves (byte_at s 2)) refl

sdm-back : (s : List ℕ) → AllBytes s → sdm_on s ≡ true → sdm_options_bits (byte_at s 3) ≡ true
    → sdm_bytes (head_of s) ≡ byte_at s 3 ∷ (240 + byte_at s 4 % 16) ∷ byte_at s 5 ∷ []
unfolding sdm_bytes head_of AllBytes
sdm-back s b o e =
    rw (on_byte s 3 o, on_byte s 4 o, on_byte s 5 o, options_back (byte_at s 3) (b 3) e, halves (byte_at s 5)) refl

normal_off : (s : List ℕ) → length s ≡ 3 → plain_mode (byte_at s 0) ∷ byte_at s 1 ∷ byte_at s 2 ∷ [] ≡ normal s
unfolding normal
normal_off [] l = absurd (omega arith)
normal_off (a ∷ []) l = absurd (omega arith)
normal_off (a ∷ b ∷ []) l = absurd (omega arith)
normal_off (a ∷ b ∷ c ∷ []) l = refl
normal_off (a ∷ b ∷ c ∷ d ∷ s) l = absurd (omega arith)

normal_on : (s : List ℕ) → 6 ≤ length s → sdm_on s ≡ true
    → plain_mode (byte_at s 0) ∷ byte_at s 1 ∷ byte_at s 2 ∷ byte_at s 3 ∷ (240 + byte_at s 4 % 16) ∷ byte_at s 5 ∷ drop 6 s ≡ normal s
unfolding normal free_bits
normal_on [] l o = absurd (omega arith)
normal_on (a ∷ []) l o = absurd (omega arith)
normal_on (a ∷ b ∷ []) l o = absurd (omega arith)
normal_on (a ∷ b ∷ c ∷ []) l o = absurd (omega arith)
normal_on (a ∷ b ∷ c ∷ d ∷ []) l o = absurd (omega arith)
normal_on (a ∷ b ∷ c ∷ d ∷ x ∷ []) l o = absurd (omega arith)
normal_on (a ∷ b ∷ c ∷ d ∷ x ∷ y ∷ s) l o =
    ap (λ t. plain_mode a ∷ b ∷ c ∷ d ∷ pick t (240 + x % 16) x ∷ y ∷ s) (sym o)

pub size_off : (h : Head) → h.sdm ≡ false → size_of h ≡ 3
unfolding size_of
size_off h e = ap (λ t. pick t (ends 6 (present h)) 3) e

pub size_on : (h : Head) → h.sdm ≡ true → size_of h ≡ ends 6 (present h)
unfolding size_of
size_on h e = ap (λ t. pick t (ends 6 (present h)) 3) e

fields_back : (s : List ℕ) (h : Head) → AllBytes s → h.sdm ≡ true → length s ≡ size_of h → written (present h) (listed (places_in s h)) ≡ drop 6 s
fields_back s h b o l =
    ap (λ v. written (present h) v) (listed_places s h) ∙ written-fields (present h) s 6 b (sym (l ∙ size_on h o))

pub sdm_of : (s : List ℕ) → (head_of s).sdm ≡ sdm_on s
unfolding head_of
sdm_of s = refl

-- Writing what was read of any good string gives its normal form
pub written_read : (n : ℕ) (s : List ℕ) → AllBytes s → judged n s ≡ Ok tt → string_of (read_of s) ≡ normal s
unfolding read_of
written_read n s b e = by (sdm_on s) refl
  where
    f : front_bytes (head_of s) ≡ plain_mode (byte_at s 0) ∷ byte_at s 1 ∷ byte_at s 2 ∷ []
    f = front-back s b (front_kept n s e).bits

    by : (t : Bool) → sdm_on s ≡ t → string_of (record { head = head_of s; places = places_in s (head_of s) }) ≡ normal s
    by true o =
        let k = sdm_kept n s e o in
        string_on (record { head = head_of s; places = places_in s (head_of s) }) (sdm_of s ∙ o)
        ∙ ap₂ (λ x y. x ++ y) f
        (ap₂ (λ x y. x ++ y) (sdm-back s b o k.bits) (fields_back s (head_of s) b (sdm_of s ∙ o) k.whole))
        ∙ normal_on s k.long o
    by false o =
        string_off (record { head = head_of s; places = places_in s (head_of s) }) (sdm_of s ∙ o)
        ∙ f
        ∙ normal_off s (off_size n s e o ∙ size_off (head_of s) (sdm_of s ∙ o))

-- ---- reading the string of a record
-- the fields in front from their bytes, those of SDM as they are read
front_of : (a b c o low high : ℕ) (t : Bool) → Head
front_of a b c o low high t =
    record {
      mode = mode_of a;
      read = c / 16;
      write = c % 16;
      read_write = b / 16;
      change = b % 16;
      sdm = t;
      uid = bit 7 o;
      counter = bit 6 o;
      limit = bit 5 o;
      enc = bit 4 o;
      sdm_meta_read = high / 16;
      sdm_file_read = high % 16;
      sdm_ctr_ret = low % 16;
    }

head_front : (s : List ℕ) → head_of s ≡ front_of (byte_at s 0) (byte_at s 1) (byte_at s 2) (sdm_byte s 3) (sdm_byte s 4) (sdm_byte s 5) (sdm_on s)
unfolding head_of front_of
head_front s = refl

high : (a b : ℕ) → b ≤ 15 → (a * 16 + b) / 16 ≡ a
high a b h = omega arith

low_half : (a b : ℕ) → b ≤ 15 → (a * 16 + b) % 16 ≡ b
low_half a b h = omega arith

ret_read : (a : ℕ) → a ≤ 15 → (240 + a) % 16 ≡ a
ret_read a h = omega arith

pub front-sdm : (h : Head) (w : List ℕ) → modes h.mode ≡ true → sdm_on (front_bytes h ++ w) ≡ h.sdm
unfolding front_bytes sdm_on
front-sdm h w e = sdm_read h.mode h.sdm (mode_small h.mode e)

head_on : (h : Head) (w : List ℕ) → h.sdm ≡ true → modes h.mode ≡ true → rights h ≡ true → sdm_rights h ≡ true
    → head_of (front_bytes h ++ (sdm_bytes h ++ w)) ≡ h
unfolding front_bytes sdm_bytes front_of
head_on h w o m r q =
    let s : List ℕ = front_bytes h ++ (sdm_bytes h ++ w) in
    let t = front-sdm h (sdm_bytes h ++ w) m in
    let f = rights_small h r in
    let g = sdm_small h q in
    let x = on_byte (front_bytes h ++ (sdm_bytes h ++ w)) in
    let y = t ∙ o in
    head_front (front_bytes h ++ (sdm_bytes h ++ w))
    ∙ rw (
      x 3 y,
      x 4 y,
      x 5 y,
      t,
      mode_read h.mode h.sdm m,
      high h.read h.write f.write,
      low_half h.read h.write f.write,
      high h.read_write h.change f.change,
      low_half h.read_write h.change f.change,
      high h.sdm_meta_read h.sdm_file_read g.file,
      low_half h.sdm_meta_read h.sdm_file_read g.file,
      ret_read h.sdm_ctr_ret g.ret,
      packed_7 h.uid h.counter h.limit h.enc,
      packed_6 h.uid h.counter h.limit h.enc,
      packed_5 h.uid h.counter h.limit h.enc,
      packed_4 h.uid h.counter h.limit h.enc,
    )
    refl

-- with SDM off its parts are 0
module _ (m r w b c x f q : ℕ) (t u k l e : Bool) where
  without : u ≡ false → k ≡ false → l ≡ false → e ≡ false → x ≡ 0 → f ≡ 0 → q ≡ 0
      → ◌≡◌ {A = Head} (record {
        mode = m;
        read = r;
        write = w;
        read_write = b;
        change = c;
        sdm = t;
        uid = false;
        counter = false;
        limit = false;
        enc = false;
        sdm_meta_read = 0;
        sdm_file_read = 0;
        sdm_ctr_ret = 0;
      })
      (record { mode = m; read = r; write = w; read_write = b; change = c; sdm = t; uid = u; counter = k; limit = l; enc = e; sdm_meta_read = x; sdm_file_read = f; sdm_ctr_ret = q })
  without pu pk pl pe px pf pq = rw (pu, pk, pl, pe, px, pf, pq) refl

pub record Off (h : Head) : Type 0 where
  pub uid : h.uid ≡ false
  pub counter : h.counter ≡ false
  pub limit : h.limit ≡ false
  pub enc : h.enc ≡ false
  pub meta : h.sdm_meta_read ≡ 0
  pub file : h.sdm_file_read ≡ 0
  pub ret : h.sdm_ctr_ret ≡ 0

pub off_parts : (h : Head) → sdm_absent h ≡ true → Off h
unfolding sdm_absent
off_parts h e =
    let n : Bool = and (not h.uid) (and (not h.counter) (and (not h.limit) (not h.enc))) in
    let z : Bool = and (eqb h.sdm_meta_read 0) (and (eqb h.sdm_file_read 0) (eqb h.sdm_ctr_ret 0)) in
    let a : Both (not h.uid) (and (not h.counter) (and (not h.limit) (not h.enc))) = both (and_left n z e) in
    let b : Both (not h.counter) (and (not h.limit) (not h.enc)) = both a.right in
    let c : Both (not h.limit) (not h.enc) = both b.right in
    let x : Both (eqb h.sdm_meta_read 0) (and (eqb h.sdm_file_read 0) (eqb h.sdm_ctr_ret 0)) = both (and_right n z e) in
    let y : Both (eqb h.sdm_file_read 0) (eqb h.sdm_ctr_ret 0) = both x.right in
    record {
      uid = not-true _ a.left;
      counter = not-true _ b.left;
      limit = not-true _ c.left;
      enc = not-true _ c.right;
      meta = eqb-true _ _ x.left;
      file = eqb-true _ _ y.left;
      ret = eqb-true _ _ y.right;
    }

pub zero_byte : (s : List ℕ) (i : ℕ) → sdm_on s ≡ false → sdm_byte s i ≡ 0
unfolding sdm_byte
zero_byte s i e = ap (λ t. pick t (byte_at s i) 0) e

pub front-sdm_alone : (h : Head) → modes h.mode ≡ true → sdm_on (front_bytes h) ≡ h.sdm
unfolding front_bytes sdm_on
front-sdm_alone h e = sdm_read h.mode h.sdm (mode_small h.mode e)

head_off : (h : Head) → h.sdm ≡ false → modes h.mode ≡ true → rights h ≡ true → Off h → head_of (front_bytes h) ≡ h
unfolding front_bytes front_of
head_off h o m r a =
    let t = front-sdm_alone h m in
    let f = rights_small h r in
    let x = zero_byte (front_bytes h) in
    let y = t ∙ o in
    head_front (front_bytes h)
    ∙ rw (
      x 3 y,
      x 4 y,
      x 5 y,
      t,
      mode_read h.mode h.sdm m,
      high h.read h.write f.write,
      low_half h.read h.write f.write,
      high h.read_write h.change f.change,
      low_half h.read_write h.change f.change,
    )
    (without h.mode h.read h.write h.read_write h.change h.sdm_meta_read h.sdm_file_read h.sdm_ctr_ret
    h.sdm h.uid h.counter h.limit h.enc a.uid a.counter a.limit a.enc a.meta a.file a.ret)

off_present : (h : Head) → h.sdm ≡ false → Off h → Absent h
unfolding has_uid has_counter has_picc has_mac has_enc
off_present h o a =
    record {
      uid = ap (λ t. and t (eqb h.sdm_meta_read 14)) a.uid;
      counter = ap (λ t. and t (eqb h.sdm_meta_read 14)) a.counter;
      picc = ap (λ t. and t (leb h.sdm_meta_read 4)) o;
      mac = ap (λ t. and t (not (eqb h.sdm_file_read 15))) o;
      enc = ap (λ t. and t (has_mac h)) a.enc;
      limit = a.limit;
    }

any_of : List Bool → Bool
any_of [] = false
any_of (p ∷ ps) = or p (any_of ps)

none_present : (h : Head) → Absent h → any_of (present h) ≡ false
unfolding present any_of
none_present h a = rw (a.uid, a.counter, a.picc, a.mac, a.enc, a.limit) refl

none_fields : (ps : List Bool) (vs s : List ℕ) (i : ℕ) → any_of ps ≡ false → length ps ≡ length vs → fields_fit ps vs ≡ true → fields s i ps ≡ vs
unfolding any_of fields fields_fit field_fits
none_fields [] [] s i a m f = refl
none_fields [] (v ∷ vs) s i a m f = absurd (omega arith)
none_fields (p ∷ ps) [] s i a m f = absurd (omega arith)
none_fields (true ∷ ps) (v ∷ vs) s i a m f = cc
none_fields (false ∷ ps) (v ∷ vs) s i a m f =
    ap₂ (λ x y. x ∷ y) (sym (eqb-true v 0 (and_left (eqb v 0) (fields_fit ps vs) f)))
    (none_fields ps vs s (i + 0) a (omega arith) (and_right (eqb v 0) (fields_fit ps vs) f))

six : (h : Head) → length (front_bytes h ++ sdm_bytes h) ≡ 6
unfolding front_bytes sdm_bytes
six h = refl

places_on : (h : Head) (p : Places) → fields_fit (present h) (listed p) ≡ true
    → places_in (front_bytes h ++ (sdm_bytes h ++ written (present h) (listed p))) h ≡ p
unfolding places_in
places_on h p f =
    ap places_of
    (ap (λ s. fields s 6 (present h)) (sym (append_assoc (front_bytes h) (sdm_bytes h) (written (present h) (listed p))))
    ∙ fields-written (present h) (listed p) (front_bytes h ++ sdm_bytes h) 6 (six h) (same_number h p) f)
    ∙ places_listed p

places_off : (h : Head) (p : Places) (s : List ℕ) → Absent h → fields_fit (present h) (listed p) ≡ true → places_in s h ≡ p
unfolding places_in
places_off h p s a f =
    ap places_of (none_fields (present h) (listed p) s 6 (none_present h a) (same_number h p) f) ∙ places_listed p

-- what the string of a record that meets the rules is, by its SDM
pub record Whole (r : Settings) (s : List ℕ) : Type 0 where
  pub is : string_of r ≡ s
  pub head : head_of s ≡ r.head
  pub places : places_in s r.head ≡ r.places

pub whole_on : (n : ℕ) (r : Settings) → meets n r ≡ true → r.head.sdm ≡ true
    → Whole r (front_bytes r.head ++ (sdm_bytes r.head ++ written (present r.head) (listed r.places)))
whole_on n r e o =
    let m = meets-parts n r e in
    record {
      is = string_on r o;
      head = head_on r.head (written (present r.head) (listed r.places)) o m.mode m.conditions (meets-rights n r e);
      places = places_on r.head r.places m.fits;
    }

part_off : (n : ℕ) (r : Settings) → meets n r ≡ true → r.head.sdm ≡ false → Off r.head
unfolding sdm_part
part_off n r e o =
    off_parts r.head (sym (ap (λ t. pick t (sdm_meets r) (sdm_absent r.head)) o) ∙ (meets-parts n r e).part)

pub part_on : (n : ℕ) (r : Settings) → meets n r ≡ true → r.head.sdm ≡ true → sdm_meets r ≡ true
unfolding sdm_part
part_on n r e o = sym (ap (λ t. pick t (sdm_meets r) (sdm_absent r.head)) o) ∙ (meets-parts n r e).part

pub whole_off : (n : ℕ) (r : Settings) → meets n r ≡ true → r.head.sdm ≡ false → Whole r (front_bytes r.head)
whole_off n r e o =
    let m = meets-parts n r e in
    let a = part_off n r e o in
    record {
      is = string_off r o;
      head = head_off r.head o m.mode m.conditions a;
      places = places_off r.head r.places (front_bytes r.head) (off_present r.head o a) m.fits;
    }

whole_read : (r : Settings) (s : List ℕ) → Whole r s → read_of (string_of r) ≡ r
unfolding read_of
whole_read r s w =
    ap read_of w.is
    ∙ ap₂ (λ h p. record { head = h; places = p }) w.head (ap (λ h. places_in s h) w.head ∙ w.places)

-- Reading the string of a record that meets the rules gives the record back
pub read_written : (n : ℕ) (r : Settings) → meets n r ≡ true → read_of (string_of r) ≡ r
read_written n r e = by r.head.sdm refl
  where
    by : (t : Bool) → r.head.sdm ≡ t → read_of (string_of r) ≡ r
    by true o = whole_read r _ (whole_on n r e o)
    by false o = whole_read r _ (whole_off n r e o)
