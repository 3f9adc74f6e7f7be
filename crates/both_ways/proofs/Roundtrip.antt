-- Image to state and back loses nothing.
use mathlib.Core.Path.{◌≡◌, refl, sym, ap, subst, ◌∙◌}
use mathlib.Core.Bool.{Bool, true, false}
use mathlib.Core.List.{List, [], ◌∷◌}
use Prim.Native.Nat.{ℕ, zero, suc, ◌+◌, ◌≤◌, ◌<◌}
use native.Mathlib.Omega.{arith}
use lib.Dec.{eqb, leb, lit<}
use lib.ListN.{length, get_or, take}
use lib.Seq.{take-length}
use borrow.Author.Tests.{eq-eqb, eqb-true, leb-true}
use Rattle.std.specs.Prelude.{Ok}
use Rattle.std.specs.Result.{is_ok}
use Rattle.base.specs.Decide.{pick, and}
use Rattle.base.specs.Bytes.{byte_at, number, AllBytes}
use Rattle.base.proofs.Bytes.{and_left, and_right}
use Rattle.base.proofs.Numbers.{number-low}
use Rattle.state.specs.declared.Files.{Files}
use Rattle.state.specs.declared.Secrets.{Secrets}
use Rattle.state.specs.declared.Live.{Live}
use Rattle.state.specs.declared.Pending.{Pending}
use Rattle.state.specs.declared.Place.{Place}
use Rattle.state.specs.declared.Tapping.{Tapping}
use Rattle.state.specs.declared.Tag.{Tag}
use Rattle.image.specs.declared.NoImage.TheVariants.{WrongLength, WrongVersion, NotABoolean}
use Rattle.image.specs.Image.{image_version, join, bytes_from, flag_byte, flag, file_pieces, secret_pieces, live_pieces, pending_pieces, place_bytes}
use Rattle.image.specs.Image.{tap_pieces, tag_pieces, image_of, files_in, secrets_in, live_in, pending_in, place_in, tap_in, tag_in}
use Rattle.image.specs.Answers.{bits_at, booleans, right_length, refused_as, read_in}
use Rattle.image.proofs.Shapes.{FilesShaped, SecretsShaped, LiveShaped, PendingShaped, TapShaped, Shaped, file_widths, secret_widths, live_widths, pending_widths, tap_widths}
use Rattle.image.proofs.Pieces.{lengths, sum, joined_length, piece, cut_join, bytes-from-length, bytes-from-bytes, bytes-from_one, bytes-from-tab, bytes-from-low}

-- ---- from a state to its image and back
flag_of_byte : (b : Bool) → flag (flag_byte b) ≡ b
flag_of_byte true = refl
flag_of_byte false = refl

flag_byte_right : (b : Bool) → leb (flag_byte b) 1 ≡ true
flag_byte_right true = refl
flag_byte_right false = refl

module _ (f : Files) (h : FilesShaped f) where
  files-back : files_in (join (file_pieces f)) ≡ f
  unfolding files_in
  files-back = let p = piece _ (file_pieces f) (file_widths f h) in λ i. record { bytes = p 0 i; rules = p 1 i; lens = p 2 i }

module _ (s : Secrets) (h : SecretsShaped s) where
  secrets-back : secrets_in (join (secret_pieces s)) ≡ s
  unfolding secrets_in
  secrets-back = let p = piece _ (secret_pieces s) (secret_widths s h) in λ i. record { keys = p 0 i; versions = p 1 i }

module _ (l : Live) (h : LiveShaped l) where
  live_back : live_in (join (live_pieces l)) ≡ l
  unfolding live_in join
  live_back =
      let p = piece _ (live_pieces l) (live_widths l h) in
      λ i. record {
        on = flag_of_byte l.on i;
        key = l.key;
        enc = p 1 i;
        mac = p 2 i;
        ti = p 3 i;
        counter = (ap number (p 4) ∙ number-low 2 l.counter h.counter) i;
      }

module _ (l : Pending) (h : PendingShaped l) where
  pending-back : pending_in (join (pending_pieces l)) ≡ l
  unfolding pending_in join
  pending-back =
      let p = piece _ (pending_pieces l) (pending_widths l h) in
      λ i. record {
        on = flag_of_byte l.on i;
        first = flag_of_byte l.first i;
        key = l.key;
        rnd_b = p 1 i;
        cap = p 2 i;
        ti = p 3 i;
        counter = (ap number (p 4) ∙ number-low 2 l.counter h.counter) i;
      }

place_back : (p : Place) → place_in (place_bytes p) ≡ p
unfolding place_in
place_back p = λ i. record { application = flag_of_byte p.application i; file = p.file }

tap-back : (t : Tapping) → TapShaped t → tap_in (join (tap_pieces t)) ≡ t
unfolding tap_in join
tap-back t h =
    let p = piece _ (tap_pieces t) (tap_widths t h) in
    λ i. record {
      on = flag_of_byte t.on i;
      iso = flag_of_byte t.iso i;
      counter = (ap number (p 1) ∙ number-low 4 t.counter h.counter) i;
      padding = p 2 i;
    }

module _ (t : Tag) (h : Shaped t) where
  tag_widths : lengths (tag_pieces t) ≡ 1 ∷ 7 ∷ 500 ∷ 85 ∷ 40 ∷ 31 ∷ 2 ∷ 18 ∷ []
  tag_widths =
      let f = joined_length (file_pieces t.files) _ (file_widths t.files h.files) in
      let s = joined_length (secret_pieces t.secrets) _ (secret_widths t.secrets h.secrets) in
      let l = joined_length (live_pieces t.live) _ (live_widths t.live h.live) in
      let p = joined_length (pending_pieces t.pending) _ (pending_widths t.pending h.pending) in
      let q = joined_length (tap_pieces t.tap) _ (tap_widths t.tap h.tap) in
      λ i. 1 ∷ h.uid i ∷ f i ∷ s i ∷ l i ∷ p i ∷ 2 ∷ q i ∷ []

  tag_piece : (k : ℕ) → bytes_from (image_of t) (sum (take k (1 ∷ 7 ∷ 500 ∷ 85 ∷ 40 ∷ 31 ∷ 2 ∷ 18 ∷ [])))
      (get_or (1 ∷ 7 ∷ 500 ∷ 85 ∷ 40 ∷ 31 ∷ 2 ∷ 18 ∷ []) k 0) ≡ get_or (tag_pieces t) k []
  unfolding image_of
  tag_piece = piece _ (tag_pieces t) tag_widths

  -- what is written is read back
  pub image_read : tag_in (image_of t) ≡ t
  unfolding tag_in
  image_read =
      λ i. record {
        uid = tag_piece 1 i;
        files = (ap files_in (tag_piece 2) ∙ files-back t.files h.files) i;
        secrets = (ap secrets_in (tag_piece 3) ∙ secrets-back t.secrets h.secrets) i;
        live = (ap live_in (tag_piece 4) ∙ live_back t.live h.live) i;
        pending = (ap pending_in (tag_piece 5) ∙ pending-back t.pending h.pending) i;
        place = (ap place_in (tag_piece 6) ∙ place_back t.place) i;
        tap = (ap tap_in (tag_piece 7) ∙ tap-back t.tap h.tap) i;
      }

  flag_in_image : (i n j k : ℕ) (b : Bool) → j < n → bytes_from (image_of t) i n ≡ get_or (tag_pieces t) k [] → byte_at (get_or (tag_pieces t) k []) j ≡ flag_byte b
      → leb (byte_at (image_of t) (i + j)) 1 ≡ true
  flag_in_image i n j k b h p e =
      ap (λ v. leb v 1) (sym (bytes-from_one (image_of t) i n j h) ∙ ap (λ x. byte_at x j) p ∙ e) ∙ flag_byte_right b

  image_bits : bits_at (image_of t) booleans ≡ true
  unfolding bits_at join
  image_bits =
      rw (
        flag_in_image 593 40 0 4 t.live.on (lit< tt) (tag_piece 4) refl,
        flag_in_image 633 31 0 5 t.pending.on (lit< tt) (tag_piece 5) refl,
        flag_in_image 633 31 1 5 t.pending.first (lit< tt) (tag_piece 5) refl,
        flag_in_image 664 2 0 6 t.place.application (lit< tt) (tag_piece 6) refl,
        flag_in_image 666 18 0 7 t.tap.on (lit< tt) (tag_piece 7) refl,
        flag_in_image 666 18 1 7 t.tap.iso (lit< tt) (tag_piece 7) refl,
      )
      refl

  pub image_length_lem : length (image_of t) ≡ 684
  unfolding image_of
  image_length_lem = joined_length (tag_pieces t) _ tag_widths

  first_byte : byte_at (image_of t) 0 ≡ image_version
  unfolding image_of join
  first_byte = refl

  -- and by name: nothing of it is refused
  pub image_whole : read_in (image_of t) ≡ Ok t
  unfolding read_in right_length
  image_whole =
      rw (eq-eqb (length (image_of t)) 684 image_length_lem, eq-eqb (byte_at (image_of t) 0) image_version first_byte, image_bits) (ap (λ x. Ok x) image_read)

-- ---- from bytes to a state and back
byte_of_flag : (n : ℕ) → n ≤ 1 → flag_byte (flag n) ≡ n
byte_of_flag zero h = refl
byte_of_flag (suc zero) h = refl
byte_of_flag (suc (suc n)) h = absurd (omega arith)

files_kept : (x : List ℕ) → length x ≡ 500 → join (file_pieces (files_in x)) ≡ x
unfolding files_in
files_kept x l = cut_join (416 ∷ 81 ∷ 3 ∷ []) x (sym l)

secrets_kept : (x : List ℕ) → length x ≡ 85 → join (secret_pieces (secrets_in x)) ≡ x
unfolding secrets_in
secrets_kept x l = cut_join (80 ∷ 5 ∷ []) x (sym l)

live_kept : (x : List ℕ) → length x ≡ 40 → AllBytes x → byte_at x 0 ≤ 1 → join (live_pieces (live_in x)) ≡ x
unfolding live_in
live_kept x l a b =
    let head : flag_byte (flag (byte_at x 0)) ∷ byte_at x 1 ∷ [] ≡ bytes_from x 0 2 = (λ i. byte_of_flag (byte_at x 0) b i ∷ byte_at x 1 ∷ []) ∙ sym (bytes-from-tab x 0 2 (omega arith)) in
    (λ i. join (head i ∷ bytes_from x 2 16 ∷ bytes_from x 18 16 ∷ bytes_from x 34 4 ∷ bytes-from-low x 38 2 a (omega arith) i ∷ []))
    ∙ cut_join (2 ∷ 16 ∷ 16 ∷ 4 ∷ 2 ∷ []) x (sym l)

pending_kept : (x : List ℕ) → length x ≡ 31 → AllBytes x → byte_at x 0 ≤ 1 → byte_at x 1 ≤ 1 → join (pending_pieces (pending_in x)) ≡ x
unfolding pending_in
pending_kept x l a b d =
    let head : flag_byte (flag (byte_at x 0)) ∷ flag_byte (flag (byte_at x 1)) ∷ byte_at x 2 ∷ [] ≡ bytes_from x 0 3 =
    (λ i. byte_of_flag (byte_at x 0) b i ∷ byte_of_flag (byte_at x 1) d i ∷ byte_at x 2 ∷ [])
    ∙ sym (bytes-from-tab x 0 3 (omega arith)) in
    (λ i. join (head i ∷ bytes_from x 3 16 ∷ bytes_from x 19 6 ∷ bytes_from x 25 4 ∷ bytes-from-low x 29 2 a (omega arith) i ∷ []))
    ∙ cut_join (3 ∷ 16 ∷ 6 ∷ 4 ∷ 2 ∷ []) x (sym l)

place_kept : (x : List ℕ) → length x ≡ 2 → byte_at x 0 ≤ 1 → place_bytes (place_in x) ≡ x
unfolding place_in
place_kept x l b =
    (λ i. byte_of_flag (byte_at x 0) b i ∷ byte_at x 1 ∷ []) ∙ sym (bytes-from-tab x 0 2 (omega arith)) ∙ ap (λ n. take n x) (sym l) ∙ take-length x

tap_kept : (x : List ℕ) → length x ≡ 18 → AllBytes x → byte_at x 0 ≤ 1 → byte_at x 1 ≤ 1 → join (tap_pieces (tap_in x)) ≡ x
unfolding tap_in
tap_kept x l a b d =
    let head : flag_byte (flag (byte_at x 0)) ∷ flag_byte (flag (byte_at x 1)) ∷ [] ≡ bytes_from x 0 2 =
    (λ i. byte_of_flag (byte_at x 0) b i ∷ byte_of_flag (byte_at x 1) d i ∷ []) ∙ sym (bytes-from-tab x 0 2 (omega arith)) in
    (λ i. join (head i ∷ bytes-from-low x 2 4 a (omega arith) i ∷ bytes_from x 6 12 ∷ [])) ∙ cut_join (2 ∷ 4 ∷ 12 ∷ []) x (sym l)

bits_below : (s is : List ℕ) → bits_at s is ≡ true → (k : ℕ) → k < length is → byte_at s (get_or is k 0) ≤ 1
unfolding bits_at
bits_below s [] e k h = absurd (omega arith)
bits_below s (i ∷ is) e zero h = leb-true (byte_at s i) 1 (and_left _ _ e)
bits_below s (i ∷ is) e (suc k) h = bits_below s is (and_right (leb (byte_at s i) 1) _ e) k (omega arith)

none_refused : (a b c : Bool) (t u : Tag)
    → pick a (pick b (pick c (Ok t) (refused_as NotABoolean)) (refused_as WrongVersion)) (refused_as WrongLength) ≡ Ok u
    → and a (and b c) ≡ true
none_refused true true true t u e = refl
none_refused true true false t u e = ap is_ok e
none_refused true false c t u e = ap is_ok e
none_refused false b c t u e = ap is_ok e

low_byte : (s : List ℕ) (i n j : ℕ) → j < n → byte_at s (i + j) ≤ 1 → byte_at (bytes_from s i n) j ≤ 1
low_byte s i n j h b = subst (λ m. m ≤ 1) (sym (bytes-from_one s i n j h)) b

-- bytes that hold a state are its image
pub read_image : (s : List ℕ) (t : Tag) → AllBytes s → read_in s ≡ Ok t → image_of (tag_in s) ≡ s
unfolding read_in right_length image_of tag_in
read_image s t a e =
    let w = none_refused (eqb (length s) 684) (eqb (byte_at s 0) image_version) (bits_at s booleans) (tag_in s) t e in
    let l : length s ≡ 684 = eqb-true (length s) 684 (and_left _ _ w) in
    let w' = and_right (eqb (length s) 684) _ w in
    let v : byte_at s 0 ≡ image_version = eqb-true (byte_at s 0) image_version (and_left _ _ w') in
    let bits = bits_below s booleans (and_right (eqb (byte_at s 0) image_version) _ w') in
    let version : image_version ∷ [] ≡ bytes_from s 0 1 = (λ i. sym v i ∷ []) ∙ sym (bytes-from-tab s 0 1 (omega arith)) in
    let f = files_kept (bytes_from s 8 500) (bytes-from-length s 8 500 (omega arith)) in
    let k = secrets_kept (bytes_from s 508 85) (bytes-from-length s 508 85 (omega arith)) in
    let lv = live_kept (bytes_from s 593 40) (bytes-from-length s 593 40 (omega arith)) (bytes-from-bytes s 593 40 a) (low_byte s 593 40 0 (lit< tt) (bits 0 (lit< tt))) in
    let pd = pending_kept (bytes_from s 633 31) (bytes-from-length s 633 31 (omega arith)) (bytes-from-bytes s 633 31 a)
    (low_byte s 633 31 0 (lit< tt) (bits 1 (lit< tt))) (low_byte s 633 31 1 (lit< tt) (bits 2 (lit< tt))) in
    let pl = place_kept (bytes_from s 664 2) (bytes-from-length s 664 2 (omega arith)) (low_byte s 664 2 0 (lit< tt) (bits 3 (lit< tt))) in
    let tp = tap_kept (bytes_from s 666 18) (bytes-from-length s 666 18 (omega arith)) (bytes-from-bytes s 666 18 a)
    (low_byte s 666 18 0 (lit< tt) (bits 4 (lit< tt))) (low_byte s 666 18 1 (lit< tt) (bits 5 (lit< tt))) in
    (λ i. join (version i ∷ bytes_from s 1 7 ∷ f i ∷ k i ∷ lv i ∷ pd i ∷ pl i ∷ tp i ∷ []))
    ∙ cut_join (1 ∷ 7 ∷ 500 ∷ 85 ∷ 40 ∷ 31 ∷ 2 ∷ 18 ∷ []) s (sym l)
