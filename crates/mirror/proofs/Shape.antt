-- What a tap shows is as long as the file, and bytes stay bytes.
use mathlib.Core.Path.{◌≡◌, refl, ap₂, ◌∙◌}
use mathlib.Core.Bool.{Bool, true, false}
use mathlib.Core.List.{List, [], ◌∷◌, ◌++◌}
use Prim.Native.Nat.{ℕ, zero, suc, ◌+◌, ◌*◌, ◌/◌, ◌%◌, ◌≤◌, ◌<◌}
use native.Mathlib.Omega.{arith}
use lib.Dec.{ltb, lit<}
use lib.ListN.{length, take, drop, length-append, length-take, length-drop}
use Rattle.base.specs.Decide.{pick}
use Rattle.base.specs.Bytes.{AllBytes, over}
use Rattle.base.proofs.Bytes.{append-bytes, take-bytes, drop-bytes}
use Rattle.lines.specs.Hex.{char_of, chars_of}
use Rattle.lines.proofs.Steps.{chars_length}
use Rattle.aes.specs.Block.{cipher, xor_block}
use Rattle.cbc.specs.Cbc.{across, sealed, cbc_out}
use Rattle.cmac.specs.Cmac.{mac, even_places}
use Rattle.key_expansion.specs.Keys.{key_expansion}
use Rattle.sdm.specs.Tap.{picc_text, picc_data, tap_iv}
use Rattle.spans.specs.declared.Span.{Span}
use Rattle.spans.specs.declared.Reading.{Reading}
use Rattle.spans.specs.Spans.{SpansFit}
use Rattle.mirror.specs.declared.Mirror.{Mirror}
use Rattle.mirror.specs.Mirrors.{mirror_at, stretch, high_first, with_uid, with_counter, with_picc, enc_data, with_enc, with_mac, dynamic_data}
use Rattle.mirror.proofs.Inside.{uid-inside, counter-inside, picc-inside, mac-inside}

-- ---- digits are bytes
char_small : (v : ℕ) → v < 16 → char_of v < 256
unfolding char_of
char_small v h = by (ltb v 10)
  where
    by : (t : Bool) → pick t (48 + v) (55 + v) < 256
    by true = omega arith
    by false = omega arith

chars_bytes : (s : List ℕ) → AllBytes (chars_of s)
unfolding chars_of AllBytes
chars_bytes [] i = lit< tt
chars_bytes (b ∷ s) zero = char_small (b / 16 % 16) (omega arith)
chars_bytes (b ∷ s) (suc zero) = char_small (b % 16) (omega arith)
chars_bytes (b ∷ s) (suc (suc i)) = chars_bytes s i

-- ---- one mirror: what holds of the file with it and without it
mirror_either : (P : List ℕ → Type 0) (s : Span) (bytes file : List ℕ)
    → (s.present ≡ true → P (take s.start file ++ over (chars_of bytes) (drop s.start file))) → P file → P (mirror_at s bytes file)
unfolding mirror_at
mirror_either P s bytes file p q = by s.present refl
  where
    by : (t : Bool) → s.present ≡ t → P (pick t (take s.start file ++ over (chars_of bytes) (drop s.start file)) file)
    by true e = p e
    by false e = q

-- the digits end inside the file
abbrev pub Room : Span → List ℕ → Type 0
Room s bytes = s.present ≡ true → s.start + length bytes * 2 ≤ 256

pub mirror_length : (s : Span) (bytes file : List ℕ) → Room s bytes → length file ≡ 256 → length (mirror_at s bytes file) ≡ 256
mirror_length s bytes file r l =
    mirror_either (λ f. length f ≡ 256) s bytes file
    (λ e.
    let h = r e in
    let d = chars_length bytes in
    simp (length-append, length-take, length-drop) (omega arith))
    l

mirror_bytes : (s : Span) (bytes file : List ℕ) → AllBytes file → AllBytes (mirror_at s bytes file)
mirror_bytes s bytes file h =
    mirror_either AllBytes s bytes file
    (λ e.
    append-bytes (take s.start file) (over (chars_of bytes) (drop s.start file)) (take-bytes s.start file h)
    (append-bytes (chars_of bytes) (drop (length (chars_of bytes)) (drop s.start file)) (chars_bytes bytes)
    (drop-bytes (length (chars_of bytes)) (drop s.start file) (drop-bytes s.start file h))))
    h

-- ---- each mirror of a tap: how many bytes, and that their digits end inside the file
cipher-length : (w : List (List ℕ)) (s : List ℕ) → length (cipher w s) ≡ 16
unfolding cipher xor_block
cipher-length w s = refl

sealed-length : (w : List (List ℕ)) (n : ℕ) (v s : List ℕ) → length (across (sealed w) (sealed w) n v s) ≡ n * 16
unfolding across sealed
sealed-length w zero v s = refl
sealed-length w (suc n) v s =
    length-append (sealed w v (take 16 s)) (across (sealed w) (sealed w) n (sealed w v (take 16 s)) (drop 16 s))
    ∙ ap₂ ◌+◌ (cipher-length w (xor_block (take 16 s) v)) (sealed-length w n (sealed w v (take 16 s)) (drop 16 s))
    ∙ omega arith

mac_eight : (key text : List ℕ) → length (mac key text) ≡ 8
unfolding mac even_places
mac_eight key text = refl

module _ (r : Reading) (w : SpansFit r) (m : Mirror) (u : length m.tap.uid ≡ 7) where
  pub uid-room : Room r.uid m.tap.uid
  uid-room e = let h = uid-inside r w e in omega arith

  pub counter-room : Room r.counter (high_first m.tap.counter)
  unfolding high_first
  counter-room e = let h = counter-inside r w e in omega arith

  pub picc-room : Room r.picc (picc_data m.meta_key m.tap m.padding)
  unfolding picc_data
  picc-room e =
      let h = picc-inside r w e in
      omega (arith, cipher-length (key_expansion m.meta_key) (picc_text m.tap m.padding))

  pub enc-room : (key : List ℕ) (counter : ℕ) (file : List ℕ) → Room r.enc (enc_data key counter r.enc file)
  unfolding enc_data cbc_out
  enc-room key counter file e =
      let x = stretch r.enc.start (r.enc.start + r.enc.size / 2) file in
      let n = sealed-length (key_expansion key) (length x / 16) (tap_iv key counter) x in
      let k : length x ≤ r.enc.size / 2 = simp length-take (omega arith) in
      omega (arith, w.enc)

  pub mac-room : (key text : List ℕ) → Room r.mac (mac key text)
  mac-room key text e = let h = mac-inside r w e in omega (arith, mac_eight key text)

  -- ---- all of them
  pub dynamic_length : (file : List ℕ) → length file ≡ 256 → length (dynamic_data file r m) ≡ 256
  unfolding dynamic_data with_uid with_counter with_picc with_enc with_mac
  dynamic_length file l =
      mirror_length r.mac _ _ (mac-room _ _)
      (mirror_length r.enc _ _ (enc-room _ _ _)
      (mirror_length r.picc _ _ picc-room (mirror_length r.counter _ _ counter-room (mirror_length r.uid _ _ uid-room l))))

pub dynamic_bytes : (file : List ℕ) (r : Reading) (m : Mirror) → AllBytes file → AllBytes (dynamic_data file r m)
unfolding dynamic_data with_uid with_counter with_picc with_enc with_mac
dynamic_bytes file r m h = search mirror_bytes
