-- Two taps that differ in their padding alone show another PICCData: the block can be read back, and its padding with it.
use mathlib.Core.Path.{◌≡◌, refl, sym, ap, ap₂, ◌∙◌}
use mathlib.Core.Bool.{Bool, true, false}
use mathlib.Core.List.{List, [], ◌∷◌, ◌++◌}
use Prim.Native.Nat.{ℕ, zero, suc, ◌/◌, ◌%◌, ◌+◌, ◌*◌, ◌<◌}
use native.Mathlib.Omega.{arith}
use lib.Dec.{ltb, lit<}
use lib.ListN.{length, get_or, take, drop, replicate}
use lib.Seq.{take_at}
use borrow.Author.Tests.{ltb-true, ltb-false}
use Rattle.base.specs.Decide.{pick}
use Rattle.base.specs.Bytes.{byte_at, AllBytes}
use Rattle.base.proofs.Bytes.{append-bytes}
use Rattle.aes.specs.Block.{IsBlock, cipher, inv_cipher}
use Rattle.key_expansion.specs.Keys.{key_expansion}
use Rattle.inverse.proofs.Inverse.{back_of_cipher, cipher_block}
use Rattle.inverse.proofs.KeyBlocks.{keys_are}
use Rattle.lines.specs.Hex.{char_of, chars_of}
use Rattle.lines.proofs.Steps.{chars_length}
use Rattle.sdm.specs.Tap.{mirrored, picc_tag, picc_text, picc_data}
use Rattle.state.specs.State.{key_in}
use Rattle.series.specs.Series.{Asked, step}
use Rattle.series.proofs.Born.{zeros-bytes}
use Rattle.demands.specs.Talks.{said}
use Rattle.one_tap.specs.OneTap.{Taps, data_in, part_asked, text_of}
use Rattle.one_tap.specs.Samples.{sealing, ask_data, otherwise, OtherPadding}
use Rattle.one_tap.proofs.OneTap.{data_shown}
use Rattle.one_tap.proofs.Samples.{a_tap-sample}

-- ---- hexadecimal tells bytes apart
char_same : (v w : ℕ) → v < 16 → w < 16 → char_of v ≡ char_of w → v ≡ w
unfolding char_of
char_same v w a b = by (ltb v 10) (ltb w 10) refl refl
  where
    by : (x y : Bool) → ltb v 10 ≡ x → ltb w 10 ≡ y → pick x (48 + v) (55 + v) ≡ pick y (48 + w) (55 + w) → v ≡ w
    by true true p q e = omega arith
    by true false p q e = let l = ltb-true v 10 p in let m = ltb-false w 10 q in absurd (omega arith)
    by false true p q e = let l = ltb-false v 10 p in let m = ltb-true w 10 q in absurd (omega arith)
    by false false p q e = omega arith

byte_same : (x y : ℕ) → x < 256 → y < 256 → x / 16 % 16 ≡ y / 16 % 16 → x % 16 ≡ y % 16 → x ≡ y
byte_same x y a b e f = omega arith

chars_same : (x y : List ℕ) → AllBytes x → AllBytes y → chars_of x ≡ chars_of y → x ≡ y
unfolding chars_of AllBytes
chars_same [] [] a b e = refl
chars_same [] (w ∷ y) a b e = let z : 0 ≡ suc (suc (length (chars_of y))) = ap length e in absurd (omega arith)
chars_same (v ∷ x) [] a b e = let z : suc (suc (length (chars_of x))) ≡ 0 = ap length e in absurd (omega arith)
chars_same (v ∷ x) (w ∷ y) a b e =
    let high : v / 16 % 16 ≡ w / 16 % 16 = char_same (v / 16 % 16) (w / 16 % 16) (omega arith) (omega arith) (ap (λ l. get_or l 0 0) e) in
    let low : v % 16 ≡ w % 16 = char_same (v % 16) (w % 16) (omega arith) (omega arith) (ap (λ l. get_or l 1 0) e) in
    ap₂ (λ h t. h ∷ t) (byte_same v w (a 0) (b 0) high low) (chars_same x y (λ i. a (suc i)) (λ i. b (suc i)) (ap (drop 2) e))

-- ---- a block can be read back
key_block : IsBlock (replicate 16 0)
key_block = record { len = refl; bytes = zeros-bytes 16 }

abbrev keys : List (List ℕ)
keys = key_expansion (replicate 16 0)

cipher_same : (x y : List ℕ) → IsBlock x → IsBlock y → cipher keys x ≡ cipher keys y → x ≡ y
cipher_same x y a b e =
    sym (back_of_cipher keys (keys_are (replicate 16 0) key_block) x a)
    ∙ ap (inv_cipher keys) e
    ∙ back_of_cipher keys (keys_are (replicate 16 0) key_block) y b

-- ---- the two blocks: the tag, counter 1, and padding
abbrev plain_block : ℕ → List ℕ
plain_block n = 64 ∷ 1 ∷ 0 ∷ 0 ∷ replicate 12 n

front_bytes_lem : AllBytes (64 ∷ 1 ∷ 0 ∷ 0 ∷ [])
unfolding AllBytes
front_bytes_lem zero = lit< tt
front_bytes_lem (suc zero) = lit< tt
front_bytes_lem (suc (suc zero)) = lit< tt
front_bytes_lem (suc (suc (suc zero))) = lit< tt
front_bytes_lem (suc (suc (suc (suc i)))) = lit< tt

same_bytes : (n b : ℕ) → b < 256 → AllBytes (replicate n b)
unfolding AllBytes
same_bytes zero b h i = lit< tt
same_bytes (suc n) b h zero = h
same_bytes (suc n) b h (suc i) = same_bytes n b h i

plain_block_lem : (b : ℕ) → b < 256 → IsBlock (plain_block b)
plain_block_lem b h = record { len = refl; bytes = append-bytes (64 ∷ 1 ∷ 0 ∷ 0 ∷ []) (replicate 12 b) front_bytes_lem (same_bytes 12 b h) }

-- ---- what the two reads show
chars_front : (b rest : List ℕ) → IsBlock b → take 32 (chars_of b ++ rest) ≡ chars_of b
chars_front b rest h = take_at (chars_of b) rest 32 (chars_length b ∙ ap (λ n. n * 2) h.len)

abbrev ciphered : ℕ → List ℕ
ciphered n = cipher keys (plain_block n)

cipher_is_block : (n : ℕ) → IsBlock (ciphered n)
cipher_is_block n = cipher_block keys (keys_are (replicate 16 0) key_block) (plain_block n)

abbrev first : Asked
first = ask_data 0 32

abbrev second : Asked
second = otherwise (ask_data 0 32)

taps_first : Taps sealing first false
unfolding a_tap-sample sealing
taps_first = record { reads = record { asks = refl; accepted = refl }; free = refl; sdm = refl }

taps_second : Taps sealing second false
unfolding a_tap-sample sealing
taps_second = record { reads = record { asks = refl; accepted = refl }; free = refl; sdm = refl }

shows_first : part_asked (text_of (step sealing first)) first.command false
    ≡ take 32 (chars_of (ciphered 0) ++ drop (length (chars_of (ciphered 0))) (replicate 256 0))
unfolding a_tap-sample sealing text_of part_asked picc_data picc_text picc_tag mirrored key_in
shows_first = refl

shows_second : part_asked (text_of (step sealing second)) second.command false
    ≡ take 32 (chars_of (ciphered 1) ++ drop (length (chars_of (ciphered 1))) (replicate 256 0))
unfolding a_tap-sample sealing text_of part_asked picc_data picc_text picc_tag mirrored key_in
shows_second = refl

data_first : data_in (said sealing first) ≡ chars_of (ciphered 0)
data_first = data_shown sealing first false taps_first ∙ shows_first ∙ chars_front (ciphered 0) _ (cipher_is_block 0)

data_second : data_in (said sealing second) ≡ chars_of (ciphered 1)
data_second = data_shown sealing second false taps_second ∙ shows_second ∙ chars_front (ciphered 1) _ (cipher_is_block 1)

pub other_padding : OtherPadding
other_padding e =
    let same = chars_same (ciphered 0) (ciphered 1) (cipher_is_block 0).bytes (cipher_is_block 1).bytes (sym data_first ∙ e ∙ data_second) in
    let z : ◌≡◌ {A = ℕ} 0 1 = ap (λ l. byte_at l 4) (cipher_same (plain_block 0) (plain_block 1) (plain_block_lem 0 (lit< tt)) (plain_block_lem 1 (lit< tt)) same) in
    absurd (omega arith)
