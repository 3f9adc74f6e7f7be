-- 01, "A tap" (9.3): mirrors are laid over the file, never stored, as capital hexadecimal.
use Rattle.std.specs.Prelude.{List, [], ◌∷◌, ◌++◌, ℕ, ◌+◌, ◌-◌, ◌/◌, ◌%◌, take, drop}
use Rattle.base.specs.Decide.{pick}
use Rattle.base.specs.Bytes.{over}
use Rattle.lines.specs.Hex.{chars_of}
use Rattle.cbc.specs.Cbc.{cbc_out}
use Rattle.key_expansion.specs.Keys.{key_expansion}
use Rattle.cmac.specs.Cmac.{mac, cmac_cost}
use Rattle.sdm.specs.Tap.{picc_data, picc_cost, tap_enc_key, tap_mac_key, tap_key_cost, tap_iv, hidden_cost}
use Rattle.spans.specs.declared.Span.{Span}
use Rattle.spans.specs.declared.Reading.{Reading}
use Rattle.mirror.specs.declared.Mirror.{Mirror}

-- 9.3.3, EncodeASCII: bytes as capital hexadecimal over the file, where the mirror is present
unfoldable pub mirror_at : Span → List ℕ → List ℕ → List ℕ
mirror_at s bytes file = pick s.present (take s.start file ++ over (chars_of bytes) (drop s.start file)) file

-- the bytes of a file from one place to before another
abbrev pub stretch : ℕ → ℕ → List ℕ → List ℕ
stretch a e file = take (e - a) (drop a file)

-- 9.3.1: as plain text SDMReadCtr stands high byte first
unfoldable pub high_first : ℕ → List ℕ
high_first c = c / 65536 % 256 ∷ c / 256 % 256 ∷ c % 256 ∷ []

-- 9.3.3, plain: the UID, and SDMReadCtr
unfoldable pub with_uid : Reading → Mirror → List ℕ → List ℕ
with_uid r m file = mirror_at r.uid m.tap.uid file

unfoldable pub with_counter : Reading → Mirror → List ℕ → List ℕ
with_counter r m file = mirror_at r.counter (high_first m.tap.counter) file

-- 9.3.4: PICCData, under SDMMetaReadKey
unfoldable pub with_picc : Reading → Mirror → List ℕ → List ℕ
with_picc r m file = mirror_at r.picc (picc_data m.meta_key m.tap m.padding) file

-- 9.3.6: SDMENCFileData: the first half of its span of StaticFileData, the file as stored; CBC, under SesSDMFileReadENCKey
unfoldable pub enc_data : List ℕ → ℕ → Span → List ℕ → List ℕ
enc_data key counter s static =
    cbc_out (key_expansion key) (tap_iv key counter) (stretch s.start (s.start + s.size / 2) static)

unfoldable pub with_enc : Reading → Mirror → List ℕ → List ℕ → List ℕ
with_enc r m static file =
    mirror_at r.enc (enc_data (tap_enc_key m.file_key m.tap) m.tap.counter r.enc static) file

-- 9.3.8: SDMMAC of DynamicFileData, the mirrored file, from SDMMACInputOffset to before the MAC; under SesSDMFileReadMACKey
unfoldable pub with_mac : Reading → Mirror → List ℕ → List ℕ
with_mac r m dynamic =
    mirror_at r.mac (mac (tap_mac_key m.file_key m.tap) (stretch r.settings.places.input r.mac.start dynamic)) dynamic

-- the file as a tap shows it: every mirror, the MAC over all others
unfoldable pub dynamic_data : List ℕ → Reading → Mirror → List ℕ
dynamic_data static r m =
    with_mac r m (with_enc r m static (with_picc r m (with_counter r m (with_uid r m static))))

-- ---- 02, request 10: what the mirrors cost, each where it is present
-- PICCData
unfoldable pub picc_mirror_cost : Reading → ℕ
picc_mirror_cost r = pick r.picc.present picc_cost 0

-- SDMENCFileData: its key, its vector, and its text, half as long as its span
unfoldable pub enc_mirror_cost : Reading → ℕ
enc_mirror_cost r = pick r.enc.present (tap_key_cost + hidden_cost (r.enc.size / 2)) 0

-- SDMMAC: its key, and the CMAC from SDMMACInputOffset to before the MAC
unfoldable pub mac_mirror_cost : Reading → ℕ
mac_mirror_cost r = pick r.mac.present (tap_key_cost + cmac_cost (r.mac.start - r.settings.places.input)) 0

unfoldable pub dynamic_cost : Reading → ℕ
dynamic_cost r = picc_mirror_cost r + enc_mirror_cost r + mac_mirror_cost r
