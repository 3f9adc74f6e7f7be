-- Where mirrors are laid (01: "Spans: UID 14, counter 6, PICCData 32, SDMENCLength, MAC 16; each inside 256 bytes, and no
-- two present spans share a byte").
use Rattle.std.specs.Prelude.{Bool, true, List, [], ◌∷◌, ◌≡◌, ℕ, ◌+◌, ◌≤◌, ◌<◌, leb}
use Rattle.base.specs.Decide.{pick, and, or}
use Rattle.spans.specs.declared.Span.{Span}
use Rattle.fields.specs.declared.Settings.{Settings}
use Rattle.spans.specs.declared.Reading.{Reading}
use Rattle.fields.specs.Fields.{has_uid, has_counter, has_picc, has_enc, has_mac}

-- n bytes from a place on; a span that is not there is empty
unfoldable pub span : Bool → ℕ → ℕ → Span
span p at n = record { present = p; start = pick p at 0; size = pick p n 0 }

unfoldable pub uid_span : Settings → Span
uid_span r = span (has_uid r.head) r.places.uid 14

unfoldable pub counter_span : Settings → Span
counter_span r = span (has_counter r.head) r.places.counter 6

unfoldable pub picc_span : Settings → Span
picc_span r = span (has_picc r.head) r.places.picc 32

unfoldable pub enc_span : Settings → Span
enc_span r = span (has_enc r.head) r.places.enc r.places.size

unfoldable pub mac_span : Settings → Span
mac_span r = span (has_mac r.head) r.places.mac 16

-- in the order UID, counter, PICCData, ENC, MAC
unfoldable pub spans_of : Settings → List Span
spans_of r = uid_span r ∷ counter_span r ∷ picc_span r ∷ enc_span r ∷ mac_span r ∷ []

-- What a string means, with its spans
unfoldable pub reading_of : Settings → Reading
reading_of r =
    record { settings = r; uid = uid_span r; counter = counter_span r; picc = picc_span r; enc = enc_span r; mac = mac_span r }

-- the place behind a span
abbrev pub end_of : Span → ℕ
end_of a = a.start + a.size

-- byte i is one of the span's
pub record Covers (a : Span) (i : ℕ) : Type 0 where
  pub from : a.start ≤ i
  pub below : i < end_of a

-- inside the file, which has 256 bytes; no shared byte
unfoldable pub Inside : Span → Type 0
Inside a = (i : ℕ) → Covers a i → i < 256

unfoldable pub Disjoint : Span → Span → Type 0
Disjoint a b = (i : ℕ) → Covers a i → Covers b i → ⊥

-- the tests for both; a span that is not there passes them
unfoldable pub inside : Span → Bool
inside a = leb (end_of a) 256

unfoldable pub apart : Span → Span → Bool
apart a b = or (leb (end_of a) b.start) (leb (end_of b) a.start)

unfoldable pub apart_from : Span → List Span → Bool
apart_from a [] = true
apart_from a (b ∷ bs) = and (apart a b) (apart_from a bs)

unfoldable pub all_apart : List Span → Bool
all_apart [] = true
all_apart (a ∷ bs) = and (apart_from a bs) (all_apart bs)

-- what a reading has whose mirrors are to be laid: the spans of its settings, and each ends inside the file
pub record SpansFit (r : Reading) : Type 0 where
  pub spans : r ≡ reading_of r.settings
  pub uid : end_of r.uid ≤ 256
  pub counter : end_of r.counter ≤ 256
  pub picc : end_of r.picc ≤ 256
  pub enc : end_of r.enc ≤ 256
  pub mac : end_of r.mac ≤ 256
