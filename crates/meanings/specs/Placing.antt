-- Where the mirrors of a good string lie (01, "Settings strings": spans inside the file, no shared byte, MAC input start, ENC).
use Rattle.std.specs.Prelude.{◌≡◌, true, false, ℕ, ◌+◌, ◌%◌, ◌≤◌, ◌<◌, get_or}
use Rattle.fields.specs.declared.Settings.{Settings}
use Rattle.spans.specs.declared.Span.{Span}
use Rattle.fields.specs.Fields.{has_mac, has_enc}
use Rattle.spans.specs.Spans.{spans_of, end_of, Inside, Disjoint}

-- no span
abbrev pub none : Span
none = record { present = false; start = 0; size = 0 }

-- what holds of the spans and offsets of a record, the spans by their place in the order UID, counter, PICCData, ENC, MAC
pub record Placed (r : Settings) : Type 0 where
  pub end : (j : ℕ) → end_of (get_or (spans_of r) j none) ≤ 256
  pub inside : (j : ℕ) → Inside (get_or (spans_of r) j none)
  pub disjoint : (j k : ℕ) → j < k → Disjoint (get_or (spans_of r) j none) (get_or (spans_of r) k none)
  pub mac_input_fits : has_mac r.head ≡ true → r.places.input ≤ r.places.mac
  pub enc_size_fits : has_enc r.head ≡ true → (r.places.size % 32 ≡ 0) × (32 ≤ r.places.size)
  pub enc_lies_between : has_enc r.head ≡ true → (r.places.input ≤ r.places.enc) × (r.places.enc + r.places.size ≤ r.places.mac)
