-- What the mirrors cost is 02's formula, and never over 28 (specs/CipherWork.antt).
use Rattle.std.specs.Prelude.{Ok}
use mathlib.Core.Bool.{Bool, true, false}
use mathlib.Core.Path.{◌≡◌, refl, ap, ap₂}
use mathlib.Core.List.{List, ◌∷◌, []}
use mathlib.Core.Logic.{◌⊎◌, inl, inr, ⊎_elim}
use Prim.Native.Nat.{ℕ, zero, suc, max, ◌+◌, ◌-◌, ◌/◌, ◌≤◌}
use native.Mathlib.Omega.{arith}
use borrow.Author.Tests.{leb-true, ne_eqb}
use lib.Dec.{eqb, leb}
use Rattle.base.specs.Decide.{pick}
use Rattle.base.proofs.Bytes.{and_left, and_right}
use Rattle.writing.proofs.Small.{or_true}
use Rattle.cbc.specs.Cbc.{cbc_cost}
use Rattle.cmac.specs.Cmac.{blocks_of, cmac_cost}
use Rattle.fields.specs.declared.Head.{Head}
use Rattle.fields.specs.declared.Settings.{Settings}
use Rattle.fields.specs.Fields.{has_picc, has_mac, has_enc, head_of, sdm_on, read_of}
use Rattle.spans.specs.declared.Span.{Span}
use Rattle.spans.specs.Spans.{span, uid_span, counter_span, picc_span, enc_span, mac_span, spans_of, reading_of, end_of, inside, apart, apart_from, all_apart}
use Rattle.rules.specs.Rules.{enc_needs, enc_between}
use Rattle.settings.specs.Answers.{judged}
use Rattle.meanings.proofs.Kept.{Positions, positions_held, sdm_kept}
use Rattle.meanings.proofs.Mirrors.{positions_kept}
use Rattle.sdm.specs.Tap.{hidden_cost}
use Rattle.mirror.specs.Mirrors.{picc_mirror_cost, enc_mirror_cost, mac_mirror_cost, dynamic_cost}
use Rattle.cipher_work.specs.CipherWork.{picc_blocks, enc_blocks, mac_blocks, mirrored_blocks, StringAtMost28}

-- the larger of 1 and so many bytes divided by 16, rounded up
blocks_max : (n : ℕ) → blocks_of n ≡ max 1 ((n + 15) / 16)
unfolding blocks_of
blocks_max zero = refl
blocks_max (suc n) = rw (ne_eqb (suc n) 0 (λ e. omega arith)) (omega arith)

-- ENC is on only with SDMFileRead
needs_key : (h : Head) → enc_needs h ≡ true → h.enc ≡ true → eqb h.sdm_file_read 15 ≡ true → {A : Type 0} → A
unfolding enc_needs
needs_key h e o f {A} = let z : ◌≡◌ {A = ℕ} 0 1 = ap (λ b. pick b 1 0) (rw (o, f) at e) in absurd (omega arith)

-- ---- the formula
module _ (r : Settings) (on : r.head.sdm ≡ true) where
  picc_is : picc_mirror_cost (reading_of r) ≡ picc_blocks r.head
  unfolding picc_mirror_cost reading_of picc_span span has_picc picc_blocks
  picc_is = rw on refl

  mac_by : (f : Bool) → eqb r.head.sdm_file_read 15 ≡ f → mac_mirror_cost (reading_of r) ≡ mac_blocks r
  unfolding mac_mirror_cost reading_of mac_span span has_mac mac_blocks cmac_cost
  mac_by true e = rw (on, e) refl
  mac_by false e = rw (on, e) (omega (arith, blocks_max (r.places.mac - r.places.input), blocks_max 16))

  enc_by : (o f : Bool) → r.head.enc ≡ o → eqb r.head.sdm_file_read 15 ≡ f → enc_needs r.head ≡ true
      → enc_mirror_cost (reading_of r) ≡ enc_blocks r
  unfolding enc_mirror_cost reading_of enc_span span has_enc has_mac enc_blocks cmac_cost hidden_cost cbc_cost
  enc_by false f d e n = rw d refl
  enc_by true true d e n = needs_key r.head n d e
  enc_by true false d e n = rw (d, on, e) (omega (arith, blocks_max 16))

  pub formula_is : enc_needs r.head ≡ true → dynamic_cost (reading_of r) ≡ mirrored_blocks r
  unfolding dynamic_cost mirrored_blocks
  formula_is n = ap₂ (λ x y. x + y) (ap₂ (λ x y. x + y) picc_is (enc_by _ _ refl refl n)) (mac_by _ refl)

-- ---- never over 28
-- of PICCData, ENC and the MAC, which share no byte of 256, ENC has at most 208
room-left : (p e s m : ℕ) → (p + 32 ≤ e) ⊎ (e + s ≤ p) → (p + 32 ≤ m) ⊎ (m + 16 ≤ p) → e + s ≤ m → m + 16 ≤ 256 → p + 32 ≤ 256 → s ≤ 208
room-left p e s m (inl a) b c d f = omega arith
room-left p e s m (inr a) (inl b) c d f = omega arith
room-left p e s m (inr a) (inr b) c d f = omega arith

apart_by : (a b : Span) → apart a b ≡ true → (end_of a ≤ b.start) ⊎ (end_of b ≤ a.start)
unfolding apart
apart_by a b e = ⊎_elim (λ h. inl (leb-true _ _ h)) (λ h. inr (leb-true _ _ h)) (or_true (leb (end_of a) b.start) _ e)

-- the tests of the last three spans
module _ (r : Settings) (p : Positions r) where
  last_apart : apart_from (picc_span r) (enc_span r ∷ mac_span r ∷ []) ≡ true
  unfolding spans_of all_apart
  last_apart =
      let last = enc_span r ∷ mac_span r ∷ [] in
      let a = and_right (apart_from (uid_span r) (counter_span r ∷ picc_span r ∷ last)) (all_apart (counter_span r ∷ picc_span r ∷ last)) p.shared in
      let b = and_right (apart_from (counter_span r) (picc_span r ∷ last)) (all_apart (picc_span r ∷ last)) a in
      and_left (apart_from (picc_span r) last) (all_apart last) b

  picc-enc : apart (picc_span r) (enc_span r) ≡ true
  unfolding apart_from
  picc-enc = and_left _ _ last_apart

  picc-mac : apart (picc_span r) (mac_span r) ≡ true
  unfolding apart_from
  picc-mac = and_left _ _ (and_right (apart (picc_span r) (enc_span r)) _ last_apart)

  mac-inside : has_mac r.head ≡ true → r.places.mac + 16 ≤ 256
  unfolding inside mac_span span
  mac-inside h = leb-true _ 256 (rw h at p.mac)

  picc-inside : has_picc r.head ≡ true → r.places.picc + 32 ≤ 256
  unfolding inside picc_span span
  picc-inside h = leb-true _ 256 (rw h at p.picc)

  enc-before : has_enc r.head ≡ true → r.places.enc + r.places.size ≤ r.places.mac
  unfolding enc_between
  enc-before h = leb-true _ _ (and_right (leb r.places.input r.places.enc) _ (rw h at p.between))

  enc-room : has_picc r.head ≡ true → has_enc r.head ≡ true → has_mac r.head ≡ true → r.places.size ≤ 208
  unfolding picc_span enc_span mac_span span
  enc-room a b c =
      room-left r.places.picc r.places.enc r.places.size r.places.mac (rw (a, b) at (apart_by (picc_span r) (enc_span r) picc-enc))
      (rw (a, c) at (apart_by (picc_span r) (mac_span r) picc-mac)) (enc-before b) (mac-inside c) (picc-inside a)

module _ (r : Settings) (on : r.head.sdm ≡ true) (needs : enc_needs r.head ≡ true) (p : Positions r) where
  by_parts : (k o f : Bool) → leb r.head.sdm_meta_read 4 ≡ k → r.head.enc ≡ o → eqb r.head.sdm_file_read 15 ≡ f → mirrored_blocks r ≤ 28
  unfolding mirrored_blocks picc_blocks enc_blocks mac_blocks has_picc has_enc has_mac
  by_parts k true true a b c = needs_key r.head needs b c
  by_parts true false true a b c = rw (a, b, c) (omega arith)
  by_parts false false true a b c = rw (a, b, c) (omega arith)
  by_parts true false false a b c = rw (a, b, c) (omega (arith, mac-inside r p (rw (on, c) refl)))
  by_parts false false false a b c = rw (a, b, c) (omega (arith, mac-inside r p (rw (on, c) refl)))
  by_parts true true false a b c =
      let m : has_mac r.head ≡ true = rw (on, c) refl in
      let e : has_enc r.head ≡ true = rw (b, on, c) refl in
      let q : has_picc r.head ≡ true = rw (on, a) refl in
      rw (a, b, c) (omega (arith, mac-inside r p m, enc-room r p q e m))
  by_parts false true false a b c =
      let m : has_mac r.head ≡ true = rw (on, c) refl in
      let e : has_enc r.head ≡ true = rw (b, on, c) refl in
      rw (a, b, c) (omega (arith, mac-inside r p m, enc-before r p e))

  pub settings_few : mirrored_blocks r ≤ 28
  settings_few = by_parts _ _ _ refl refl refl

pub needs_of : (s : List ℕ) → judged 2 s ≡ Ok tt → sdm_on s ≡ true → enc_needs (read_of s).head ≡ true
unfolding read_of
needs_of s e o = (sdm_kept 2 s e o).needs

pub head_on : (s : List ℕ) → sdm_on s ≡ true → (read_of s).head.sdm ≡ true
unfolding read_of head_of
head_on s o = o

pub string_at_most_28 : StringAtMost28
string_at_most_28 s e o = settings_few (read_of s) (head_on s o) (needs_of s e o) (positions_held (read_of s) (positions_kept 2 s e))
