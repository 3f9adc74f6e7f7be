-- Of a reading whose spans end inside the file: where a mirror is present, so many bytes from its start on do.
use mathlib.Core.Path.{◌≡◌, sym, ap, ◌∙◌}
use mathlib.Core.Bool.{Bool, true}
use Prim.Native.Nat.{ℕ, ◌+◌, ◌≤◌}
use native.Mathlib.Omega.{arith}
use Rattle.base.specs.Decide.{pick}
use Rattle.spans.specs.declared.Span.{Span}
use Rattle.spans.specs.declared.Reading.{Reading}
use Rattle.fields.specs.Fields.{has_uid, has_counter, has_picc, has_mac}
use Rattle.spans.specs.Spans.{span, uid_span, counter_span, picc_span, mac_span, reading_of, end_of, SpansFit}

-- a span that is there has its size
inside_by : (x : Span) (p : Bool) (at n : ℕ) → x ≡ span p at n → end_of x ≤ 256 → x.present ≡ true → x.start + n ≤ 256
unfolding span
inside_by x p at n e h t =
    let z : x.size ≡ n = ap (λ y. y.size) e ∙ ap (λ b. pick b n 0) (sym (ap (λ y. y.present) e) ∙ t) in
    omega (arith, h)

module _ (r : Reading) (w : SpansFit r) where
  pub uid-inside : r.uid.present ≡ true → r.uid.start + 14 ≤ 256
  unfolding reading_of uid_span
  uid-inside = inside_by r.uid (has_uid r.settings.head) r.settings.places.uid 14 (ap (λ x. x.uid) w.spans) w.uid

  pub counter-inside : r.counter.present ≡ true → r.counter.start + 6 ≤ 256
  unfolding reading_of counter_span
  counter-inside = inside_by r.counter (has_counter r.settings.head) r.settings.places.counter 6 (ap (λ x. x.counter) w.spans) w.counter

  pub picc-inside : r.picc.present ≡ true → r.picc.start + 32 ≤ 256
  unfolding reading_of picc_span
  picc-inside = inside_by r.picc (has_picc r.settings.head) r.settings.places.picc 32 (ap (λ x. x.picc) w.spans) w.picc

  pub mac-inside : r.mac.present ≡ true → r.mac.start + 16 ≤ 256
  unfolding reading_of mac_span
  mac-inside = inside_by r.mac (has_mac r.settings.head) r.settings.places.mac 16 (ap (λ x. x.mac) w.spans) w.mac
