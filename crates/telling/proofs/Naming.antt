-- A table that is searched line by line.
use mathlib.Core.Path.{◌≡◌, refl, sym, ap, ap₂, ◌∙◌}
use mathlib.Core.Bool.{true, false}
use mathlib.Core.List.{List, [], ◌∷◌}
use Prim.Native.Nat.{ℕ, zero, suc, ◌+◌, ◌-◌, ◌/◌, ◌%◌, ◌≤◌, ◌<◌}
use native.Mathlib.Nat.{sub-zero}
use native.Mathlib.Numerals.{add-one}
use native.Mathlib.Omega.{arith}
use lib.ListN.{length, take, drop, length-drop, drop_of_length-le}
use lib.Seq.{drop-drop, take_all}
use mathlib.Core.Logic.{⊎_elim}
use denote.Ref.{Bor}
use Rattle.std.specs.Slice.{IsGetRangeResult}
use Rattle.std.specs.Prelude.{Option, None, Some, unwrap_or}
use Rattle.base.specs.Decide.{pick}
use Rattle.base.specs.Bytes.{same}
use Rattle.lines.specs.Lines.{before, seek}
use Rattle.lines.specs.Hex.{chars_room}
use Rattle.lines.proofs.Steps.{chars_whole}
use Rattle.telling.specs.Names.{head_line, row_of, key_of}

skipped : (k : ℕ) (s key other : List ℕ) → row_of k s key other ≡ row_of 0 (drop k s) key other
unfolding row_of
skipped zero s key other = refl
skipped (suc k) [] key other = refl
skipped (suc k) (x ∷ s) key other = skipped k s key other

first_row : (s key other : List ℕ) → 0 < length s
    → row_of 0 s key other ≡ pick (same (take 4 (head_line s)) key) (drop 4 (head_line s)) (row_of 0 (drop (before 10 s + 1) s) key other)
unfolding row_of
first_row [] key other h = absurd (omega arith)
first_row (x ∷ s) key other h =
    ap (λ r. pick (same (take 4 (head_line (x ∷ s))) key) (drop 4 (head_line (x ∷ s))) r)
    (skipped (before 10 (x ∷ s)) s key other
    ∙ ap (λ n. row_of 0 (drop n (x ∷ s)) key other) (sym (add-one (before 10 (x ∷ s)))))

-- the line from an index to its end, and the lines behind it
row_step : (table key other : List ℕ) (at end : ℕ) → at < length table → end ≡ seek table at 10
    → row_of 0 (drop at table) key other
    ≡ pick (same (take 4 (take (end - at) (drop at table))) key) (drop 4 (take (end - at) (drop at table)))
    (row_of 0 (drop (end + 1) table) key other)
unfolding seek
row_step table key other at end h e =
    let b = before 10 (drop at table) in
    let x : end - at ≡ b = omega (arith, e) in
    let y : end + 1 ≡ at + (b + 1) = omega (arith, e) in
    first_row (drop at table) key other (omega (arith, length-drop at table))
    ∙ ap₂ (λ n r. pick (same (take 4 (take n (drop at table))) key) (drop 4 (take n (drop at table))) (row_of 0 r key other)) (sym x)
    (drop-drop (b + 1) at table ∙ ap (λ j. drop j table) (sym y))

pub row_here : (table key other : List ℕ) (at end : ℕ) → at < length table → end ≡ seek table at 10
    → same (take 4 (take (end - at) (drop at table))) key ≡ true
    → row_of 0 (drop at table) key other ≡ drop 4 (take (end - at) (drop at table))
row_here table key other at end h e t = row_step table key other at end h e ∙ rw t refl

pub row_next : (table key other : List ℕ) (at end : ℕ) → at < length table → end ≡ seek table at 10
    → same (take 4 (take (end - at) (drop at table))) key ≡ false
    → row_of 0 (drop at table) key other ≡ row_of 0 (drop (end + 1) table) key other
row_next table key other at end h e t = row_step table key other at end h e ∙ rw t refl

pub row_none : (table key other : List ℕ) (at : ℕ) → length table ≤ at → row_of 0 (drop at table) key other ≡ other
unfolding row_of
row_none table key other at h = rw (drop_of_length-le table {i = at} h) refl

-- a status as four digits
key_is : (s : ℕ) (old : List ℕ) → length old ≡ 4 → chars_room (s / 256 % 256 ∷ s % 256 ∷ []) old ≡ key_of s
unfolding key_of
key_is s old h = chars_whole (s / 256 % 256 ∷ s % 256 ∷ []) old (omega arith)

pub key_bytes : (s : ℕ) (b old key : List ℕ) → b ≡ s / 256 % 256 ∷ s % 256 ∷ [] → key ≡ chars_room b old → length old ≡ 4 → key ≡ key_of s
key_bytes s b old key e f l = f ∙ ap (λ x. chars_room x old) e ∙ key_is s old l

-- the front of a text, and all of it where it is no longer
pub front_of : (s : List ℕ) (n : ℕ) (r : Option (Bor (List ℕ))) (all : Bor (List ℕ)) → IsGetRangeResult s 0 n r → all.now ≡ s → (unwrap_or r all).now ≡ take n s
front_of s n None all h e = e ∙ sym (take_all n s (⊎_elim (λ k. omega arith) (λ k. omega arith) h.0))
front_of s n (Some x) all h e = h.0.2 ∙ ap (λ k. take k s) (sub-zero n)
