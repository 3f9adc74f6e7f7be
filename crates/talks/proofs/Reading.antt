-- What a line of a log gives.
use mathlib.Core.Path.{◌≡◌, refl, sym, ◌∙◌}
use mathlib.Core.Bool.{Bool, true, false}
use mathlib.Core.List.{List, [], ◌∷◌}
use Prim.Native.Nat.{ℕ, ◌-◌, ◌/◌, ◌≤◌, ◌<◌}
use native.Mathlib.Omega.{arith}
use lib.Dec.{eqb}
use lib.ListN.{length, get_or, take, drop}
use borrow.Author.Tests.{eq-eqb, ne_eqb, lt-ltb}
use Rattle.base.specs.Decide.{pick}
use Rattle.base.specs.Bytes.{over}
use Rattle.base.proofs.Bytes.{front}
use Rattle.lines.specs.Lines.{before, seek}
use Rattle.lines.specs.Hex.{is_hex, bytes_of}
use Rattle.lines.proofs.Steps.{bytes_half}
use Rattle.talks.specs.Log.{counted, without_return, line_at, field_in, field_at}
use Rattle.tag.specs.declared.Outcome.{Outcome}
use Rattle.tag.specs.Call.{refusal_number}
use Rattle.talks.specs.Verdict.{another, differs}

pub counted_none : (s : List ℕ) → length s ≡ 0 → counted s ≡ 0
unfolding counted
counted_none [] e = refl
counted_none (b ∷ s) e = absurd (omega arith)

pub counted_within : (s : List ℕ) → counted s ≤ length s
unfolding counted
counted_within s = within (eqb (get_or s (length s - 1) 0) 13) (length s)
  where
    within : (t : Bool) (n : ℕ) → pick t (n - 1) n ≤ n
    within true n = omega arith
    within false n = omega arith

-- the bytes of digits stand at the front of the room
pub digits_front : (s old : List ℕ) → is_hex s ≡ true → take (length s / 2) (over (bytes_of s) old) ≡ bytes_of s
digits_front s old e = front {p = bytes_of s} {old = old} (record { is = refl; len = sym (bytes_half s e) })

-- the line between its start and the newline found, and none behind the last
line_length : (s : List ℕ) (i e : ℕ) → e ≡ seek s i 10 → e - i ≡ before 10 (drop i s)
unfolding seek
line_length s i e q = omega arith

pub line_found : (s : List ℕ) (i e : ℕ) → i < length s → e ≡ seek s i 10 → field_in (without_return (take (e - i) (drop i s))) ≡ field_at s i
unfolding field_at line_at
line_found s i e l q = rw (lt-ltb i (length s) l, ← line_length s i e q) refl

-- a reply is compared, and a refusal differs
pub judged-reply : (logged room : List ℕ) (o : Outcome) (n r : ℕ) (x : Bool) → r ≡ refusal_number o → r ≡ 0
    → x ≡ another logged room n → x ≡ differs logged o room n
unfolding differs
judged-reply logged room o n r x p q h = rw (eq-eqb (refusal_number o) 0 (sym p ∙ q)) h

pub judged-refusal : (logged room : List ℕ) (o : Outcome) (n r : ℕ) (x : Bool) → r ≡ refusal_number o → (r ≡ 0 → ⊥)
    → x ≡ true → x ≡ differs logged o room n
unfolding differs
judged-refusal logged room o n r x p q h = rw (ne_eqb (refusal_number o) 0 (λ e. q (p ∙ e))) h
