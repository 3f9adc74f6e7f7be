-- Laws of a plan that is walked line by line.
use mathlib.Core.Path.{◌≡◌, refl, sym, ap, subst, ◌∙◌}
use mathlib.Core.List.{List, []}
use Prim.Native.Nat.{ℕ, zero, suc, ◌+◌, ◌-◌, ◌≤◌, ◌<◌}
use native.Mathlib.Omega.{arith}
use lib.ListN.{length, take, drop, length-drop, drop_of_length-le}
use lib.Seq.{drop-drop}
use borrow.Author.Tests.{ne_eqb}
use Rattle.lines.specs.Lines.{before, seek}
use Rattle.state.specs.declared.Tag.{Tag}
use Rattle.turns.specs.declared.Turn.{Turn}
use Rattle.tallies.specs.declared.Tally.{Tally}
use Rattle.tallies.specs.Counts.{counted_by}
use Rattle.rehearse.specs.declared.walk.Rehearsal.{Rehearsal}
use Rattle.turns.specs.Steps.{Stepped}
use Rattle.rehearse.specs.Counts.{Walked}

none_left : (f k : ℕ) (t : Tag) (n : Tally) → Walked f k [] t n (record { tag = t; tally = n })
unfolding Walked
none_left zero k t n = refl
none_left (suc f) k t n = refl

-- behind the last line nothing is left to do
pub walked_end : (f k : ℕ) (text : List ℕ) (at : ℕ) (t : Tag) (n : Tally) → length text ≤ at
    → Walked f k (drop at text) t n (record { tag = t; tally = n })
walked_end f k text at t n h =
    subst (λ s. Walked f k s t n (record { tag = t; tally = n })) (sym (drop_of_length-le text {i = at} h)) (none_left f k t n)

-- a line, and then the others
pub walked_line : (f k : ℕ) (text : List ℕ) (at end : ℕ) (t : Tag) (n : Tally) (m : Turn) (r : Rehearsal) → at < length text
    → end ≡ seek text at 10 → Stepped t (take (end - at) (drop at text)) m
    → Walked f (k + 1) (drop (end + 1) text) m.tag (counted_by n (k + 1) m.went) r → Walked (suc f) k (drop at text) t n r
unfolding Walked seek
walked_line f k text at end t n m r h e s w =
    let b = before 10 (drop at text) in
    let x : end - at ≡ b = omega (arith, e) in
    let y : end + 1 ≡ at + (b + 1) = omega (arith, e) in
    rw (ne_eqb (length (drop at text)) 0 (λ z. omega (arith, z, length-drop at text)))
    (record {
      mid = m;
      here = subst (λ j. Stepped t (take j (drop at text)) m) x s;
      on = subst (λ l. Walked f (k + 1) l m.tag (counted_by n (k + 1) m.went) r)
          (ap (λ j. drop j text) y ∙ sym (drop-drop (b + 1) at text))
          w;
    })
