-- Laws of where a plan begins.
use mathlib.Core.Path.{◌≡◌, refl}
use mathlib.Core.Bool.{true, false}
use mathlib.Core.List.{List}
use Prim.Native.Nat.{ℕ, zero, suc, ◌+◌, ◌-◌, ◌≤◌, ◌<◌}
use native.Mathlib.Numerals.{add-one}
use lib.Dec.{eqb}
use lib.ListN.{length, get_or, take, drop}
use lib.Seq.{drop-cons}
use borrow.Author.Tests.{lt-ltb, le-ltb}
use Rattle.base.specs.Decide.{pick}
use Rattle.lines.specs.Lines.{seek}
use Rattle.first_lines.specs.declared.FirstLine.{FirstLine}
use Rattle.first_lines.specs.Said.{is_blank}
use Rattle.first_lines.specs.Begins.{silent_in, no_line, line_from}

-- one character of a line that may be blank
pub silent-step : (s : List ℕ) (i : ℕ) → i < length s
    → silent_in (drop i s) ≡ pick (eqb (get_or s i 0) 35) true (pick (is_blank (get_or s i 0)) (silent_in (drop (i + 1) s)) false)
unfolding silent_in
silent-step s i h = rw (add-one, drop-cons s i 0 h) refl

-- behind the last line
pub line_end : (f : ℕ) (text : List ℕ) (at number : ℕ) → length text ≤ at → line_from f text at number ≡ no_line text number
unfolding line_from
line_end zero text at number h = refl
line_end (suc f) text at number h = rw (le-ltb at (length text) h) refl

-- a blank line, and one that is not
pub line_silent : (f : ℕ) (text : List ℕ) (at end number : ℕ) → at < length text → end ≡ seek text at 10
    → silent_in (take (end - at) (drop at text)) ≡ true → line_from (suc f) text at number ≡ line_from f text (end + 1) (number + 1)
unfolding line_from
line_silent f text at end number h e s = rw (lt-ltb at (length text) h, ← e, s) refl

pub line_here : (f : ℕ) (text : List ℕ) (at end number : ℕ) → at < length text → end ≡ seek text at 10
    → silent_in (take (end - at) (drop at text)) ≡ false
    → ◌≡◌ {A = FirstLine} (line_from (suc f) text at number) (record { start = at; end = end; number = number })
unfolding line_from
line_here f text at end number h e s = rw (lt-ltb at (length text) h, ← e, s) refl
