-- Laws of a line: stray characters, and lines that are too long.
use mathlib.Core.Path.{◌≡◌, refl}
use mathlib.Core.List.{List, [], ◌∷◌}
use Prim.Native.Nat.{ℕ, ◌-◌, ◌≤◌}
use native.Mathlib.Omega.{arith}
use lib.ListN.{length, take, drop, length-drop}
use lib.Seq.{take_all}
use borrow.Author.Tests.{le-leb}
use Rattle.base.specs.Decide.{or}
use Rattle.std.specs.Prelude.{Bool, true, false, Err, is_none, ◌||◌}
use Rattle.std.specs.List.{list_any}
use Rattle.lines.specs.Hex.{digit_of}
use Rattle.first_lines.proofs.Tidying.{cut}
use Rattle.plans.specs.declared.Reason.TheVariants.{TooLong}
use Rattle.plans.specs.Plan.{stray_in, line_of, line_command, line_random, line_expected}

-- a stray character is one that is no digit
pub stray_any : (s : List ℕ) → stray_in s ≡ list_any (λ c. is_none (digit_of c)) s
unfolding stray_in
stray_any [] = refl
stray_any (x ∷ s) = rw (stray_any s) (by (is_none (digit_of x)) _)
  where
    by : (t u : Bool) → or t u ≡ (t || u)
    by true u = refl
    by false u = refl

long_line : (command random expected s : List ℕ) → 1700 ≤ length s → line_of s command random expected ≡ Err TooLong
unfolding line_of
long_line command random expected s h = rw (le-leb 1700 (length s) h) refl

long_command : (room s : List ℕ) → 1700 ≤ length s → line_command s room ≡ room
unfolding line_command
long_command room s h = rw (le-leb 1700 (length s) h) refl

long_random : (room s : List ℕ) → 1700 ≤ length s → line_random s room ≡ room
unfolding line_random
long_random room s h = rw (le-leb 1700 (length s) h) refl

long_expected : (room s : List ℕ) → 1700 ≤ length s → line_expected s room ≡ room
unfolding line_expected
long_expected room s h = rw (le-leb 1700 (length s) h) refl

pub cut_line : (command random expected s : List ℕ) → line_of (take 1700 s) command random expected ≡ line_of s command random expected
cut_line command random expected = cut (λ s. line_of s command random expected) (Err TooLong) (long_line command random expected)

pub cut_command : (room s : List ℕ) → line_command (take 1700 s) room ≡ line_command s room
cut_command room = cut (λ s. line_command s room) room (long_command room)

pub cut_random : (room s : List ℕ) → line_random (take 1700 s) room ≡ line_random s room
cut_random room = cut (λ s. line_random s room) room (long_random room)

pub cut_expected : (room s : List ℕ) → line_expected (take 1700 s) room ≡ line_expected s room
cut_expected room = cut (λ s. line_expected s room) room (long_expected room)

-- all that stands from an index on
pub from_on : (n : ℕ) (s : List ℕ) → take (length s - n) (drop n s) ≡ drop n s
from_on n s = take_all (length s - n) (drop n s) (omega (arith, length-drop n s))
