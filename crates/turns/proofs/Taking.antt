-- A line that was read with empty rooms is the line of the definitions.
use mathlib.Core.Path.{◌≡◌, refl, sym}
use mathlib.Core.List.{List}
use Prim.Native.Nat.{ℕ}
use lib.ListN.{take, replicate}
use Rattle.state.specs.declared.Tag.{Tag}
use Rattle.first_lines.specs.Said.{said}
use Rattle.plans.specs.Plan.{line_command, line_random, line_expected}
use Rattle.std.specs.Prelude.{Result}
use Rattle.plans.specs.declared.Line.{Line}
use Rattle.plans.specs.declared.Reason.{Reason}
use Rattle.turns.specs.Steps.{line_in, meaning_in, expected_in, Stepped}
use Rattle.turns.proofs.Acting.{acted_carried}
use Rattle.turns.specs.Acts.{acted_by}
use Rattle.turns.specs.Lines.{told_of, line_acted, line_told}

-- a line, its command, random bytes and what it expects are those of the text
pub record Reads (line : List ℕ) (l : Result Line Reason) (c x e : List ℕ) : Type 0 where
  pub told : l ≡ line_in (said line)
  pub command : c ≡ line_command (said line) (replicate 512 0)
  pub random : x ≡ line_random (said line) (replicate 20 0)
  pub expected : e ≡ take (expected_in (line_in (said line))) (line_expected (said line) (replicate 258 0))

pub acted_line : {line c x e : List ℕ} {l : Result Line Reason} → Reads line l c x e → (t : Tag) (d : List ℕ)
    → acted_by (meaning_in l) t c x e d ≡ line_acted t line d
unfolding line_acted
acted_line h t d = rw (sym h.expected, sym h.told, sym h.command, sym h.random) refl

pub told_line : {line c x e : List ℕ} {l : Result Line Reason} → Reads line l c x e → (number : ℕ) (t : Tag) (d : List ℕ)
    → told_of number (meaning_in l) c e (acted_by (meaning_in l) t c x e d) ≡ line_told number t line d
unfolding line_told
told_line h number t d = rw (acted_line h t d, sym h.expected, sym h.told, sym h.command) refl

-- whatever the machine's random bytes are, the turn is one that the line may take
pub stepped_line : (t : Tag) (line d : List ℕ) → Stepped t line (line_acted t line d).turn
unfolding Stepped line_acted
stepped_line t line d = acted_carried _ t _ _ _ d
