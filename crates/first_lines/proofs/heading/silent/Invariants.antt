use Rattle.first_lines.specs.Begins.{silent_in}
use lib.ListN.{drop}
use mathlib.Core.Path.{◌≡◌}
use Rattle.first_lines.proofs.heading.silent.Given as goal

abbrev pub invariant-loop-c : goal.invariant-loop-c
invariant-loop-c l = silent_in (drop l.c-index l.line) ≡ silent_in l.line
