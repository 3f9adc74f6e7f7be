-- `cbc::load` meets its contract: the 16 bytes there, or zeros.
use mathlib.Core.Path.{◌≡◌, sym, ◌∙◌}
use Prim.Native.Nat.{◌+◌, ◌-◌}
use native.Mathlib.Omega.{arith}
use borrow.Author.Tests.{lt-leb}
use lib.ListN.{length}
use Rattle.cbc.specs.Cbc.{block_at}
use Rattle.cbc.proofs.Turns.{block_inside}
use Rattle.cbc.proofs.load.Goals as goal
use Rattle.cbc.proofs.load.Goals.{else-at-s-via-then-at-s+else-s-at-ge16, else-at-s-via-else-at-s}

pub returns-then-s-at-ge16 : goal.returns-then-s-at-ge16
returns-then-s-at-ge16 c =
    let a = c.args in
    let e : a.at + 16 - a.at ≡ 16 = omega arith in
    c.copy_from_slice.ensures.after ∙ rw e (sym (block_inside a.s.now a.at (omega arith)))

pub returns-else-at-s : goal.returns-else-at-s
unfolding block_at
returns-else-at-s c =
    let a = c.args in
    elim c.else-at-s.branch [
      | else-at-s-via-then-at-s+else-s-at-ge16 w ↦ simp (lt-leb (a.at + 16) (length a.s.now) (omega arith))
      | else-at-s-via-else-at-s w ↦ simp (lt-leb (a.at + 16) (length a.s.now) (omega arith))
    ]
