-- `sdm::codes::vector` meets its contract: two pieces fill the buffer.
use Rattle.base.proofs.Pieces.{also, full}
use Rattle.base.proofs.Bytes.{none}
use lib.ListN.{length}
use native.Mathlib.Omega.{arith}
use mathlib.Core.List.{[], ◌∷◌}
use mathlib.Core.Path.{◌≡◌}
use borrow.Author.Rules.{rules}
use Rattle.sdm.proofs.codes.vector.Goals as goal

pub returns : goal.returns
returns c =
    let a = c.args in
    let l : length a.b ≡ 10 = search rules in
    full (also (also (none _) (a.l ∷ a.m ∷ 0 ∷ 1 ∷ 0 ∷ 128 ∷ []) 6 (omega arith) (omega arith) c.put.ensures) a.b 16 (omega arith) (omega arith)
    c.put-2.ensures) (omega arith)
