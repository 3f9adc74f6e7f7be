-- `sdm::codes::with_zeros` meets its contract: twelve bytes over fifteen zeros.
use mathlib.Core.Path.{◌≡◌, ap, ◌∙◌}
use mathlib.Core.List.{◌++◌}
use Prim.Native.Nat.{◌-◌}
use native.Mathlib.Omega.{arith}
use lib.ListN.{length, replicate}
use Rattle.base.proofs.Bytes.{laid-front, drop-replicate}
use borrow.Author.Rules.{rules}
use Rattle.sdm.proofs.codes.with_zeros.Goals as goal

pub returns : goal.returns
returns c =
    let p = c.args.padding in
    let l : length p ≡ 12 = search rules in
    let three : 15 - length p ≡ 3 = omega arith in
    c.put.ensures
    ∙ laid-front p (replicate 15 0) (omega arith)
    ∙ ap (λ x. p ++ x) (drop-replicate (length p) 15 0 ∙ ap (λ n. replicate n 0) three)
