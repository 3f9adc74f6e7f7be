-- `sdm::codes::picc_text` meets its contract: three pieces fill the buffer.
use Rattle.base.proofs.Pieces.{also, full}
use Rattle.base.proofs.Bytes.{none}
use lib.Seq.{length-take-le}
use lib.ListN.{length, take}
use native.Mathlib.Omega.{arith}
use Prim.Native.Nat.{◌+◌, ◌-◌, ◌≤◌}
use mathlib.Core.List.{[], ◌∷◌}
use mathlib.Core.Path.{◌≡◌}
use borrow.Author.Rules.{rules}
use Rattle.sdm.proofs.codes.picc_text.Goals as goal

pub returns : goal.returns
returns c =
    let a = c.args in
    let l : length a.b ≡ 10 = search rules in
    let m : length a.padding ≡ 15 = search rules in
    let f : a.n ≤ 10 = c.requires in
    let p = length-take-le a.n a.b (omega arith) in
    let q = length-take-le (15 - a.n) a.padding (omega arith) in
    full (also (also (also (none _) (a.tag ∷ []) 1 (omega arith) (omega arith) c.put.ensures) (take a.n a.b) (1 + a.n) (omega (arith, p))
    (omega arith) c.put-2.ensures) (take (15 - a.n) a.padding) 16 (omega (arith, q)) (omega arith) c.put-3.ensures) (omega arith)
