-- `storing::parts::with_counter` meets its contract.
use mathlib.Core.List.{List, [], ◌∷◌}
use mathlib.Core.Path.{◌≡◌, refl, ap, ◌∙◌}
use Prim.Native.Nat.{ℕ, ◌+◌}
use native.Mathlib.Omega.{arith}
use borrow.Author.Rules.{rules}
use lib.ListN.{length}
use Rattle.base.specs.Bytes.{laid, low}
use Rattle.image.proofs.Pieces.{laid_all}
use Rattle.storing.proofs.Little.{little_2}
use Rattle.storing.proofs.parts.with_counter.Goals as goal

pub returns : goal.returns
unfolding low
returns g c =
    let a = c.args in
    let i = g.row.P in
    let j = i + 16 in
    let k = j + g.row.R in
    let l = k + 4 in
    let ps = a.p.now ∷ a.q.now ∷ a.r.now ∷ a.ti.now ∷ low 2 a.counter ∷ [] in
    let lp : length a.p.now ≡ i = search rules in
    let lq : length a.q.now ≡ 16 = search rules in
    let lr : length a.r.now ≡ g.row.R = search rules in
    let lt : length a.ti.now ≡ 4 = search rules in
    let from : ℕ → List ℕ = λ m. laid (low 2 a.counter) (m + 16 + g.row.R + 4)
    (laid a.ti.now (m + 16 + g.row.R) (laid a.r.now (m + 16) (laid a.q.now m (laid a.p.now 0 a.s.now)))) in
    let z : i ≡ 0 + i = omega arith in
    (c.put-5.ensures
    ∙ ap (λ x. laid x l c.put-4.new.dst) (c.to_le_bytes.ensures ∙ little_2 a.counter)
    ∙ ap (λ x. laid (low 2 a.counter) l x) (c.put-4.ensures
    ∙ ap (λ x. laid a.ti.now k x) (c.put-3.ensures
    ∙ ap (λ x. laid a.r.now j x) (c.put-2.ensures
    ∙ ap (λ x. laid a.q.now i x) c.put.ensures))))
    ∙ ap from z
    ∙ laid_all (i ∷ 16 ∷ g.row.R ∷ 4 ∷ 2 ∷ []) ps a.s.now (λ n. lp n ∷ lq n ∷ lr n ∷ lt n ∷ 2 ∷ []) (omega (arith, c.requires, lp, lq, lr, lt))
