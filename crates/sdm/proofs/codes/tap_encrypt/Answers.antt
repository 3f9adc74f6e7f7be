-- `sdm::codes::tap_encrypt` meets its contract: as chaining has it, and the vector is counted.
use mathlib.Core.Path.{◌≡◌, sym, ap, ap₂, ◌∙◌}
use mathlib.Core.List.{◌++◌}
use Prim.Native.Nat.{◌%◌, ◌+◌}
use Rattle.std.specs.Prelude.{Ok}
use native.Mathlib.Omega.{arith}
use borrow.Author.Tests.{eq-eqb, ne_eqb}
use lib.ListN.{length, replicate}
use Rattle.base.specs.Bytes.{low}
use Rattle.base.specs.Decide.{pick}
use Rattle.aes.specs.Block.{cipher}
use Rattle.cbc.specs.Cbc.{cbc_out, whole, cbc_cost, chained_cost}
use Rattle.cbc.proofs.Turns.{chains_cost}
use Rattle.sdm.specs.Tap.{tap_iv, hidden_cost}
use Rattle.sdm.proofs.codes.tap_encrypt.Goals as goal

-- `sdm::codes::tap_encrypt` meets its contract: as chaining has it, and the vector is counted.
pub returns-then-text-ne0 : goal.returns-then-text-ne0
returns-then-text-ne0 c =
    let n = ne_eqb (length c.args.text.now % 16) 0 c.if-text-ne0.true in
    record { answer = simp n; cost = simp n; text = simp n }

pub overflow_add-result : goal.overflow_add-result
unfolding cbc_cost
overflow_add-result c =
    let x = ap chained_cost (sym c.unwrap-cost.ensures) ∙ chains_cost c.cbc_encrypt.ensures c.if-text-ne0.false in
    omega (arith, ap (λ v. v.cost) c.tap_vector-v.ensures, x)

pub returns : goal.returns
unfolding tap_iv hidden_cost
returns c =
    let a = c.args in
    let x = a.text.now in
    let h : length x % 16 ≡ 0 = c.if-text-ne0.false in
    let e = c.expand-w.ensures in
    let v = c.tap_vector-v.ensures in
    let s = c.cbc_encrypt.ensures in
    let n : c.tap_vector-v.result.cost + c.unwrap-cost.result ≡ hidden_cost (length x) =
    omega (arith, ap (λ y. y.cost) v, ap chained_cost (sym c.unwrap-cost.ensures) ∙ chains_cost s h) in
    record {
      answer = rw (eq-eqb (length x % 16) 0 h) (ap Ok n);
      cost = rw (eq-eqb (length x % 16) 0 h) n;
      text = s.left
          ∙ ap₂ (λ w u. pick (whole x) (cbc_out w u x) x) e
          (ap (λ y. y.bytes) v ∙ ap (λ w. cipher w (low 3 a.counter ++ replicate 13 0)) e);
    }
