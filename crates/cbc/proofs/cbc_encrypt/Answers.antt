-- `cbc::cbc_encrypt` meets its contract: each turn lays one block in its place, and is counted.
use mathlib.Core.Path.{◌≡◌, refl, ap, ◌∙◌}
use Prim.Native.Nat.{◌*◌, ◌/◌}
use native.Mathlib.Omega.{arith}
use borrow.Author.Rules.{rules}
use borrow.Author.Tests.{eq-eqb, ne_eqb}
use lib.ListN.{length, take, drop}
use Rattle.std.specs.Prelude.{Ok}
use Rattle.cbc.specs.Cbc.{sealed, cbc_out, chained_number, cbc_cost}
use Rattle.cbc.proofs.Turns.{block_inside, still_told, still_end}
use Rattle.cbc.proofs.cbc_encrypt.Goals as goal

pub returns-then-buf-ne0 : goal.returns-then-buf-ne0
unfolding chained_number
returns-then-buf-ne0 c =
    let e = ne_eqb _ _ c.if-buf-ne0.true in
    record { told = simp e; left = simp e; number = simp e; cost = simp e }

pub loop-i-preserved : goal.loop-i-preserved
unfolding sealed
loop-i-preserved c =
    let l = c.loop-i in
    let w = c.args.w.now in
    let bl : c.load-p.result ≡ take 16 (drop (l.i * 16) l.buf) = c.load-p.ensures
    ∙ block_inside l.buf (l.i * 16) (omega (arith, l.invariant.still.ends, c.loop-i-test.true)) in
    let e : c.encrypt_with-c.result.bytes ≡ sealed w l.v (take 16 (drop (l.i * 16) l.buf)) = c.encrypt_with-c.ensures.standard (search rules)
    ∙ rw (c.xor_block.ensures, bl) refl in
    record {
      still = still_told _ _ _ _ _ l.buf l.v _ _ _ (l.i * 16) _ _ _ l.invariant.still (omega arith) e (search rules) c.put.ensures e (omega arith) (omega arith);
      cost = omega (arith, l.invariant.cost, c.encrypt_with-c.ensures.cost);
    }

pub returns : goal.returns
unfolding cbc_out chained_number cbc_cost
returns c =
    let e = eq-eqb _ _ c.if-buf-ne0.false in
    let l = c.loop-i in
    let n : l.cost ≡ length c.args.buf.now / 16 = omega (arith, l.invariant.cost) in
    record {
      told = rw e (ap Ok n);
      left = still_end _ _ _ _ _ _ _ _ _ l.invariant.still (omega arith) ∙ simp e;
      number = simp e;
      cost = rw e n;
    }
