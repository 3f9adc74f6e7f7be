-- `cmac::shift` meets its contract: a table filled byte by byte; behind the last byte stands nothing.
use mathlib.Core.Path.{◌≡◌, refl, ap, ◌∙◌}
use Prim.Native.Nat.{ℕ, ◌+◌, ◌*◌, ◌/◌, ◌%◌}
use native.Mathlib.Omega.{arith}
use mir.Val.{Fits}
use mir.Syntax.{w8}
use lib.ListN.{length, set, get_or-eq_default}
use Rattle.base.specs.Bytes.{byte_at}
use Rattle.base.proofs.Fill.{filled_none, filled_more, filled_all}
use Rattle.cmac.specs.Cmac.{shifted}
use borrow.Author.Rules.{rules}
use Rattle.cmac.proofs.shift.Goals as goal

pub loop-i-init : goal.loop-i-init
loop-i-init c = filled_none 0 16 _ _ refl

pub loop-i-preserved : goal.loop-i-preserved
loop-i-preserved c =
    let b : (k : ℕ) → Fits w8 (byte_at c.args.s k) = λ k. search rules in
    filled_more 0 16 _ _ _ _ c.loop-i.invariant (omega arith) (omega (arith, b (c.loop-i.i + 1)))

pub returns : goal.returns
unfolding shifted
returns c =
    let s = c.args.s in
    let e : 15 ≡ c.loop-i.i = omega arith in
    let l : length s ≡ 16 = search rules in
    let z : byte_at s 16 ≡ 0 = get_or-eq_default s 0 (omega arith) in
    let v : byte_at s 15 % 128 * 2 ≡ byte_at s 15 % 128 * 2 + byte_at s 16 / 128 = omega arith in
    ap (λ n. set c.loop-i.r n (byte_at s 15 % 128 * 2)) e
    ∙ filled_all 0 16 _ _ _ (filled_more 0 16 _ _ c.loop-i.i _ c.loop-i.invariant (omega arith)
    (v ∙ ap (λ n. byte_at s n % 128 * 2 + byte_at s (n + 1) / 128) e)) (omega arith)
