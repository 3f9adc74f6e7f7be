-- `normalising::lay_front` meets its contract: each turn lays one byte more.
use mathlib.Core.Path.{◌≡◌, sym, ap, ◌∙◌}
use native.Mathlib.Numerals.{add-one}
use native.Mathlib.Omega.{arith}
use lib.ListN.{length}
use lib.Seq.{paste, paste-zero, paste-suc, length-paste}
use Rattle.base.proofs.Bytes.{laid-fits}
use Rattle.normalising.proofs.lay_front.Goals as goal

pub loop-i-init : goal.loop-i-init
loop-i-init c = paste-zero c.args.room.now 0 c.args.s.now

pub returns : goal.returns
returns c =
    let a = c.args in
    let e : c.loop-i.i ≡ length a.s.now = omega arith in
    c.loop-i.invariant ∙ ap (λ n. paste a.room.now 0 a.s.now n) e
    ∙ sym (laid-fits a.s.now 0 a.room.now (omega arith))
