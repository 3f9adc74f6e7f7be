use mathlib.Core.Path.{◌≡◌, sym, ap, ap₂, ◌∙◌}
use native.Mathlib.Omega.{arith}
use Prim.Native.Nat.{◌-◌}
use lib.ListN.{length, drop, length-drop}
use lib.Seq.{length-take-le}
use Rattle.aes.specs.Block.{counted}
use Rattle.cmac.specs.Cmac.{mac, cmac_cost}
use Rattle.mirror.specs.Mirrors.{stretch}
use Rattle.mirror.proofs.Laying.{no_stretch}
use borrow.Author.Rules.{rules}
use Rattle.mirror.proofs.mac_between.Goals as goal

pub returns-then-a-e : goal.returns-then-a-e
returns-then-a-e c =
    let a = c.args in
    let f : length a.file ≡ 256 = search rules in
    let l : length (stretch a.a a.e a.file) ≡ a.e - a.a =
    length-take-le (a.e - a.a) (drop a.a a.file) (omega (arith, length-drop a.a a.file, c.requires)) in
    c.tap_mac.ensures ∙ ap (λ n. counted (mac a.key (stretch a.a a.e a.file)) (cmac_cost n)) l

pub returns : goal.returns
returns c =
    let a = c.args in
    let none = no_stretch a.e a.e a.file (omega arith) in
    let z : 0 ≡ a.e - a.a = omega arith in
    c.tap_mac-2.ensures
    ∙ ap₂ counted (ap (mac a.key) (none ∙ sym (no_stretch a.a a.e a.file (omega arith)))) (ap cmac_cost (ap length none ∙ z))
