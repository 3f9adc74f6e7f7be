-- `crc::crc_of` meets its contract: what is still to do is the whole.
use mathlib.Core.Path.{◌≡◌, sym, ap, ap₂, ◌∙◌}
use mathlib.Core.List.{[], ◌∷◌}
use Prim.Native.Nat.{◌+◌, ◌/◌, ◌%◌}
use native.Mathlib.Omega.{arith}
use lib.ListN.{drop, drop_of_length-le}
use Rattle.base.specs.Bytes.{low}
use Rattle.crc.specs.Crc.{crc, crc_bytes}
use Rattle.crc.proofs.CrcSteps.{bytes-step}
use Rattle.crc.proofs.crc_of.Goals as goal

pub loop-b-preserved : goal.loop-b-preserved
loop-b-preserved c =
    let s = c.args.s.now in
    let l = c.loop-b in
    ap (λ v. crc_bytes v (drop (l.b-index + 1) s)) c.crc_byte-c.ensures ∙ sym (bytes-step l.c s l.b-index (omega arith)) ∙ l.invariant

pub returns : goal.returns
unfolding crc crc_bytes low
returns c =
    let s = c.args.s.now in
    let v = c.loop-b.c in
    let e : v ≡ crc_bytes 0xFFFFFFFF s = rw (drop_of_length-le s {i = c.loop-b.b-index} (omega arith)) at c.loop-b.invariant in
    let f : v / 65536 ≡ v / 256 / 256 = omega arith in
    let g : v / 16777216 ≡ v / 256 / 256 / 256 = omega arith in
    c.to_le_bytes.ensures ∙ ap₂ (λ x y. v % 256 ∷ v / 256 % 256 ∷ x % 256 ∷ y % 256 ∷ []) f g ∙ ap (low 4) e
