-- Three pieces at the front of the buffer.
use Rattle.std.proofs.Common.{◌≡◌, refl, ap, ap₂, ◌∙◌, ◌+◌, ◌≤◌, ◌∷◌, length, take, replicate, rules, List, ℕ}
use Rattle.std.proofs.lemmas.List.{length-append, length-take}
use Rattle.base.specs.Bytes.{low}
use Rattle.aes.specs.Block.{counted}
use Rattle.cmac.specs.Cmac.{mac, cmac, even_places, cmac_cost}
use Rattle.key_expansion.specs.Keys.{key_expansion}
use Rattle.messaging.specs.Protect.{message_mac, message_mac_cost}
use Rattle.messaging.proofs.Laid.{three_laid, at_most}
use native.Mathlib.Omega.{arith}
use Rattle.messaging.proofs.protect.message_mac.Goals as goal

pub returns : goal.returns
unfolding message_mac message_mac_cost mac low
returns c =
    let a = c.args in
    let l : length a.s.ti ≡ 4 = search rules in
    let p : List ℕ = a.first ∷ low 2 a.s.counter in
    let d = take 293 a.body.now in
    let b = at_most 293 a.body.now _ c.min.ensures in
    let r : 7 + length d ≤ 300 = simp length-take (omega arith) in
    let e = three_laid p a.s.ti d (replicate 300 0) refl l r in
    let k : length (take (7 + length d) _) ≡ 7 + length d = ap length e ∙ simp length-append (omega arith) in
    c.mac_of.ensures ∙ rw (c.expand.ensures, c.copy_from_slice-3.ensures.after, c.copy_from_slice-2.ensures.after, c.copy_from_slice.ensures.after, c.to_le_bytes.ensures, b)
    (ap₂ (λ t n. counted (even_places (cmac (key_expansion a.s.mac) t)) (cmac_cost n)) e k)
