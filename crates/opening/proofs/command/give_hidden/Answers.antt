-- The copy is decrypted, then unpadded.
use Rattle.std.proofs.Common.{◌≡◌, refl, ap, ap₂, ◌∙◌, ◌+◌, ◌%◌, ◌≤◌, length, rules}
use native.Mathlib.Omega.{arith}
use Rattle.cbc.specs.Cbc.{cbc_back, cbc_cost}
use Rattle.cbc.proofs.Turns.{chains_whole, chains_ok}
use Rattle.padding.proofs.Unpadding.{whole_of}
use Rattle.messaging.specs.Protect.{part_cost}
use Rattle.opening.proofs.Opening.{hidden_content, command_under, into_as}
use Rattle.opening.proofs.command.give_hidden.Goals as goal

pub unwrap-blocks-requires : goal.unwrap-blocks-requires
unwrap-blocks-requires c =
    let e : c.copy_from_slice.new.self ≡ c.args.part.now = c.copy_from_slice.ensures.after in
    let w : length c.copy_from_slice.new.self % 16 ≡ 0 = rw e (whole_of (length c.args.part.now) c.requires.2) in
    rw (chains_ok c.cbc_decrypt.ensures w) (search rules)

pub overflow_add-v : goal.overflow_add-v
unfolding cbc_cost
overflow_add-v c =
    let e : c.copy_from_slice.new.self ≡ c.args.part.now = c.copy_from_slice.ensures.after in
    let w : length c.copy_from_slice.new.self % 16 ≡ 0 = rw e (whole_of (length c.args.part.now) c.requires.2) in
    let f : length c.copy_from_slice.new.self ≤ 255 = rw e c.requires.0 in
    let o = chains_ok c.cbc_decrypt.ensures w in
    let b : c.unwrap-blocks.result ≡ cbc_cost (length c.copy_from_slice.new.self) = cc in
    omega (arith, ap (λ x. x.cost) c.command_vector-v.ensures)

pub returns : goal.returns
unfolding part_cost
returns c =
    let a = c.args in
    let p = a.part.now in
    let d = c.cbc_decrypt in
    let v = c.command_vector-v in
    let x = c.expand-w in
    let e : c.copy_from_slice.new.self ≡ p = c.copy_from_slice.ensures.after in
    let w : length c.copy_from_slice.new.self % 16 ≡ 0 = rw e (whole_of (length p) c.requires.2) in
    let o = chains_ok d.ensures w in
    let b : c.unwrap-blocks.result ≡ cbc_cost (length c.copy_from_slice.new.self) = cc in
    into_as c.give_text.ensures
    (hidden_content a.s p d.new.buf
    (chains_whole d.ensures w ∙ rw e (ap₂ (λ w i. cbc_back w i p) x.ensures (ap (λ y. y.bytes) v.ensures ∙ command_under a.s _ x.ensures))))
    (ap₂ (λ i j. i + j) (ap (λ y. y.cost) v.ensures) (b ∙ rw e refl))
