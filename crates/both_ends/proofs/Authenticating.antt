-- Both ends of an authentication with the same key: each learns the other's random number, and their session keys agree.
use mathlib.Core.Path.{◌≡◌, refl, ap, ap₂, ◌∙◌}
use mathlib.Core.List.{List, ◌++◌}
use Prim.Native.Nat.{ℕ, zero, suc, ◌+◌, ◌%◌}
use native.Mathlib.Omega.{arith}
use lib.Dec.{lit<}
use lib.ListN.{length, take, drop, length-append, length-take, length-drop}
use lib.Seq.{take_at, drop_at}
use borrow.Author.Tests.{eq-eqb}
use Rattle.base.specs.Bytes.{AllBytes}
use Rattle.base.proofs.Bytes.{append-bytes, drop-bytes, take-bytes, same_refl}
use Rattle.aes.specs.Block.{IsBlock}
use Rattle.key_expansion.specs.Keys.{key_expansion}
use Rattle.inverse.proofs.KeyBlocks.{keys_are}
use Rattle.inverse.proofs.Chaining.{cbc_out-length, cbc_back_of_out}
use Rattle.session_keys.specs.Keys.{session_keys}
use Rattle.cbc.specs.Cbc.{cbc_cost}
use Rattle.authentication.specs.Authentication.{zeros, enciphered, deciphered, turned, challenge, proof_of, proof_cost, part_two, first_reply, next_reply}
use Rattle.std.proofs.Common.{Ok}

zeros-bytes : (n : ℕ) → AllBytes (zeros n)
unfolding AllBytes
zeros-bytes zero i = lit< tt
zeros-bytes (suc n) zero = lit< tt
zeros-bytes (suc n) (suc i) = zeros-bytes n i

zeros_block : IsBlock (zeros 16)
zeros_block = record { len = refl; bytes = zeros-bytes 16 }

turned_block : (x : List ℕ) → IsBlock x → IsBlock (turned x)
unfolding turned
turned_block x h =
    let l : length x ≡ 16 = h.len in
    record {
      len = simp (length-append, length-take, length-drop) (omega arith);
      bytes = append-bytes (drop 1 x) (take 1 x) (drop-bytes 1 x h.bytes) (take-bytes 1 x h.bytes);
    }

-- what is encrypted under a key is decrypted under it
pub deciphered-back : (kx x : List ℕ) → IsBlock kx → AllBytes x → length x % 16 ≡ 0 → deciphered kx (enciphered kx x) ≡ x
unfolding enciphered deciphered
deciphered-back kx x k b w = cbc_back_of_out (key_expansion kx) (keys_are kx k) (zeros 16) x zeros_block b w

enciphered-length : (kx x : List ℕ) → IsBlock kx → AllBytes x → length x % 16 ≡ 0 → length (enciphered kx x) ≡ length x
unfolding enciphered
enciphered-length kx x k b w = cbc_out-length (key_expansion kx) (keys_are kx k) (zeros 16) x zeros_block b w

-- what a reply of part two says to the other end
pub block_back : (kx x : List ℕ) → IsBlock kx → IsBlock x → deciphered kx (enciphered kx x) ≡ x
block_back kx x k h = deciphered-back kx x k h.bytes (rw h.len refl)

module _ (kx a b : List ℕ) (k : IsBlock kx) (ha : IsBlock a) (hb : IsBlock b) where
  both_bytes : AllBytes (a ++ turned b)
  both_bytes = append-bytes a (turned b) ha.bytes (turned_block b hb).bytes

  both_length : length (a ++ turned b) ≡ 32
  both_length = length-append a (turned b) ∙ ap₂ (λ m n. m + n) ha.len (turned_block b hb).len

  both_back : deciphered kx (challenge kx a b) ≡ a ++ turned b
  unfolding challenge
  both_back = deciphered-back kx (a ++ turned b) k both_bytes (rw both_length refl)

  pub challenge-length : length (challenge kx a b) ≡ 32
  unfolding challenge
  challenge-length = enciphered-length kx (a ++ turned b) k both_bytes (rw both_length refl) ∙ both_length

  -- the tag accepts part two, and learns RndA
  pub part_two_right : part_two kx b (challenge kx a b) ≡ record { a = Ok a; cost = cbc_cost 32 }
  unfolding part_two proof_of proof_cost
  part_two_right =
      rw (eq-eqb (length (challenge kx a b)) 32 challenge-length, both_back, drop_at a (turned b) 16 ha.len, same_refl (turned b), take_at a (turned b) 16 ha.len) refl

  -- the two ends compute the same session keys: the tag from its RndB and the RndA it was sent, the other end from its RndA and
  -- the RndB it was sent
  pub same_keys : (x : List ℕ) × ((part_two kx b (challenge kx a (deciphered kx (enciphered kx b)))).a ≡ Ok x)
      × (session_keys kx x b ≡ session_keys kx a (deciphered kx (enciphered kx b)))
  same_keys =
      let l : deciphered kx (enciphered kx b) ≡ b = block_back kx b k hb in
      (a, rw l (ap (λ y. y.a) part_two_right), rw l refl)

  -- and the other end finds RndA' in the reply of 77
  pub next_reply-back : deciphered kx (next_reply kx a) ≡ turned a
  unfolding next_reply
  next_reply-back = block_back kx (turned a) k (turned_block a ha)

  -- and TI, RndA', PDcap2 and PCDcap2 in that of 71
  pub first_reply-back : (ti cap : List ℕ) → AllBytes ti → AllBytes cap → length ti ≡ 4 → length cap ≡ 6
      → deciphered kx (first_reply kx ti a cap) ≡ ti ++ turned a ++ zeros 6 ++ cap
  unfolding first_reply
  first_reply-back ti cap ht hc lt lc =
      let h = turned_block a ha in
      let l : length (ti ++ turned a ++ zeros 6 ++ cap) ≡ 32 = simp length-append (omega (arith, h.len)) in
      deciphered-back kx (ti ++ turned a ++ zeros 6 ++ cap) k
      (append-bytes (ti ++ turned a ++ zeros 6) cap (append-bytes (ti ++ turned a) (zeros 6) (append-bytes ti (turned a) ht h.bytes) (zeros-bytes 6)) hc)
      (rw l refl)
