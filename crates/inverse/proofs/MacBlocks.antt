-- A CMAC is a block, and the places kept of it are 8 bytes.
use mathlib.Core.Path.{◌≡◌, refl}
use mathlib.Core.List.{List}
use Prim.Native.Nat.{ℕ, zero, suc, ◌+◌, ◌-◌, ◌*◌}
use lib.ListN.{length, take, drop, replicate}
use Rattle.base.specs.Bytes.{byte_at, AllBytes}
use Rattle.base.proofs.Bytes.{tab-bytes}
use Rattle.aes.specs.Block.{IsBlock, cipher, xor_block}
use Rattle.cmac.specs.Cmac.{blocks_of, last_block, chained, cmac, even_places}
use Rattle.inverse.specs.RoundKeys.{IsKeys}
use Rattle.inverse.proofs.Inverse.{cipher_block}

chained_block : (w : List (List ℕ)) → IsKeys w → (n : ℕ) (v s : List ℕ) → IsBlock (chained w n v s)
unfolding chained
chained_block w k zero v s = cipher_block w k (xor_block (last_block w s) v)
chained_block w k (suc n) v s = chained_block w k n (cipher w (xor_block (take 16 s) v)) (drop 16 s)

pub cmac_block : (w : List (List ℕ)) → IsKeys w → (s : List ℕ) → IsBlock (cmac w s)
unfolding cmac
cmac_block w k s = chained_block w k (blocks_of (length s) - 1) (replicate 16 0) s

pub mac-length : (t : List ℕ) → length (even_places t) ≡ 8
unfolding even_places
mac-length t = refl

pub mac-bytes : (t : List ℕ) → AllBytes t → AllBytes (even_places t)
unfolding even_places AllBytes
mac-bytes t h = tab-bytes 8 (λ i. byte_at t (i * 2 + 1)) (λ i. h (i * 2 + 1))
