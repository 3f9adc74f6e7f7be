-- What the mirrors cost is little: each ends inside the file.
use Prim.Native.Nat.{ℕ, ◌-◌, ◌/◌, ◌≤◌}
use native.Mathlib.Nat.{le_trans}
use native.Mathlib.Omega.{arith}
use Rattle.cbc.specs.Cbc.{cbc_cost}
use Rattle.cmac.specs.Cmac.{cmac_cost, blocks_of}
use Rattle.cmac.proofs.Macs.{blocks_few}
use Rattle.sdm.specs.Tap.{picc_cost, tap_key_cost, hidden_cost}
use Rattle.sdm.proofs.Mirroring.{pick_le}
use Rattle.spans.specs.declared.Reading.{Reading}
use Rattle.spans.specs.Spans.{SpansFit}
use Rattle.mirror.specs.Mirrors.{picc_mirror_cost, enc_mirror_cost, mac_mirror_cost, dynamic_cost}

-- a key of a tap: the subkeys' block, and one
pub key_few : tap_key_cost ≤ 2
unfolding cmac_cost blocks_of
key_few = omega arith

-- ENC of so many bytes, and the MAC
pub hidden_few : (n : ℕ) → n ≤ 128 → hidden_cost n ≤ 9
unfolding hidden_cost cbc_cost
hidden_few n h = omega arith

pub tap-mac_few : (n : ℕ) → n ≤ 256 → cmac_cost n ≤ 18
unfolding cmac_cost
tap-mac_few n h = omega (arith, blocks_few n)

module _ (r : Reading) where
  pub picc_mirror_few : picc_mirror_cost r ≤ 1
  unfolding picc_mirror_cost
  picc_mirror_few = pick_le r.picc.present picc_cost

  pub enc_mirror_few : SpansFit r → enc_mirror_cost r ≤ 11
  unfolding enc_mirror_cost
  enc_mirror_few w =
      let n = r.enc.size / 2 in
      le_trans (pick_le r.enc.present _) (omega (arith, key_few, hidden_few n (omega (arith, w.enc))))

  pub mac_mirror_few : SpansFit r → mac_mirror_cost r ≤ 20
  unfolding mac_mirror_cost
  mac_mirror_few w =
      let n = r.mac.start - r.settings.places.input in
      le_trans (pick_le r.mac.present _) (omega (arith, key_few, tap-mac_few n (omega (arith, w.mac))))

  pub dynamic_few : SpansFit r → dynamic_cost r ≤ 32
  unfolding dynamic_cost
  dynamic_few w = omega (arith, picc_mirror_few, enc_mirror_few w, mac_mirror_few w)
