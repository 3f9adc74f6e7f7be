-- What a message costs at most, by its length.
use mathlib.Core.Bool.{Bool, true, false}
use Prim.Native.Nat.{ℕ, ◌+◌, ◌/◌, ◌≤◌}
use native.Mathlib.Omega.{arith}
use Rattle.cbc.specs.Cbc.{cbc_cost}
use Rattle.cmac.specs.Cmac.{cmac_cost}
use Rattle.cmac.proofs.Macs.{blocks_few}
use Rattle.messaging.specs.Protect.{message_mac_cost, part_cost, signed_cost}
use Rattle.messaging.specs.declared.Mode.{Mode}
use Rattle.messaging.specs.declared.Mode.TheVariants.{Plain, Mac, Full}

pub mac_few : (n : ℕ) → message_mac_cost n ≤ (7 + n) / 16 + 2
unfolding message_mac_cost cmac_cost
mac_few n = omega (arith, blocks_few (7 + n))

pub part_few : (m : Mode) (there : Bool) (n : ℕ) → part_cost m there n ≤ n / 16 + 1
unfolding part_cost cbc_cost
part_few Plain there n = omega arith
part_few Mac there n = omega arith
part_few Full true n = omega arith
part_few Full false n = omega arith

pub signed_few : (m : Mode) (n : ℕ) → signed_cost m n ≤ (7 + n) / 16 + 2
unfolding signed_cost
signed_few Plain n = omega arith
signed_few Mac n = mac_few n
signed_few Full n = mac_few n
