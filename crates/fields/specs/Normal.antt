-- The normal form (01: "mode bits 10 become 00; SDM rights bits 7 to 4 become F").
use Rattle.std.specs.Prelude.{Bool, List, ℕ, ◌+◌, ◌-◌, ◌%◌, eqb, set}
use Rattle.base.specs.Decide.{pick}
use Rattle.base.specs.Bytes.{byte_at}
use Rattle.fields.specs.Fields.{sdm_on}

-- FileOption, bits 1 and 0
unfoldable pub plain_mode : ℕ → ℕ
plain_mode b = pick (eqb (b % 4) 2) (b - 2) b

-- the low byte of the SDM rights, bits 7 to 4, with SDM on
unfoldable pub free_bits : Bool → ℕ → ℕ
free_bits sdm b = pick sdm (240 + b % 16) b

-- two adjusted bytes
unfoldable pub normal : List ℕ → List ℕ
normal s = set (set s 0 (plain_mode (byte_at s 0))) 4 (free_bits (sdm_on s) (byte_at s 4))
