-- 9.1.5, 9.1.6, 10.4.1 and 10.4.2: the two parts of an authentication. All with CBC, zero vector, no padding.
use Rattle.std.specs.Prelude.{List, ◌++◌, ℕ, eqb, length, take, drop, replicate, Result, Ok, Err}
use Rattle.base.specs.Decide.{pick}
use Rattle.base.specs.Bytes.{same}
use Rattle.base.specs.Status.{operation_ok, length_error, authentication_error}
use Rattle.cbc.specs.Cbc.{cbc_out, cbc_back, cbc_cost}
use Rattle.key_expansion.specs.Keys.{key_expansion}
use Rattle.authentication.specs.declared.Wrong.{Wrong}
use Rattle.authentication.specs.declared.Wrong.TheVariants.{NotThirtyTwo, WrongRndB}
use Rattle.authentication.specs.declared.PartTwo.{PartTwo}

abbrev pub zeros : ℕ → List ℕ
zeros n = replicate n 0

-- E(Kx; text) and its opposite
unfoldable pub enciphered : List ℕ → List ℕ → List ℕ
enciphered kx x = cbc_out (key_expansion kx) (zeros 16) x

unfoldable pub deciphered : List ℕ → List ℕ → List ℕ
deciphered kx x = cbc_back (key_expansion kx) (zeros 16) x

-- turned to the left by one byte: RndA' and RndB'
unfoldable pub turned : List ℕ → List ℕ
turned x = drop 1 x ++ take 1 x

-- what the other side sends in part two
unfoldable pub challenge : List ℕ → List ℕ → List ℕ → List ℕ
challenge kx a b = enciphered kx (a ++ turned b)

-- the check of part two: 32 bytes, then RndB'; what is right gives RndA
unfoldable pub proof_of : List ℕ → List ℕ → List ℕ → Result (List ℕ) Wrong
proof_of kx b x =
    let d = deciphered kx x in
    pick (eqb (length x) 32) (pick (same (drop 16 d) (turned b)) (Ok (take 16 d)) (Err WrongRndB)) (Err NotThirtyTwo)

-- 02, request 10: what the check costs: both blocks, where there are two
unfoldable pub proof_cost : List ℕ → ℕ
proof_cost x = pick (eqb (length x) 32) (cbc_cost 32) 0

unfoldable pub part_two : List ℕ → List ℕ → List ℕ → PartTwo
part_two kx b x = record { a = proof_of kx b x; cost = proof_cost x }

-- 01's status for each answer
unfoldable pub proof_status : Result (List ℕ) Wrong → ℕ
proof_status (Ok a) = operation_ok
proof_status (Err NotThirtyTwo) = length_error
proof_status (Err WrongRndB) = authentication_error

-- the reply of part two: TI, RndA', PDcap2 (six zeros) and PCDcap2 for 71, RndA' for 77
unfoldable pub first_reply : List ℕ → List ℕ → List ℕ → List ℕ → List ℕ
first_reply kx ti a cap = enciphered kx (ti ++ turned a ++ zeros 6 ++ cap)

unfoldable pub next_reply : List ℕ → List ℕ → List ℕ
next_reply kx a = enciphered kx (turned a)

-- ---- 02, request 10: what they cost. Part one is RndB, one block; the replies of part two are two blocks for 71 and one for 77
abbrev pub part_one_cost : ℕ
part_one_cost = cbc_cost 16

abbrev pub first_reply_cost : ℕ
first_reply_cost = cbc_cost 32

abbrev pub next_reply_cost : ℕ
next_reply_cost = cbc_cost 16
