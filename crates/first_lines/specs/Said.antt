-- What a line of a plan says: the characters that count, and whether they are so many bytes.
use Rattle.std.specs.Prelude.{Bool, Option, None, Some, List, [], ◌∷◌, ℕ, ◌-◌, ◌/◌, eqb, leb, length, take}
use Rattle.base.specs.Decide.{pick, and, or}
use Rattle.base.specs.Bytes.{over}
use Rattle.lines.specs.Lines.{seek}
use Rattle.lines.specs.Hex.{is_hex, bytes_of}

-- a space, a tab, a carriage return
unfoldable pub is_blank : ℕ → Bool
is_blank c = or (eqb c 32) (or (eqb c 9) (eqb c 13))

-- a to f as A to F
unfoldable pub capital_of : ℕ → ℕ
capital_of c = pick (and (leb 97 c) (leb c 102)) (c - 32) c

-- the characters that count, as capitals
unfoldable pub tidied : List ℕ → List ℕ
tidied [] = []
tidied (x ∷ xs) = pick (is_blank x) (tidied xs) (capital_of x ∷ tidied xs)

-- what stands before '#', tidied
unfoldable pub said : List ℕ → List ℕ
said line = tidied (take (seek line 0 35) line)

-- a text that is n bytes: the random bytes, or the UID
unfoldable pub good_bytes : ℕ → List ℕ → Bool
good_bytes n s = and (eqb (length s / 2) n) (is_hex s)

unfoldable pub bytes_room : List ℕ → List ℕ → List ℕ
bytes_room s room = pick (good_bytes (length room) s) (over (bytes_of s) room) room

-- the UID that a line says, 7 bytes
unfoldable pub uid_in : List ℕ → Option (List ℕ)
uid_in line = pick (good_bytes 7 (said line)) (Some (bytes_of (said line))) None
