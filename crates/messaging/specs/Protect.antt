-- 9.1.4, 9.1.9 and 9.1.10: the MAC of a message, the initial vectors, and what a message holds.
use Rattle.std.specs.Prelude.{Bool, true, Option, Some, None, List, [], ◌∷◌, ◌++◌, ℕ, ◌+◌, take, replicate}
use Rattle.base.specs.Decide.{pick}
use Rattle.base.specs.Bytes.{low, same}
use Rattle.aes.specs.Block.{cipher, block_cost}
use Rattle.cbc.specs.Cbc.{cbc_out, cbc_back, cbc_cost}
use Rattle.cmac.specs.Cmac.{mac, cmac_cost}
use Rattle.key_expansion.specs.Keys.{key_expansion}
use Rattle.padding.specs.Padding.{padded, unpad}
use Rattle.messaging.specs.declared.Session.{Session}
use Rattle.messaging.specs.declared.Mode.{Mode}
use Rattle.messaging.specs.declared.Mode.TheVariants.{Plain, Mac, Full}

-- 9.1.9: the MAC of a command covers Cmd, CmdCtr, TI, header and data, that of a reply the return code, CmdCtr, TI and data;
-- CmdCtr low byte first
unfoldable pub message_mac : Session → ℕ → List ℕ → List ℕ
message_mac s first body = mac s.mac (first ∷ low 2 s.counter ++ s.ti ++ body)

-- 02, request 10: what it costs, where header and data have n bytes: a CMAC of seven more
unfoldable pub message_mac_cost : ℕ → ℕ
message_mac_cost n = cmac_cost (7 + n)

-- 9.1.4: the vectors of a command's data and of a reply's, under round keys, and under the session's own
unfoldable pub command_vector : List (List ℕ) → Session → List ℕ
command_vector w s = cipher w (0xA5 ∷ 0x5A ∷ s.ti ++ low 2 s.counter ++ replicate 8 0)

unfoldable pub reply_vector : List (List ℕ) → Session → List ℕ
reply_vector w s = cipher w (0x5A ∷ 0xA5 ∷ s.ti ++ low 2 s.counter ++ replicate 8 0)

unfoldable pub command_iv : Session → List ℕ
command_iv s = command_vector (key_expansion s.enc) s

unfoldable pub reply_iv : Session → List ℕ
reply_iv s = reply_vector (key_expansion s.enc) s

-- 02, request 10: what a vector costs
abbrev pub vector_cost : ℕ
vector_cost = block_cost

-- Table 69: the number of each mode in FileOption (crates/access/specs/Access.antt: file_mode)
unfoldable pub mode_number : Mode → ℕ
mode_number Plain = 0
mode_number Mac = 1
mode_number Full = 3

-- how many bytes of MAC end a message
abbrev pub mac_length : Mode → ℕ
mac_length Plain = 0
mac_length Mac = 8
mac_length Full = 8

-- 9.1.10: a data part as it is sent, under a vector; one that isn't there stays empty
unfoldable pub sent : Mode → Session → List ℕ → Bool → List ℕ → List ℕ
sent Plain s v there d = d
sent Mac s v there d = d
sent Full s v there d = pick there (cbc_out (key_expansion s.enc) v (padded d)) []

-- the MAC behind it, over a first byte, a header and the part as sent
unfoldable pub signed : Mode → Session → ℕ → List ℕ → List ℕ
signed Plain s first body = body
signed Mac s first body = body ++ message_mac s first body
signed Full s first body = body ++ message_mac s first body

-- what opening a message gives: the plain data, or why not
pub data Opening : Type 0 where
  plain : List ℕ → Opening
  wrong_length : Opening
  wrong_mac : Opening
  wrong_padding : Opening

abbrev pub text_of : List ℕ → Option ℕ → Opening
text_of s (Some n) = plain (take n s)
text_of s None = wrong_padding

-- the data that a part holds
unfoldable pub content : Mode → Session → List ℕ → Bool → List ℕ → Opening
content Plain s v there p = plain p
content Mac s v there p = plain p
content Full s v there p = pick there (text_of (cbc_back (key_expansion s.enc) v p) (unpad (cbc_back (key_expansion s.enc) v p))) (plain p)

-- first the MAC, which isn't there in Plain
unfoldable pub mac_right : Mode → Session → ℕ → List ℕ → List ℕ → Bool
mac_right Plain s first body tag = true
mac_right Mac s first body tag = same tag (message_mac s first body)
mac_right Full s first body tag = same tag (message_mac s first body)

-- ---- 02, request 10: what a message costs, where its part as sent has n bytes, and what its header and part of n bytes cost to sign. A part that
-- isn't there has no vector
unfoldable pub part_cost : Mode → Bool → ℕ → ℕ
part_cost Plain there n = 0
part_cost Mac there n = 0
part_cost Full there n = pick there (vector_cost + cbc_cost n) 0

unfoldable pub signed_cost : Mode → ℕ → ℕ
signed_cost Plain n = 0
signed_cost Mac n = message_mac_cost n
signed_cost Full n = message_mac_cost n
