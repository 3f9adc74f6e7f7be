-- What the other side wraps opens, and what the tag closes opens on the other side.
use mathlib.Core.Bool.{Bool, true, false}
use mathlib.Core.Path.{◌≡◌, refl, sym, ap, ◌∙◌}
use mathlib.Core.List.{List, [], ◌∷◌, ◌++◌}
use mathlib.Core.Logic.{⊎_elim}
use Prim.Native.Nat.{ℕ, zero, suc, ◌+◌, ◌-◌, ◌*◌, ◌/◌, ◌%◌, ◌≤◌, ◌<◌}
use native.Mathlib.Omega.{arith}
use lib.Dec.{lit<}
use lib.ListN.{length, take, drop, replicate, length-append}
use lib.Seq.{take-length, take-append_seam, drop-append_seam}
use borrow.Author.Tests.{eq-eqb, le-leb, lt-leb, le-ltb}
use Rattle.base.specs.Bytes.{AllBytes, over, same}
use Rattle.base.proofs.Bytes.{append-bytes, same_refl, le_or_lt}
use Rattle.aes.specs.Block.{IsBlock}
use Rattle.cbc.specs.Cbc.{cbc_out, cbc_back}
use Rattle.key_expansion.specs.Keys.{key_expansion}
use Rattle.inverse.proofs.Inverse.{cipher_block}
use Rattle.inverse.proofs.KeyBlocks.{keys_are}
use Rattle.inverse.proofs.Chaining.{cbc_out-length, cbc_back_of_out}
use Rattle.inverse.proofs.MacBlocks.{mac-length}
use Rattle.padding.specs.Padding.{padded, padded_length, blocks, unpad}
use Rattle.messaging.specs.Protect.{message_mac, command_vector, reply_vector, command_iv, reply_iv, mac_length, sent, signed, plain, text_of, content, mac_right}
use Rattle.cmac.specs.Cmac.{mac}
use Rattle.opening.specs.Command.{sent_command, part_right, length_right, checked, opening, answers, leaves, Opens}
use Rattle.closing.specs.Reply.{filled, closed, closed_length, reply_right, reply_opening}
use Rattle.messaging.specs.declared.Session.{Session}
use Rattle.messaging.specs.declared.Mode.{Mode}
use Rattle.messaging.specs.declared.Mode.TheVariants.{Plain, Mac, Full}
use Rattle.std.proofs.Common.{Ok}
use Rattle.opening.specs.declared.Opened.{Opened}
use Rattle.closing.proofs.Closing.{hidden_some, hidden_none}
use Rattle.opening.proofs.Opening.{opening-right}
use Rattle.padding.proofs.Unpadding.{padded-length}
use Rattle.padding.proofs.Padding.{unpad-padded}

-- ---- padding
padding-bytes : (n : ℕ) → AllBytes (128 ∷ replicate n 0)
unfolding AllBytes
padding-bytes n zero = lit< tt
padding-bytes zero (suc i) = lit< tt
padding-bytes (suc n) (suc zero) = lit< tt
padding-bytes (suc n) (suc (suc i)) = padding-bytes n (suc i)

padded-bytes : (d : List ℕ) → AllBytes d → AllBytes (padded d)
unfolding padded
padded-bytes d h = append-bytes d (128 ∷ replicate (15 - length d % 16) 0) h (padding-bytes (15 - length d % 16))

padded_is : (d : List ℕ) → length (padded d) ≡ length d / 16 * 16 + 16
unfolding padded_length
padded_is d = padded-length d

padded-whole : (d : List ℕ) → length (padded d) % 16 ≡ 0
padded-whole d = rw (padded_is d) (omega arith)

padded-front : (d : List ℕ) → take (length d) (padded d) ≡ d
unfolding padded
padded-front d = take-append_seam d (128 ∷ replicate (15 - length d % 16) 0)

text_back : (d : List ℕ) → text_of (padded d) (unpad (padded d)) ≡ plain d
text_back d = ap (text_of (padded d)) (unpad-padded d) ∙ ap plain (padded-front d)

empty : (d : List ℕ) → length d < 1 → d ≡ []
empty [] h = refl
empty (x ∷ xs) h = absurd (omega arith)

-- ---- one data part, under any vector that is a block
module _ (s : Session) (k : IsBlock s.enc) (v : List ℕ) (b : IsBlock v) (d : List ℕ) (h : AllBytes d) where
  hidden_length_lem : length (cbc_out (key_expansion s.enc) v (padded d)) ≡ length d / 16 * 16 + 16
  hidden_length_lem = cbc_out-length (key_expansion s.enc) (keys_are s.enc k) v (padded d) b (padded-bytes d h) (padded-whole d) ∙ padded_is d

  hidden_back : cbc_back (key_expansion s.enc) v (cbc_out (key_expansion s.enc) v (padded d)) ≡ padded d
  hidden_back = cbc_back_of_out (key_expansion s.enc) (keys_are s.enc k) v (padded d) b (padded-bytes d h) (padded-whole d)

  -- what was sent comes back
  content-sent : (m : Mode) (t : Bool) → (t ≡ false → d ≡ []) → content m s v t (sent m s v t d) ≡ plain d
  unfolding content sent
  content-sent Plain t e = refl
  content-sent Mac t e = refl
  content-sent Full true e = rw hidden_back (text_back d)
  content-sent Full false e = ap plain (sym (e refl))

  -- and has the length for its mode
  part-sent : (m : Mode) (t : Bool) → (t ≡ false → d ≡ []) → part_right m t (length (sent m s v t d)) ≡ true
  unfolding part_right sent blocks
  part-sent Plain true e = refl
  part-sent Plain false e = rw (e refl) refl
  part-sent Mac true e = refl
  part-sent Mac false e = rw (e refl) refl
  part-sent Full true e =
      let n = length d / 16 * 16 + 16 in
      rw (hidden_length_lem, eq-eqb (n % 16) 0 (omega arith), le-leb 16 n (omega arith)) refl
  part-sent Full false e = refl

  -- a reply's part is encrypted where it isn't empty, and then isn't empty
  filled-sent : (m : Mode) → content m s v (filled (length (sent m s v (filled (length d)) d))) (sent m s v (filled (length d)) d) ≡ plain d
  unfolding content sent
  filled-sent Plain = refl
  filled-sent Mac = refl
  filled-sent Full =
      ⊎_elim
      (λ g. rw (le-leb 1 (length d) g, hidden_length_lem, le-leb 1 (length d / 16 * 16 + 16) (omega arith), hidden_back) (text_back d))
      (λ g. rw (empty d g) refl) (le_or_lt 1 (length d))

  reply-sent : (m : Mode) → reply_right m (length (sent m s v (filled (length d)) d) + mac_length m) ≡ true
  unfolding reply_right sent
  reply-sent Plain = refl
  reply-sent Mac = le-leb 8 (length d + 8) (omega arith)
  reply-sent Full =
      ⊎_elim
      (λ g. let n = length d / 16 * 16 + 16 in rw (le-leb 1 (length d) g, hidden_length_lem, le-leb 8 (n + 8) (omega arith), eq-eqb ((n + 8 - 8) % 16) 0 (omega arith)) refl)
      (λ g. rw (lt-leb 1 (length d) g) refl) (le_or_lt 1 (length d))

  -- with its MAC it is as long as the mode says
  sent-length : (m : Mode) → length (sent m s v (filled (length d)) d) + mac_length m ≡ closed_length m (length d)
  unfolding sent closed_length
  sent-length Plain = omega arith
  sent-length Mac = refl
  sent-length Full =
      ⊎_elim (λ g. rw (le-leb 1 (length d) g, hidden_length_lem, hidden_some (length d) g) refl)
      (λ g. rw (lt-leb 1 (length d) g, hidden_none (length d) (omega arith)) refl) (le_or_lt 1 (length d))

-- ---- the MAC behind a body
tag-length : (s : Session) (first : ℕ) (body : List ℕ) → length (message_mac s first body) ≡ 8
unfolding message_mac mac
tag-length s first body = mac-length _

module _ (s : Session) (first : ℕ) (body : List ℕ) where
  signed-length : (m : Mode) → length (signed m s first body) ≡ length body + mac_length m
  unfolding signed
  signed-length Plain = omega arith
  signed-length Mac = length-append body (message_mac s first body) ∙ ap (λ n. length body + n) (tag-length s first body)
  signed-length Full = length-append body (message_mac s first body) ∙ ap (λ n. length body + n) (tag-length s first body)

  body_length : (m : Mode) → length body ≡ length (signed m s first body) - mac_length m
  body_length m = omega (arith, signed-length m)

  front_of : (m : Mode) → take (length body) (signed m s first body) ≡ body
  unfolding signed
  front_of Plain = take-length body
  front_of Mac = take-append_seam body (message_mac s first body)
  front_of Full = take-append_seam body (message_mac s first body)

  signed-front : (m : Mode) → take (length (signed m s first body) - mac_length m) (signed m s first body) ≡ body
  signed-front m = ap (λ n. take n (signed m s first body)) (sym (body_length m)) ∙ front_of m

  tag-right : same (drop (length body) (body ++ message_mac s first body)) (message_mac s first body) ≡ true
  tag-right = ap (λ t. same t (message_mac s first body)) (drop-append_seam body (message_mac s first body)) ∙ same_refl (message_mac s first body)

  right_of : (m : Mode) → mac_right m s first body (drop (length body) (signed m s first body)) ≡ true
  unfolding signed mac_right
  right_of Plain = refl
  right_of Mac = tag-right
  right_of Full = tag-right

  signed-right : (m : Mode) → mac_right m s first (take (length (signed m s first body) - mac_length m) (signed m s first body))
      (drop (length (signed m s first body) - mac_length m) (signed m s first body)) ≡ true
  signed-right m = rw (signed-front m, sym (body_length m)) (right_of m)

-- ---- the theorems
command_iv_block : (s : Session) → IsBlock s.enc → IsBlock (command_iv s)
unfolding command_iv command_vector
command_iv_block s k = cipher_block (key_expansion s.enc) (keys_are s.enc k) _

reply_iv_block : (s : Session) → IsBlock s.enc → IsBlock (reply_iv s)
unfolding reply_iv reply_vector
reply_iv_block s k = cipher_block (key_expansion s.enc) (keys_are s.enc k) _

-- a command that the other side wraps, in any mode, passes length, MAC and padding and gives its data back
pub sent-command_opens : (s : Session) (m : Mode) (cmd : ℕ) (header : List ℕ) (t : Bool) (d : List ℕ) → IsBlock s.enc → AllBytes d
    → (t ≡ false → d ≡ []) → opening s m cmd (sent_command s m cmd header t d) (length header) t ≡ plain d
unfolding sent_command length_right checked
sent-command_opens s m cmd header t d k h e =
    let p = sent m s (command_iv s) t d in
    let x = signed m s cmd (header ++ p) in
    let b = command_iv_block s k in
    let l : length x - mac_length m ≡ length header + length p = sym (body_length s cmd (header ++ p) m) ∙ length-append header p in
    let q : length x - mac_length m - length header ≡ length p = omega arith in
    let g : length header + mac_length m ≤ length x = omega (arith, signed-length s cmd (header ++ p) m, length-append header p) in
    opening-right s m cmd x (length header) t (rw (le-leb (length header + mac_length m) (length x) g, q) (part-sent s k (command_iv s) b d h m t e))
    ∙ rw (signed-right s cmd (header ++ p) m, signed-front s cmd (header ++ p) m, drop-append_seam header p) (content-sent s k (command_iv s) b d h m t e)

-- so the tag's own function answers with the data, and lays it into the room
pub sent-command_data : (s : Session) (m : Mode) (cmd : ℕ) (header : List ℕ) (t : Bool) (d old new : List ℕ) (n : ℕ) (r : Opened) → IsBlock s.enc → AllBytes d
    → (t ≡ false → d ≡ []) → length (sent_command s m cmd header t d) ≤ 255 → length (sent_command s m cmd header t d) ≤ length old
    → Opens (sent_command s m cmd header t d) (opening s m cmd (sent_command s m cmd header t d) (length header) t) n old r new
    → (r.«data» ≡ Ok (length d)) × (new ≡ over d old)
unfolding answers leaves
sent-command_data s m cmd header t d old new n r k h e f g o =
    let x = sent_command s m cmd header t d in
    let q = sent-command_opens s m cmd header t d k h e in (
      o.answer ∙ rw (le-ltb 255 (length x) f, le-ltb (length old) (length x) g, q) refl,
      o.room ∙ rw (le-ltb 255 (length x) f, le-ltb (length old) (length x) g, q) refl,
    )

-- a reply that the tag closes, in any mode, gives its data back to the other side
pub closed_opens : (s : Session) (m : Mode) (code : ℕ) (d : List ℕ) → IsBlock s.enc → AllBytes d
    → reply_opening s m code (closed s m code d) ≡ plain d
unfolding closed reply_opening
closed_opens s m code d k h =
    let p = sent m s (reply_iv s) (filled (length d)) d in
    let b = reply_iv_block s k in
    rw (signed-right s code p m, signed-front s code p m, sym (body_length s code p m))
    (rw (signed-length s code p m, reply-sent s k (reply_iv s) b d h m) (filled-sent s k (reply_iv s) b d h m))

-- a closed reply is as long as its mode says
pub closed-length : (s : Session) (m : Mode) (code : ℕ) (d : List ℕ) → length s.enc ≡ 16 → AllBytes s.enc → AllBytes d
    → length (closed s m code d) ≡ closed_length m (length d)
unfolding closed
closed-length s m code d l b h =
    let k : IsBlock s.enc = record { len = l; bytes = b } in
    signed-length s code (sent m s (reply_iv s) (filled (length d)) d) m ∙ sent-length s k (reply_iv s) (reply_iv_block s k) d h m
