-- Samples of what locking means (Locking.antt): accepted commands lock a fresh tag; what still moves then; and that the claim needs each right.
use Rattle.std.specs.Prelude.{Bool, true, false, List, [], ◌∷◌, ◌++◌, ◌≡◌, ℕ, take, replicate}
use Rattle.base.specs.Decide.{and}
use Rattle.base.specs.Bytes.{byte_at}
use Rattle.messaging.specs.declared.Mode.TheVariants.{Full}
use Rattle.opening.specs.Command.{sent_command}
use Rattle.authentication.specs.Authentication.{challenge}
use Rattle.state.specs.declared.Tag.{Tag}
use Rattle.state.specs.State.{file_of, rules_of, reading_in, key_in, session_of, no_pending, filed, placed, talking}
use Rattle.delivery.specs.Fresh.{fresh_tag}
use Rattle.soundness.specs.Sound.{sound_tag}
use Rattle.tag.specs.Way.{answered}
use Rattle.tag.specs.Call.{outcome_of}
use Rattle.series.specs.Series.{Asked, step, after, passing, replies}
use Rattle.series.specs.Worked.{select_application, select_file}
use Rattle.demands.specs.Talks.{said}
use Rattle.demands.specs.Reaching.{built, changing}
use Rattle.demands.specs.Samples.{sample, some_uid, changeable, zeros20, calling, change_of_file, change_to}
use Rattle.demands.specs.Locking.{Locked}

-- a call has a reply with 9000, 9100 or 91AF; so has every call of a series
unfoldable pub call_passes : Tag → Asked → Bool
call_passes t a = and (replies (outcome_of t a.random a.room)) (passing (answered t a.command a.random).status)

unfoldable pub all_pass : Tag → List Asked → Bool
all_pass t [] = true
all_pass t (a ∷ more) = and (call_passes t a) (all_pass (step t a) more)

-- ---- at the binder's desk
abbrev pub zeros16 : List ℕ
zeros16 = replicate 16 0

-- AuthenticateEV2First with key 0 as delivered, and part two; RndA and RndB are zeros
unfoldable pub authenticating : List Asked
authenticating = calling (built 0x71 (0 ∷ 0 ∷ [])) ∷ calling (built 0xAF (challenge zeros16 zeros16 zeros16)) ∷ []

-- then ChangeFileSettings of file 2 in that session
unfoldable pub settling : Tag → List ℕ → List Asked
settling t s = authenticating ++ calling (changing (after t authenticating) Full 2 s) ∷ []

-- ChangeKey of key 0 in the session of a tag: sixteen bytes 01, version 1
unfoldable pub rekeying : Tag → Asked
rekeying t = calling (built 0xC4 (sent_command (session_of t.live) Full 0xC4 (0 ∷ []) true (replicate 16 1 ++ 1 ∷ [])))

-- ---- a fresh tag is locked
-- Read E, the other rights F; UID and SDMReadCtr as plain text at 0 and 14, SDMFileRead F: 40FFEFC1FFEF0000000E0000
unfoldable pub lock_string : List ℕ
lock_string = 0x40 ∷ 0xFF ∷ 0xEF ∷ 0xC1 ∷ 0xFF ∷ 0xEF ∷ 0 ∷ 0 ∷ 0 ∷ 14 ∷ 0 ∷ 0 ∷ []

-- select the application, prove key 0, change the settings of file 2
unfoldable pub locking_series : List Asked
locking_series = calling select_application ∷ settling (step (fresh_tag some_uid) (calling select_application)) lock_string

unfoldable pub locked_tag : Tag
locked_tag = after (fresh_tag some_uid) locking_series

pub record Locks : Type 0 where
  pub accepted : all_pass (fresh_tag some_uid) locking_series ≡ true
  pub string : rules_of locked_tag.files 2 ≡ lock_string
  pub locked : Locked locked_tag 2
  pub sound : sound_tag locked_tag ≡ true

-- ---- what still moves
-- a phone selects the application and file 2, and reads 20 bytes
unfoldable pub selecting : List Asked
selecting = calling select_application ∷ calling select_file ∷ []

unfoldable pub read_twenty : Asked
read_twenty = calling (0x00 ∷ 0xB0 ∷ 0 ∷ 0 ∷ 20 ∷ [])

-- 04000000000000, 000001, and 9000
unfoldable pub mirrored_reply : List ℕ
mirrored_reply = 0x30 ∷ 0x34 ∷ replicate 12 0x30 ++ replicate 5 0x30 ++ 0x31 ∷ 0x90 ∷ 0x00 ∷ []

pub record StillMoves : Type 0 where
  -- a tap raises the counter
  pub counter : locked_tag.tap.counter ≡ 0
  pub raised : (after locked_tag (selecting ++ read_twenty ∷ [])).tap.counter ≡ 1
  -- mirrors are laid over a read, not into the file
  pub stored : take 20 (file_of locked_tag.files 2) ≡ replicate 20 0
  pub shown : (said (after locked_tag selecting) read_twenty).reply ≡ mirrored_reply
  -- a key changes
  pub key : key_in locked_tag.secrets.keys 0 ≡ zeros16
  pub changed : key_in (step locked_tag (rekeying locked_tag)).secrets.keys 0 ≡ replicate 16 1

-- ---- the claim needs each right
-- file 2 selected, with these rights (ReadWrite and Change, Read and Write), no session; every right of files 1 and 3 is E
unfoldable pub with_rights : ℕ → ℕ → Tag
with_rights change write =
    placed
    (filed changeable
    (record {
      bytes = replicate 416 0;
      rules = 0 ∷ 0xEE ∷ 0xEE ∷ replicate 24 0 ++ 0 ∷ change ∷ write ∷ replicate 24 0 ++ 0 ∷ 0xEE ∷ 0xEE ∷ replicate 24 0;
      lens = 3 ∷ 3 ∷ 3 ∷ [];
    }))
    (record { application = true; file = 2 })

-- Write, ReadWrite and Change of file 2
unfoldable pub three_rights : Tag → List ℕ
three_rights t =
    let h = (reading_in t.files 2).settings.head in
    h.write ∷ h.read_write ∷ h.change ∷ []

-- a byte 01 at the front of file 2, by WriteData and by ISOUpdateBinary
unfoldable pub write_one : Asked
write_one = calling (built 0x8D (2 ∷ 0 ∷ 0 ∷ 0 ∷ 1 ∷ 0 ∷ 0 ∷ 1 ∷ []))

unfoldable pub update_one : Asked
update_one = calling (0x00 ∷ 0xD6 ∷ 0 ∷ 0 ∷ 1 ∷ 1 ∷ [])

pub record EachRight : Type 0 where
  -- Change E, and Change 0: the settings change
  pub change-free : three_rights (with_rights 0xFE 0xEF) ≡ 15 ∷ 15 ∷ 14 ∷ []
  pub change-free-before : rules_of (with_rights 0xFE 0xEF).files 2 ≡ 0x00 ∷ 0xFE ∷ 0xEF ∷ []
  pub change-free-string : rules_of (step (with_rights 0xFE 0xEF) (calling (change_to 0x03))).files 2 ≡ 0x03 ∷ 0xEE ∷ 0xEE ∷ []
  pub change-key : three_rights (with_rights 0xF0 0xEF) ≡ 15 ∷ 15 ∷ 0 ∷ []
  pub change-key-before : rules_of (with_rights 0xF0 0xEF).files 2 ≡ 0x00 ∷ 0xF0 ∷ 0xEF ∷ []
  pub change-key-string : rules_of (after (with_rights 0xF0 0xEF) (settling (with_rights 0xF0 0xEF) lock_string)).files 2 ≡ lock_string
  -- Write E, and ReadWrite E: the bytes change
  pub write-free : three_rights (with_rights 0xFF 0xEE) ≡ 14 ∷ 15 ∷ 15 ∷ []
  pub write-free-before : byte_at (file_of (with_rights 0xFF 0xEE).files 2) 0 ≡ 0
  pub write-free_byte : byte_at (file_of (step (with_rights 0xFF 0xEE) write_one).files 2) 0 ≡ 1
  pub read_write-free : three_rights (with_rights 0xEF 0xEF) ≡ 15 ∷ 14 ∷ 15 ∷ []
  pub read_write-free-before : byte_at (file_of (with_rights 0xEF 0xEF).files 2) 0 ≡ 0
  pub read_write-free_byte : byte_at (file_of (step (with_rights 0xEF 0xEF) update_one).files 2) 0 ≡ 1

-- ---- of the locked file alone: file 1 ends where file 2 begins
-- a byte 01 in file 1 at an offset
unfoldable pub write_first : ℕ → Asked
write_first at = calling (built 0x8D (1 ∷ at ∷ 0 ∷ 0 ∷ 1 ∷ 0 ∷ 0 ∷ 1 ∷ []))

unfoldable pub locked2 : Tag
locked2 = with_rights 0xFF 0xEF

pub record OtherFiles : Type 0 where
  pub locked : Locked locked2 2
  -- the last byte of file 1 is written, and the first of file 2 is not
  pub last-before : byte_at (file_of locked2.files 1) 31 ≡ 0
  pub last : byte_at (file_of (step locked2 (write_first 31)).files 1) 31 ≡ 1
  pub past : (answered locked2 (write_first 32).command zeros20).status ≡ 0x91BE
  -- the settings of files 1 and 3 change
  pub first_settings : rules_of (step locked2 (calling (change_of_file 1 0x03))).files 1 ≡ 0x03 ∷ 0xEE ∷ 0xEE ∷ []
  pub third_settings : rules_of (step locked2 (calling (change_of_file 3 0x03))).files 3 ≡ 0x03 ∷ 0xEE ∷ 0xEE ∷ []

-- ---- a session with key 15, which only soundness forbids
unfoldable pub key_fifteen : Tag
key_fifteen =
    let l = (sample some_uid true 0xEE).live in
    talking locked2 (record { on = true; key = 15; enc = l.enc; mac = l.mac; ti = l.ti; counter = 0 }) no_pending

-- without refusal 3 its F would be granted
pub record KeyFifteen : Type 0 where
  pub locked : Locked key_fifteen 2
  pub unsound : sound_tag key_fifteen ≡ false
  pub granted : (answered key_fifteen write_one.command zeros20).status ≡ 0x9100
  pub would_write : byte_at (file_of (answered key_fifteen write_one.command zeros20).tag.files 2) 0 ≡ 1
  pub stays : step key_fifteen write_one ≡ key_fifteen
