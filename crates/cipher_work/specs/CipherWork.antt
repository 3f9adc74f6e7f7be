-- 02, request 10: "For a mirrored read: 1 for PICCData if encrypted; 3 plus SDMENCLength divided by 32 if ENC is on; and, if SDMFileRead isn't F,
-- 3 plus the larger of 1 and the MAC input length divided by 16 rounded up. Show that this never passes 28 and that one settings string
-- reaches 28." And that no call passes 35 (readings).
use Rattle.std.specs.Prelude.{Bool, true, List, ◌≡◌, ℕ, max, ◌+◌, ◌-◌, ◌/◌, ◌≤◌, eqb, leb, Ok}
use Rattle.base.specs.Decide.{pick}
use Rattle.fields.specs.declared.Head.{Head}
use Rattle.fields.specs.declared.Settings.{Settings}
use Rattle.fields.specs.Fields.{sdm_on, read_of}
use Rattle.settings.specs.Answers.{judged}
use Rattle.state.specs.declared.Tag.{Tag}
use Rattle.state.specs.State.{rules_of}
use Rattle.series.specs.Series.{Asked, Typed}
use Rattle.demands.specs.Talks.{said}
use Rattle.one_tap.specs.OneTap.{Taps}

-- ---- the formula, of what file 2's settings string means
-- PICCData is encrypted where SDMMetaRead is a key
unfoldable pub picc_blocks : Head → ℕ
picc_blocks h = pick (leb h.sdm_meta_read 4) 1 0

unfoldable pub enc_blocks : Settings → ℕ
enc_blocks s = pick s.head.enc (3 + s.places.size / 32) 0

-- the MAC input goes from its start to before the MAC
unfoldable pub mac_blocks : Settings → ℕ
mac_blocks s = pick (eqb s.head.sdm_file_read 15) 0 (3 + max 1 ((s.places.mac - s.places.input + 15) / 16))

unfoldable pub mirrored_blocks : Settings → ℕ
mirrored_blocks s = picc_blocks s.head + enc_blocks s + mac_blocks s

-- ---- what a call reports (`cost` of what it says, crates/demands/specs/Talks.antt)
-- every mirrored read of a sound tag, that is an accepted read of file 2 without a session, SDM on (a read is accepted of sound tags alone: refusal 3)
abbrev pub MirroredFormula : Type 0
MirroredFormula = (t : Tag) (a : Asked) (iso : Bool) → Taps t a iso → (said t a).cost ≡ mirrored_blocks (read_of (rules_of t.files 2))

-- never over 28: of every string with SDM on that the rules let through, and so of every mirrored read
abbrev pub StringAtMost28 : Type 0
StringAtMost28 = (s : List ℕ) → judged 2 s ≡ Ok tt → sdm_on s ≡ true → mirrored_blocks (read_of s) ≤ 28

abbrev pub MirroredAtMost28 : Type 0
MirroredAtMost28 = (t : Tag) (a : Asked) (iso : Bool) → Taps t a iso → (said t a).cost ≤ 28

-- and of any call, in any state, whatever its command, random bytes and room
abbrev pub AnyCallAtMost35 : Type 0
AnyCallAtMost35 = (t : Tag) (a : Asked) → Typed t → (said t a).cost ≤ 35
