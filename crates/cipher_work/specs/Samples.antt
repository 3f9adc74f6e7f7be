-- Samples: the settings string that reaches 28 and the call that reaches 35, and what fails without a premise.
use Rattle.std.specs.Prelude.{true, false, List, [], ◌∷◌, ◌++◌, ◌≡◌, ℕ, ◌-◌, length, replicate}
use Rattle.messaging.specs.declared.Mode.TheVariants.{Plain, Full}
use Rattle.opening.specs.Command.{sent_command}
use Rattle.fields.specs.Fields.{read_of, string_of, sdm_on}
use Rattle.settings.specs.Answers.{judged, verdict_word}
use Rattle.state.specs.declared.Tag.{Tag}
use Rattle.state.specs.State.{rules_of, filed, placed, talking, no_pending, session_of}
use Rattle.soundness.specs.Sound.{sound_tag}
use Rattle.tag.specs.Way.{answered}
use Rattle.series.specs.Series.{Asked, accepts}
use Rattle.demands.specs.Talks.{said}
use Rattle.demands.specs.Samples.{sample, some_uid, changeable, zeros20, zeros258, calling}
use Rattle.demands.specs.Reaching.{built, Reached}
use Rattle.one_tap.specs.OneTap.{Taps}
use Rattle.one_tap.specs.Samples.{ask_data, ask_binary}
use Rattle.cipher_work.specs.CipherWork.{mirrored_blocks}

-- ---- tags
-- every right of files 1 and 3 as delivered, files and keys zeros, in the application; a settings string of file 2, and file 2 selected
unfoldable pub with_settings : List ℕ → Tag
with_settings s =
    placed
    (filed changeable
    (record {
      bytes = replicate 416 0;
      rules = 0 ∷ 0xE0 ∷ 0xEE ∷ replicate 24 0 ++ s ++ replicate (27 - length s) 0 ++ 0 ∷ 0xE0 ∷ 0xEE ∷ replicate 24 0;
      lens = 3 ∷ length s ∷ 3 ∷ [];
    }))
    (record { application = true; file = 2 })

-- ---- 28: PICCData at 0, MAC input from 0, ENC at 32 with 192 bytes, MAC at 240: 4000E0D1F121000000000000200000C00000F00000
unfoldable pub longest : List ℕ
longest = 0x40 ∷ 0x00 ∷ 0xE0 ∷ 0xD1 ∷ 0xF1 ∷ 0x21 ∷ 0 ∷ 0 ∷ 0 ∷ 0 ∷ 0 ∷ 0 ∷ 0x20 ∷ 0 ∷ 0 ∷ 0xC0 ∷ 0 ∷ 0 ∷ 0xF0 ∷ 0 ∷ 0 ∷ []

unfoldable pub holding : Tag
holding = with_settings longest

-- a sound tag holds it, either read of file 2 is a mirrored read and costs 28; and a command brings a tag to hold it (crates/demands/specs/Reaching.antt)
pub record Reaches28 : Type 0 where
  pub sound : sound_tag holding ≡ true
  pub string : rules_of holding.files 2 ≡ longest
  pub by_binary : Taps holding (ask_binary 0 0) true
  pub by_data : Taps holding (ask_data 0 0) false
  pub binary-cost : (said holding (ask_binary 0 0)).cost ≡ 28
  pub data_cost : (said holding (ask_data 0 0)).cost ≡ 28
  pub reached : Reached changeable 2 (read_of longest) Plain zeros20 zeros258
  pub carries : string_of (read_of longest) ≡ longest

-- ---- 35: a session of key 0, and file 2 read in Full under key 0: 030000
unfoldable pub in_full : Tag
in_full =
    filed (sample some_uid true 0xEE)
    (record {
      bytes = replicate 416 0;
      rules = 0 ∷ 0xE0 ∷ 0xEE ∷ replicate 24 0 ++ 3 ∷ 0 ∷ 0 ∷ replicate 24 0 ++ 0 ∷ 0xE0 ∷ 0xEE ∷ replicate 24 0;
      lens = 3 ∷ 3 ∷ 3 ∷ [];
    })

-- ReadData of 239 bytes, as the other side sends it
unfoldable pub ask_full : Asked
ask_full = calling (built 0xAD (sent_command (session_of in_full.live) Full 0xAD (2 ∷ 0 ∷ 0 ∷ 0 ∷ 239 ∷ 0 ∷ 0 ∷ []) false []))

pub record Reaches35 : Type 0 where
  pub sound : sound_tag in_full ≡ true
  pub cost : (said in_full ask_full).cost ≡ 35

-- ---- what fails without a premise of the formula
-- the limit is reached: a tap that is refused at its start costs nothing, though PICCData alone would cost 1 (40EEEE61FF0F, PICCData at 0, limit 0)
unfoldable pub limited : Tag
limited = with_settings (0x40 ∷ 0xEE ∷ 0xEE ∷ 0x61 ∷ 0xFF ∷ 0x0F ∷ 0 ∷ 0 ∷ 0 ∷ 0 ∷ 0 ∷ 0 ∷ [])

-- PICCData at 0, and a session of key 0: stored bytes are read, and cost nothing (40EEEE41FF0F000000)
unfoldable pub sealed_in_session : Tag
sealed_in_session =
    talking (with_settings (0x40 ∷ 0xEE ∷ 0xEE ∷ 0x41 ∷ 0xFF ∷ 0x0F ∷ 0 ∷ 0 ∷ 0 ∷ [])) (sample some_uid true 0xEE).live no_pending

pub record NotMirrored : Type 0 where
  pub limited-sound : sound_tag limited ≡ true
  pub limited-status : (answered limited (ask_data 0 0).command zeros20).status ≡ 0x919D
  pub limited_iso : (answered limited (ask_binary 0 0).command zeros20).status ≡ 0x6982
  pub limited-cost : (said limited (ask_data 0 0)).cost ≡ 0
  pub limited_iso_cost : (said limited (ask_binary 0 0)).cost ≡ 0
  pub limited_formula : mirrored_blocks (read_of (rules_of limited.files 2)) ≡ 1
  pub session-sound : sound_tag sealed_in_session ≡ true
  pub session-reads : accepts sealed_in_session (ask_data 0 0) ≡ true
  pub session-cost : (said sealed_in_session (ask_data 0 0)).cost ≡ 0
  pub session_formula : mirrored_blocks (read_of (rules_of sealed_in_session.files 2)) ≡ 1
  -- SDM off: stored bytes too
  pub off_reads : accepts changeable (ask_data 0 0) ≡ true
  pub off_cost : (said changeable (ask_data 0 0)).cost ≡ 0
  pub off_formula : mirrored_blocks (read_of (rules_of changeable.files 2)) ≡ 5

-- a string that the rules refuse (the MAC behind the file, at 512: 919E) passes 28
unfoldable pub too_far : List ℕ
too_far = 0x40 ∷ 0x00 ∷ 0xE0 ∷ 0xC1 ∷ 0xF1 ∷ 0x21 ∷ 0 ∷ 0 ∷ 0 ∷ 0 ∷ 0 ∷ 0 ∷ 0 ∷ 2 ∷ 0 ∷ []

pub record NotGood : Type 0 where
  pub on : sdm_on too_far ≡ true
  pub refused : verdict_word (judged 2 too_far) ≡ 0x919E
  pub passes : mirrored_blocks (read_of too_far) ≡ 36
