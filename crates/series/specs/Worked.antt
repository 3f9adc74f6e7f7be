-- 01's examples marked †: the commands, the tags that they are given to, and what is answered.
use Rattle.settings.specs.declared.Fault.TheVariants.{String}
use Rattle.std.specs.Prelude.{List, [], ◌∷◌, ◌≡◌, ℕ, Err, Ok}
use Rattle.settings.specs.declared.Status.TheVariants.{ParameterError}
use Rattle.fields.specs.Normal.{normal}
use Rattle.settings.specs.Answers.{judged}
use Rattle.meanings.specs.Worked.{example}
use Rattle.state.specs.declared.Tag.{Tag}
use Rattle.delivery.specs.Fresh.{fresh_tag}
use Rattle.tag.specs.Way.{answered}
use Rattle.tag.specs.Call.{reply_of}

-- 00A4040007D276000085010100
unfoldable pub select_application : List ℕ
select_application = 0x00 ∷ 0xA4 ∷ 0x04 ∷ 0x00 ∷ 0x07 ∷ 0xD2 ∷ 0x76 ∷ 0x00 ∷ 0x00 ∷ 0x85 ∷ 0x01 ∷ 0x01 ∷ 0x00 ∷ []

-- 00A4000C02E104
unfoldable pub select_file : List ℕ
select_file = 0x00 ∷ 0xA4 ∷ 0x00 ∷ 0x0C ∷ 0x02 ∷ 0xE1 ∷ 0x04 ∷ []

-- 90F5000001nn00
unfoldable pub settings_of : ℕ → List ℕ
settings_of n = 0x90 ∷ 0xF5 ∷ 0x00 ∷ 0x00 ∷ 0x01 ∷ n ∷ 0x00 ∷ []

-- 90AD0000070300000000000000
unfoldable pub read_third : List ℕ
read_third = 0x90 ∷ 0xAD ∷ 0x00 ∷ 0x00 ∷ 0x07 ∷ 0x03 ∷ 0x00 ∷ 0x00 ∷ 0x00 ∷ 0x00 ∷ 0x00 ∷ 0x00 ∷ 0x00 ∷ []

-- a fresh tag with the application selected, and then file 2
unfoldable pub in_application : List ℕ → List ℕ → Tag
in_application uid random = (answered (fresh_tag uid) select_application random).tag

unfoldable pub on_second : List ℕ → List ℕ → Tag
on_second uid random = (answered (in_application uid random) select_file random).tag

-- for a fresh tag of any UID and any random bytes; the settings string among them is 4000E0C1F121200000430000430000 (43h is 67)
pub record Examples (uid random : List ℕ) : Type 0 where
  pub select_application_replies : reply_of (answered (fresh_tag uid) select_application random) ≡ 0x90 ∷ 0x00 ∷ []
  pub select_file_replies : reply_of (answered (in_application uid random) select_file random) ≡ 0x90 ∷ 0x00 ∷ []
  pub read_over : reply_of (answered (on_second uid random) (0x00 ∷ 0xB0 ∷ 0x00 ∷ 0xFE ∷ 0x03 ∷ []) random) ≡ 0x6C ∷ 0x02 ∷ []
  pub read_past : reply_of (answered (on_second uid random) (0x00 ∷ 0xB0 ∷ 0x01 ∷ 0x00 ∷ 0x01 ∷ []) random) ≡ 0x6A ∷ 0x86 ∷ []
  pub settings_2 : reply_of (answered (in_application uid random) (settings_of 2) random)
      ≡ 0x00 ∷ 0x00 ∷ 0xE0 ∷ 0xEE ∷ 0x00 ∷ 0x01 ∷ 0x00 ∷ 0x91 ∷ 0x00 ∷ []
  pub settings_3 : reply_of (answered (in_application uid random) (settings_of 3) random)
      ≡ 0x00 ∷ 0x03 ∷ 0x30 ∷ 0x23 ∷ 0x80 ∷ 0x00 ∷ 0x00 ∷ 0x91 ∷ 0x00 ∷ []
  pub read_third_replies : reply_of (answered (in_application uid random) read_third random) ≡ 0x91 ∷ 0xAE ∷ []
  pub string-normal : normal (example 67 67) ≡ example 67 67
  pub mac_at_64 : judged 2 (example 64 64) ≡ Ok tt
  pub mac_at_63 : judged 2 (example 63 63) ≡ Err (String ParameterError)
