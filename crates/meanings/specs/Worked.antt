-- 01's examples of settings strings, for file 2.
use Rattle.std.specs.Prelude.{◌≡◌, List, [], ◌∷◌, ℕ, Ok, Err}
use Rattle.settings.specs.declared.Fault.TheVariants.{String}
use Rattle.settings.specs.declared.Status.TheVariants.{ParameterError}
use Rattle.fields.specs.Normal.{normal}
use Rattle.settings.specs.Answers.{judged}

-- 4000E0C1F121200000430000430000 with the MAC input start and the MAC offset given: PICCData from 32 to 63
unfoldable pub example : ℕ → ℕ → List ℕ
example input mac =
    0x40 ∷ 0x00 ∷ 0xE0 ∷ 0xC1 ∷ 0xF1 ∷ 0x21 ∷ 0x20 ∷ 0x00 ∷ 0x00 ∷ input ∷ 0x00 ∷ 0x00 ∷ mac ∷ 0x00 ∷ 0x00 ∷ []

-- what 01 says of them: the string is normal (67 is 43h); 64 in place of 67, the input too, is accepted, 63 is 919E;
-- MAC offset 240 fits, 241 doesn't
pub record Shown : Type 0 where
  pub normal_67 : normal (example 67 67) ≡ example 67 67
  pub good_67 : judged 2 (example 67 67) ≡ Ok tt
  pub good_64 : judged 2 (example 64 64) ≡ Ok tt
  pub bad_63 : judged 2 (example 63 63) ≡ Err (String ParameterError)
  pub good_240 : judged 2 (example 0 240) ≡ Ok tt
  pub bad_241 : judged 2 (example 0 241) ≡ Err (String ParameterError)
