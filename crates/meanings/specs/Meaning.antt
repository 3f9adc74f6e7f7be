-- One meaning, one normal string.
use Rattle.std.specs.Prelude.{◌≡◌, List, ℕ, Ok}
use Rattle.base.specs.Bytes.{AllBytes}
use Rattle.fields.specs.declared.Settings.{Settings}
use Rattle.fields.specs.Fields.{read_of}
use Rattle.fields.specs.Normal.{normal}
use Rattle.settings.specs.Answers.{judged}

-- Every record that meets the rules has exactly one normal string, and reading it gives the record back
pub record OneString (n : ℕ) (r : Settings) (s : List ℕ) : Type 0 where
  pub good : judged n s ≡ Ok tt
  pub own : normal s ≡ s
  pub reads : read_of s ≡ r
  pub only : (t : List ℕ) → AllBytes t → judged n t ≡ Ok tt → normal t ≡ t → read_of t ≡ r → t ≡ s

-- Two good strings mean the same exactly if their normal forms are equal
pub record SameMeaning (s t : List ℕ) : Type 0 where
  pub if_read : read_of s ≡ read_of t → normal s ≡ normal t
  pub if_normal : normal s ≡ normal t → read_of s ≡ read_of t
