-- 02, request 11: "The settings rules already say so, and a sound state holds only such settings": every span of file 2's
-- settings, and of any file's, ends inside the file.
use Rattle.std.specs.Prelude.{true, false, [], ◌∷◌, ◌++◌, ◌≡◌, ℕ, replicate}
use Rattle.spans.specs.Spans.{end_of, SpansFit}
use Rattle.meanings.specs.Worked.{example}
use Rattle.state.specs.declared.Tag.{Tag}
use Rattle.state.specs.State.{reading_in, filed}
use Rattle.soundness.specs.Sound.{sound_tag}
use Rattle.series.specs.Series.{Typed}
use Rattle.demands.specs.Samples.{changeable}

abbrev pub SpansInside : Type 0
SpansInside = (t : Tag) → sound_tag t ≡ true → SpansFit (reading_in t.files 2)

-- the reading that a command is given, whatever the number of its file
abbrev pub ReadingsInside : Type 0
ReadingsInside = (t : Tag) → Typed t → sound_tag t ≡ true → (n : ℕ) → SpansFit (reading_in t.files n)

-- ---- samples
-- a tag whose file 2 has 01's example, with the MAC at an offset
unfoldable pub mac_at : ℕ → Tag
mac_at mac =
    filed changeable
    (record {
      bytes = replicate 416 0;
      rules = 0 ∷ 0xE0 ∷ 0xEE ∷ replicate 24 0 ++ example 0 mac ++ replicate 12 0 ++ 0 ∷ 0xE0 ∷ 0xEE ∷ replicate 24 0;
      lens = 3 ∷ 15 ∷ 3 ∷ [];
    })

-- at 240 the tag is sound, and the MAC ends at the file's end; at 241 it is not, and the MAC ends behind it
pub record AtTheEnd : Type 0 where
  pub sound : sound_tag (mac_at 240) ≡ true
  pub ends : end_of (reading_in (mac_at 240).files 2).mac ≡ 256
  pub unsound : sound_tag (mac_at 241) ≡ false
  pub behind : end_of (reading_in (mac_at 241).files 2).mac ≡ 257
