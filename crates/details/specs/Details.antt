-- 01: GetCardUID (10.5.3), GetFileSettings (10.7.2), GetFileCounters (10.7.3).
use Rattle.std.specs.Prelude.{List, [], ◌∷◌, ◌++◌, ℕ, take, drop}
use Rattle.base.specs.Bytes.{low}
use Rattle.messaging.specs.declared.Mode.{Mode}
use Rattle.messaging.specs.declared.Mode.TheVariants.{Full}
use Rattle.state.specs.declared.Tag.{Tag}
use Rattle.state.specs.State.{size_of, rules_of}
use Rattle.replies.specs.Answer.{Answer, accepted}

unfoldable pub card_uid : Tag → Answer
card_uid t = accepted t Full t.uid

-- 00, FileOption, rights, size (3), the rest
unfoldable pub settings_reply : List ℕ → ℕ → List ℕ
settings_reply s size = 0 ∷ take 3 s ++ low 3 size ++ drop 3 s

unfoldable pub file_settings : Tag → ℕ → Mode → Answer
file_settings t n m = accepted t m (settings_reply (rules_of t.files n) (size_of n))

-- SDMReadCtr low byte first, and two zeros (Table 76)
unfoldable pub file_counters : Tag → Mode → Answer
file_counters t m = accepted t m (low 3 t.tap.counter ++ 0 ∷ 0 ∷ [])
