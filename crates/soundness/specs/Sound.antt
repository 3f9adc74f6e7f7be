-- 01, refusal 3: what makes a state not sound, clause by clause.
use Rattle.std.specs.Prelude.{Bool, true, false, not, List, ℕ, eqb, leb, Ok, Err}
use Rattle.base.specs.Decide.{and, or}
use Rattle.base.specs.Bytes.{byte_at, same}
use Rattle.settings.specs.Answers.{Verdict, judged}
use Rattle.fields.specs.Normal.{normal}
use Rattle.state.specs.declared.Files.{Files}
use Rattle.state.specs.declared.Tag.{Tag}
use Rattle.state.specs.State.{slot_of, rules_of, reading_in, no_padding}
use Rattle.soundness.specs.declared.Judged.{Judged}

abbrev pub good : Verdict → Bool
good (Ok _) = true
good (Err e) = false

-- a string keeps the rules for file n and is its own normal form
abbrev pub string_sound : ℕ → List ℕ → Bool
string_sound n s = and (good (judged n s)) (same s (normal s))

-- settings break the rules (a string has 3 to 27 bytes, so a stored length over 27 too) or aren't normal
unfoldable pub rules_sound : Files → ℕ → Bool
rules_sound f n = and (leb (byte_at f.lens (slot_of n)) 27) (string_sound n (rules_of f n))

-- key number of a session or pending part over 4; session and pending part both
unfoldable pub keys_sound : Bool → ℕ → Bool → ℕ → Bool
keys_sound live key pending other = and (or (not live) (leb key 4)) (and (or (not pending) (leb other 4)) (not (and live pending)))

-- a tap with either of them or with file 2's SDM off
unfoldable pub alone_sound : Bool → Bool → Bool → Bool → Bool
alone_sound tap live pending sdm = or (not tap) (and (not live) (and (not pending) sdm))

-- 02, request 3: no tap, and the kept padding not all zero
unfoldable pub padding_sound : Bool → List ℕ → Bool
padding_sound tap padding = or tap (same padding no_padding)

-- a selected file not 1 to 3; session, pending part, tap or selected file at PICC level
unfoldable pub level_sound : Bool → Bool → Bool → Bool → ℕ → Bool
level_sound application live pending tap file =
    and (leb file 3) (or application (and (not live) (and (not pending) (and (not tap) (eqb file 0)))))

-- settings; counter out of range; UID not starting 04; and the rest
unfoldable pub sound_tag : Tag → Bool
sound_tag t =
    and (rules_sound t.files 1)
    (and (rules_sound t.files 2)
    (and (rules_sound t.files 3)
    (and (leb t.tap.counter 16777215)
    (and (eqb (byte_at t.uid 0) 4)
    (and (keys_sound t.live.on t.live.key t.pending.on t.pending.key)
    (and (alone_sound t.tap.on t.live.on t.pending.on (reading_in t.files 2).settings.head.sdm)
    (and (padding_sound t.tap.on t.tap.padding)
    (level_sound t.place.application t.live.on t.pending.on t.tap.on t.place.file))))))))

-- whether it is sound, and what the settings of files 1 to 3 mean
unfoldable pub judged_tag : Tag → Judged
judged_tag t =
    record {
      sound = sound_tag t;
      first = reading_in t.files 1;
      second = reading_in t.files 2;
      third = reading_in t.files 3;
    }
