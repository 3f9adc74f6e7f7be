-- Samples: tags and calls that meet the premises of the theorems, and what fails without one of them.
use Rattle.std.specs.Prelude.{Bool, true, false, List, [], ◌∷◌, ◌++◌, ◌≡◌, ℕ, replicate, Some}
use Rattle.messaging.specs.declared.Mode.TheVariants.{Plain}
use Rattle.fields.specs.declared.Settings.{Settings}
use Rattle.fields.specs.Fields.{read_of, string_of}
use Rattle.fields.specs.Normal.{normal}
use Rattle.rules.specs.Rules.{meets}
use Rattle.state.specs.declared.Tag.{Tag}
use Rattle.state.specs.State.{rules_of, ended_of, filed}
use Rattle.delivery.specs.Fresh.{no_tap, fresh_tag}
use Rattle.soundness.specs.Sound.{sound_tag}
use Rattle.replies.specs.Answer.{Answer}
use Rattle.details.specs.Details.{settings_reply}
use Rattle.access.specs.declared.Grant.TheVariants.{Unasked}
use Rattle.tag.specs.declared.Outcome.TheVariants.{Replied, SmallRoom, WrongRandom, Unsound}
use Rattle.tag.specs.Way.{answered}
use Rattle.tag.specs.Call.{outcome_of}
use Rattle.series.specs.Series.{Asked, step, after}
use Rattle.series.specs.Worked.{select_application, settings_of, in_application}
use Rattle.demands.specs.Talks.{Said, said_all, string_in, last_change, read_text, string_of_reply, delivered, telling}
use Rattle.demands.specs.Reaching.{built, changing}

-- ---- tags
-- in the application or not; with a session of key 0 at a CmdCtr, a pending part two of key 0, or neither; files and keys are zeros;
-- the rights ReadWrite and Change of file 2, in one byte, and E for its Read and Write
pub record Sample : Type 0 where
  pub uid : List ℕ
  pub application : Bool
  pub live : Bool
  pub counter : ℕ
  pub pending : Bool
  pub rights : ℕ

unfoldable pub tag_of : Sample → Tag
tag_of s =
    record {
      uid = s.uid;
      files =
          record {
            bytes = replicate 416 0;
            rules = 0 ∷ 0xE0 ∷ 0xEE ∷ replicate 24 0 ++ 0 ∷ s.rights ∷ 0xEE ∷ replicate 24 0 ++ 0 ∷ 0xE0 ∷ 0xEE ∷ replicate 24 0;
            lens = 3 ∷ 3 ∷ 3 ∷ [];
          };
      secrets = record { keys = replicate 80 0; versions = replicate 5 0 };
      live = record { on = s.live; key = 0; enc = replicate 16 0; mac = replicate 16 0; ti = replicate 4 0; counter = s.counter };
      pending =
          record {
            on = s.pending;
            first = false;
            key = 0;
            rnd_b = replicate 16 0;
            cap = replicate 6 0;
            ti = replicate 4 0;
            counter = 0;
          };
      place = record { application = s.application; file = 0 };
      tap = no_tap;
    }

-- in the application, with a session or not
unfoldable pub sample : List ℕ → Bool → ℕ → Tag
sample uid live rights =
    tag_of (record { uid = uid; application = true; live = live; counter = 0; pending = false; rights = rights })

-- one UID; Change E and no session
unfoldable pub some_uid : List ℕ
some_uid = 0x04 ∷ replicate 6 0

unfoldable pub changeable : Tag
changeable = sample some_uid false 0xEE

-- the same with a UID that does not start with 04, so not sound
unfoldable pub misnamed : Tag
misnamed = sample (replicate 7 0) false 0xEE

-- no value of the type: the array of the settings strings ends behind the third string, which grants Change to all
unfoldable pub short : Tag
short =
    filed changeable
    (record {
      bytes = replicate 416 0;
      rules = 0 ∷ 0xE0 ∷ 0xEE ∷ replicate 24 0 ++ 0 ∷ 0xE0 ∷ 0xEE ∷ replicate 24 0 ++ 0 ∷ 0xEE ∷ 0xEE ∷ [];
      lens = 3 ∷ 3 ∷ 3 ∷ [];
    })

-- ---- calls
unfoldable pub zeros20 : List ℕ
zeros20 = replicate 20 0

unfoldable pub zeros258 : List ℕ
zeros258 = replicate 258 0

unfoldable pub calling : List ℕ → Asked
calling c = record { command = c; random = zeros20; room = zeros258 }

-- ChangeFileSettings of a file in Plain: a FileOption byte, and E for every right
unfoldable pub change_of_file : ℕ → ℕ → List ℕ
change_of_file n option = built 0x5F (n ∷ option ∷ 0xEE ∷ 0xEE ∷ [])

unfoldable pub change_to : ℕ → List ℕ
change_to option = change_of_file 2 option

-- what a tag answers to it
abbrev pub changed_by : Tag → ℕ → Answer
changed_by t option = answered t (change_to option) zeros20

-- what `telling 2` is answered by a tag whose file 2 has that FileOption: 9000; 00, the string with its size, 9100; both under none of the rights,
-- and for no blocks
unfoldable pub told_of : ℕ → List Said
told_of option =
    record { outcome = Replied; reply = 0x90 ∷ 0x00 ∷ []; noted = Some Unasked; cost = 0 }
    ∷ record { outcome = Replied; reply = 0x00 ∷ option ∷ 0xEE ∷ 0xEE ∷ 0x00 ∷ 0x01 ∷ 0x00 ∷ 0x91 ∷ 0x00 ∷ []; noted = Some Unasked; cost = 0 }
    ∷ []

-- ---- demand 3, statement 1: two strings with one normal form (mode bits 10 and 00), and one with another (11)
pub record Forms : Type 0 where
  pub accepts_02 : (changed_by changeable 0x02).status ≡ 0x9100
  pub accepts_00 : (changed_by changeable 0x00).status ≡ 0x9100
  pub accepts_03 : (changed_by changeable 0x03).status ≡ 0x9100
  pub sent_02 : string_in changeable (change_to 0x02) ≡ 0x02 ∷ 0xEE ∷ 0xEE ∷ []
  pub sent_00 : string_in changeable (change_to 0x00) ≡ 0x00 ∷ 0xEE ∷ 0xEE ∷ []
  pub sent_03 : string_in changeable (change_to 0x03) ≡ 0x03 ∷ 0xEE ∷ 0xEE ∷ []
  pub form_02 : normal (string_in changeable (change_to 0x02)) ≡ 0x00 ∷ 0xEE ∷ 0xEE ∷ []
  pub form_00 : normal (string_in changeable (change_to 0x00)) ≡ 0x00 ∷ 0xEE ∷ 0xEE ∷ []
  pub form_03 : normal (string_in changeable (change_to 0x03)) ≡ 0x03 ∷ 0xEE ∷ 0xEE ∷ []
  pub told_02 : said_all (changed_by changeable 0x02).tag (telling 2) ≡ told_of 0x00
  pub told_00 : said_all (changed_by changeable 0x00).tag (telling 2) ≡ told_of 0x00
  pub told_03 : said_all (changed_by changeable 0x03).tag (telling 2) ≡ told_of 0x03

-- ---- what fails without a premise
-- `sound-series`, `fresh-series`: a tag with another first byte of the UID is not sound, and stays so
pub record NotSound : Type 0 where
  pub before : sound_tag (fresh_tag (replicate 7 0)) ≡ false
  pub then : sound_tag (step (fresh_tag (replicate 7 0)) (calling select_application)) ≡ false

-- `otherwise-ended`, `ended-call`: under 9000 a tag has not only ended: the application is selected
pub record NotEnded : Type 0 where
  pub ends : (ended_of (fresh_tag some_uid)).place.application ≡ false
  pub moves : (in_application some_uid zeros20).place.application ≡ true

-- `changed-accepted`, `changed-call`: under 9100 the settings are others
pub record NotSame : Type 0 where
  pub before : rules_of changeable.files 2 ≡ 0x00 ∷ 0xEE ∷ 0xEE ∷ []
  pub then : rules_of (step changeable (calling (change_to 0x03))).files 2 ≡ 0x03 ∷ 0xEE ∷ 0xEE ∷ []

-- `telling-apart`, `alike-exactly`: two changes that are refused leave one tag, whatever their normal forms (Change 3, no session);
-- and so do an accepted change and an accepted command that is no change; a tag that is not sound answers `telling` with no reply
pub record NotTold : Type 0 where
  pub refuses : (changed_by (sample some_uid false 0xE3) 0x03).status ≡ 0x91AE
  pub one_tag : (changed_by (sample some_uid false 0xE3) 0x03).tag ≡ (changed_by (sample some_uid false 0xE3) 0x00).tag
  pub form_03 : normal (string_in (sample some_uid false 0xE3) (change_to 0x03)) ≡ 0x03 ∷ 0xEE ∷ 0xEE ∷ []
  pub form_00 : normal (string_in (sample some_uid false 0xE3) (change_to 0x00)) ≡ 0x00 ∷ 0xEE ∷ 0xEE ∷ []
  pub same_tag : (answered changeable (settings_of 2) zeros20).tag ≡ (changed_by changeable 0x00).tag
  pub no_string : normal (string_in changeable (settings_of 2)) ≡ []
  pub unsound_03 : (changed_by misnamed 0x03).status ≡ 0x9100
  pub unsound_00 : (changed_by misnamed 0x00).status ≡ 0x9100
  pub unsound-alike : said_all (changed_by misnamed 0x03).tag (telling 2) ≡ said_all (changed_by misnamed 0x00).tag (telling 2)
  pub unsound_form_03 : normal (string_in misnamed (change_to 0x03)) ≡ 0x03 ∷ 0xEE ∷ 0xEE ∷ []
  pub unsound_form_00 : normal (string_in misnamed (change_to 0x00)) ≡ 0x00 ∷ 0xEE ∷ 0xEE ∷ []

-- `reachable`: PICC level, part two pending, CmdCtr used up, Change of another key, no such file, a room and random bytes too short, a tag that
-- is not sound
pub record NotReady : Type 0 where
  pub level : (changed_by (tag_of (record { uid = some_uid; application = false; live = false; counter = 0; pending = false; rights = 0xEE })) 0).status
      ≡ 0x919D
  pub pending : (changed_by (tag_of (record { uid = some_uid; application = true; live = false; counter = 0; pending = true; rights = 0xEE })) 0).status
      ≡ 0x91CA
  pub counter : (changed_by (tag_of (record { uid = some_uid; application = true; live = true; counter = 65535; pending = false; rights = 0xEE })) 0).status
      ≡ 0x91AE
  pub right : (changed_by (sample some_uid true 0xE3) 0).status ≡ 0x91AE
  pub room : outcome_of changeable zeros20 (replicate 257 0) ≡ SmallRoom
  pub file : (answered changeable (change_of_file 4 0) zeros20).status ≡ 0x91F0
  pub random : outcome_of changeable (replicate 19 0) zeros258 ≡ WrongRandom
  pub sound : outcome_of misnamed zeros20 zeros258 ≡ Unsound

-- `reachable`: a record that does not meet the rules (Change 5: there is no such key) is refused
unfoldable pub change_five : Settings
change_five = read_of (0x00 ∷ 0xE5 ∷ 0xEE ∷ [])

pub record NotMet : Type 0 where
  pub unmet : meets 2 change_five ≡ false
  pub string : string_of change_five ≡ 0x00 ∷ 0xE5 ∷ 0xEE ∷ []
  pub refuses : (answered changeable (changing changeable Plain 2 (string_of change_five)) zeros20).status ≡ 0x919E

-- `series-leaves`: where the array is too short an accepted change is not stored. (Its soundness, as in its siblings, carries no weight:
-- `unsound-rules`)
pub record NotTyped : Type 0 where
  pub sound : sound_tag short ≡ true
  pub accepts : (answered short (change_of_file 3 0x03) zeros20).status ≡ 0x9100
  pub holds : rules_of (after short (calling (change_of_file 3 0x03) ∷ [])).files 3 ≡ 0x00 ∷ 0xEE ∷ 0xEE ∷ []
  pub due : last_change short (calling (change_of_file 3 0x03) ∷ []) 3 (rules_of short.files 3) ≡ 0x03 ∷ 0xEE ∷ 0xEE ∷ []

-- `what-a-series-leaves`: there is no file 4
pub record NoFile : Type 0 where
  pub holds : rules_of (fresh_tag some_uid).files 4 ≡ []
  pub due : delivered 4 ≡ 0x03 ∷ 0x30 ∷ 0x23 ∷ []

-- `read_alike`: a refused GetFileSettings (PICC level) gives no string; `read-and-written-alike`: after a second change the first is not
-- what is read, and a refused one is never read; `string-read`: a string of no bytes has no place in a reply
pub record NotRead : Type 0 where
  pub refused : (answered (fresh_tag some_uid) (settings_of 2) zeros20).text ≡ []
  pub due : read_text (fresh_tag some_uid) 2 (rules_of (fresh_tag some_uid).files 2) ≡ 0x00 ∷ 0x00 ∷ 0xE0 ∷ 0xEE ∷ 0x00 ∷ 0x01 ∷ 0x00 ∷ []
  pub second : (answered (after changeable (calling (change_to 0x00) ∷ calling (change_to 0x03) ∷ [])) (settings_of 2) zeros20).text
      ≡ 0x00 ∷ 0x03 ∷ 0xEE ∷ 0xEE ∷ 0x00 ∷ 0x01 ∷ 0x00 ∷ []
  pub refused-change : (answered (step (sample some_uid false 0xE3) (calling (change_to 0x03))) (settings_of 2) zeros20).text
      ≡ 0x00 ∷ 0x00 ∷ 0xE3 ∷ 0xEE ∷ 0x00 ∷ 0x01 ∷ 0x00 ∷ []
  pub empty : string_of_reply (settings_reply [] 256) ≡ 0x00 ∷ 0x01 ∷ 0x00 ∷ []
