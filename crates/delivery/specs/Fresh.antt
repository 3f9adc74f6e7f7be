-- 01: "A fresh tag from a UID", and refusal 4.
use Rattle.std.specs.Prelude.{Bool, false, List, [], ◌∷◌, ◌++◌, ◌≡◌, ℕ, eqb, length, replicate, Result, Ok, Err}
use Rattle.base.specs.Decide.{pick, and}
use Rattle.base.specs.Bytes.{byte_at}
use Rattle.state.specs.declared.Files.{Files}
use Rattle.state.specs.declared.Secrets.{Secrets}
use Rattle.state.specs.declared.Tapping.{Tapping}
use Rattle.state.specs.declared.Tag.{Tag}
use Rattle.delivery.specs.declared.WrongUid.{WrongUid}
use Rattle.state.specs.State.{no_live, no_pending, no_padding}

-- file 1 as delivered, with nine zeros
unfoldable pub container : List ℕ
container =
    0x00 ∷ 0x17 ∷ 0x20 ∷ 0x01 ∷ 0x00 ∷ 0x00 ∷ 0xFF ∷ 0x04 ∷ 0x06 ∷ 0xE1 ∷ 0x04 ∷ 0x01 ∷ 0x00 ∷ 0x00 ∷ 0x00 ∷ 0x05 ∷ 0x06 ∷ 0xE1
    ∷ 0x05 ∷ 0x00 ∷ 0x80 ∷ 0x82 ∷ 0x83 ∷ replicate 9 0

-- the settings strings as delivered: FileOption, then the rights ReadWrite and Change, Read and Write
abbrev pub first_rules : List ℕ
first_rules = 0x00 ∷ 0x00 ∷ 0xE0 ∷ []

abbrev pub second_rules : List ℕ
second_rules = 0x00 ∷ 0xE0 ∷ 0xEE ∷ []

abbrev pub third_rules : List ℕ
third_rules = 0x03 ∷ 0x30 ∷ 0x23 ∷ []

-- files 2 and 3 are zero
unfoldable pub delivered_files : Files
delivered_files =
    record {
      bytes = container ++ replicate 384 0;
      rules = first_rules ++ replicate 24 0 ++ second_rules ++ replicate 24 0 ++ third_rules ++ replicate 24 0;
      lens = 3 ∷ 3 ∷ 3 ∷ [];
    }

abbrev pub no_secrets : Secrets
no_secrets = record { keys = replicate 80 0; versions = replicate 5 0 }

-- no tap has been: counter 0
abbrev pub no_tap : Tapping
no_tap = record { on = false; iso = false; counter = 0; padding = no_padding }

-- every byte and number 0: the state beside refusal 4, and what stands for bytes that hold no state
unfoldable pub blank : Tag
blank =
    record {
      uid = replicate 7 0;
      files = record { bytes = replicate 416 0; rules = replicate 81 0; lens = replicate 3 0 };
      secrets = no_secrets;
      live = no_live;
      pending = no_pending;
      place = record { application = false; file = 0 };
      tap = no_tap;
    }

-- PICC level selected, keys and versions 0
unfoldable pub fresh_tag : List ℕ → Tag
fresh_tag uid =
    record {
      uid = uid;
      files = delivered_files;
      secrets = no_secrets;
      live = no_live;
      pending = no_pending;
      place = record { application = false; file = 0 };
      tap = no_tap;
    }

-- refusal 4: UID not 7 bytes, or first byte not 04
unfoldable pub right_uid : List ℕ → Bool
right_uid uid = and (eqb (length uid) 7) (eqb (byte_at uid 0) 4)

-- 01's number of what a UID gives: refusal 4; 0 where there is a tag
unfoldable pub made_number : Result Tag WrongUid → ℕ
made_number (Ok t) = 0
made_number (Err e) = 4

unfoldable pub born : List ℕ → Result Tag WrongUid
born uid = pick (right_uid uid) (Ok (fresh_tag uid)) (Err (record { beside = blank }))

pub record Births (uid : List ℕ) (r : Result Tag WrongUid) : Type 0 where
  pub number : made_number r ≡ pick (right_uid uid) 0 4
  pub told : r ≡ born uid
