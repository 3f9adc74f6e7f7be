-- Samples: a tap that meets the premises of the theorems, and what fails without one of them.
use Rattle.std.specs.Prelude.{Bool, true, false, List, [], ◌∷◌, ◌++◌, ◌≡◌, ℕ, length, take, replicate}
use Rattle.state.specs.declared.Tag.{Tag}
use Rattle.state.specs.State.{filed, placed, talking, no_pending}
use Rattle.series.specs.Series.{Asked, step, after}
use Rattle.series.specs.Worked.{settings_of}
use Rattle.demands.specs.Talks.{said, said_all}
use Rattle.demands.specs.Samples.{sample, some_uid, changeable, calling}
use Rattle.one_tap.specs.OneTap.{Reads, Taps, OfTap, data_in, Pieces, gathered}

-- ---- tags
-- `changeable` with file 2 selected and another settings string of file 2, of nine bytes
unfoldable pub with_string : List ℕ → Tag
with_string s =
    placed
    (filed changeable
    (record {
      bytes = replicate 416 0;
      rules = 0 ∷ 0xE0 ∷ 0xEE ∷ replicate 24 0 ++ s ++ replicate 18 0 ++ 0 ∷ 0xE0 ∷ 0xEE ∷ replicate 24 0;
      lens = 3 ∷ 9 ∷ 3 ∷ [];
    }))
    (record { application = true; file = 2 })

-- SDMReadCtr as plain text at 0, every right E, SDMFileRead F: 40EEEE41FFEF000000
unfoldable pub counting : Tag
counting = with_string (0x40 ∷ 0xEE ∷ 0xEE ∷ 0x41 ∷ 0xFF ∷ 0xEF ∷ 0 ∷ 0 ∷ 0 ∷ [])

-- the counter in PICCData at 0, under key 0: 40EEEE41FF0F000000
unfoldable pub sealing : Tag
sealing = with_string (0x40 ∷ 0xEE ∷ 0xEE ∷ 0x41 ∷ 0xFF ∷ 0x0F ∷ 0 ∷ 0 ∷ 0 ∷ [])

-- the first with a session, of key 0
unfoldable pub in_session : Tag
in_session = talking counting (sample some_uid true 0xEE).live no_pending

-- ---- calls
-- ReadData and ISOReadBinary of file 2, so many bytes from a place on, both under 256
unfoldable pub ask_data : ℕ → ℕ → Asked
ask_data at n = calling (0x90 ∷ 0xAD ∷ 0 ∷ 0 ∷ 7 ∷ 2 ∷ at ∷ 0 ∷ 0 ∷ n ∷ 0 ∷ 0 ∷ 0 ∷ [])

unfoldable pub ask_binary : ℕ → ℕ → Asked
ask_binary at n = calling (0x00 ∷ 0xB0 ∷ 0 ∷ at ∷ n ∷ [])

-- the first with other random bytes, and with a room of one byte
unfoldable pub otherwise : Asked → Asked
otherwise a = record { command = a.command; random = replicate 20 1; room = a.room }

unfoldable pub cramped : Asked → Asked
cramped a = record { command = a.command; random = a.random; room = 0 ∷ [] }

-- the counter's six digits, of which the first five are 0
unfoldable pub six_digits : ℕ → List ℕ
six_digits digit = 0x30 ∷ 0x30 ∷ 0x30 ∷ 0x30 ∷ 0x30 ∷ digit ∷ []

-- ---- the premises are met: a tap that starts, goes on with an overlapping read behind a refused call, and is read in pieces, by either command
pub record Met (reading : ℕ → ℕ → Asked) (iso : Bool) : Type 0 where
  pub starts : Taps counting (reading 0 4) iso
  pub then : OfTap (step counting (reading 0 4)) (cramped (reading 2 6) ∷ otherwise (reading 2 6) ∷ [])
  pub later : Reads (after (step counting (reading 0 4)) (cramped (reading 2 6) ∷ otherwise (reading 2 6) ∷ [])) (reading 0 6) iso
  pub shows : data_in (said (step counting (reading 0 4)) (reading 0 6)) ≡ six_digits 0x31
  pub pieces : Pieces counting iso 0 (reading 0 4 ∷ otherwise (reading 4 0) ∷ [])
  pub whole : Reads counting (reading 0 0) iso

-- ---- what fails without a premise
-- `one-read`, with a session: an accepted read shows the stored zeros, and no tap runs; with SDM off no tap runs
pub record NoTap : Type 0 where
  pub session : Reads in_session (ask_data 0 6) false
  pub stored : data_in (said in_session (ask_data 0 6)) ≡ replicate 6 0
  pub no_tap_runs : (step in_session (ask_data 0 6)).tap.on ≡ false
  pub off : Reads changeable (ask_data 0 6) false
  pub none : (step changeable (ask_data 0 6)).tap.on ≡ false

-- `one-text`, with no tap running: the read starts one, and the tag is not as it was
pub record NotRunning : Type 0 where
  pub rests : counting.tap.on ≡ false
  pub reads : OfTap counting (ask_data 0 6 ∷ [])
  pub before : counting.tap.counter ≡ 0
  pub raised : (after counting (ask_data 0 6 ∷ [])).tap.counter ≡ 1

-- `two-agree`, with a call between that is not of the tap: another command, the other read command, a refused read (at 256 there is nothing)
pub record NotOneTap : Type 0 where
  pub first : data_in (said counting (ask_data 0 6)) ≡ six_digits 0x31
  pub command : data_in (said (after counting (ask_data 0 6 ∷ calling (settings_of 2) ∷ [])) (ask_data 0 6)) ≡ six_digits 0x32
  pub other : data_in (said (after counting (ask_data 0 6 ∷ [])) (ask_binary 0 6)) ≡ six_digits 0x32
  pub refused : data_in (said (after counting (ask_data 0 6 ∷ ask_binary 0 255 ∷ calling (0x00 ∷ 0xB0 ∷ 0x01 ∷ 0x00 ∷ 0x01 ∷ []) ∷ [])) (ask_binary 0 6)) ≡ six_digits 0x33

-- `in_pieces`, with a piece left out, with a read of less than the whole file, and with a piece of another tap: the counter's last two
-- digits are another tap's
pub record NotInPieces : Type 0 where
  pub whole : length (data_in (said counting (ask_data 0 0))) ≡ 256
  pub gap : length (gathered (said_all counting (ask_data 0 4 ∷ ask_data 5 0 ∷ []))) ≡ 255
  pub part : length (data_in (said counting (ask_data 0 6))) ≡ 6
  pub other_tap : take 6 (gathered (said_all counting (ask_data 0 4 ∷ ask_binary 4 0 ∷ []))) ≡ six_digits 0x32

-- `in_pieces`, with other random bytes: the whole read starts a tap with another padding, and PICCData is another
abbrev pub OtherPadding : Type 0
OtherPadding = data_in (said sealing (ask_data 0 32)) ≡ data_in (said sealing (otherwise (ask_data 0 32))) → ⊥
