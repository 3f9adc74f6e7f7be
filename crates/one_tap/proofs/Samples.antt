-- The samples (specs/Samples.antt): each side computes to the other.
use mathlib.Core.Bool.{Bool, true, false}
use mathlib.Core.Logic.{inl, inr}
use mathlib.Core.Path.{refl}
use Rattle.series.specs.Series.{accepting, accepts}
use Rattle.series.specs.Worked.{settings_of}
use Rattle.series.proofs.Computing.{a_call, soundness, a_tap, its_mirrors, its_rules}
use Rattle.demands.specs.Talks.{said, said_all}
use Rattle.demands.proofs.Samples.{a_sample}
use Rattle.one_tap.specs.OneTap.{asks_read, from_of, count_of, OfTap, data_in, Pieces, gathered}
use Rattle.one_tap.specs.Samples.{with_string, counting, in_session, ask_data, ask_binary, otherwise, cramped, six_digits, Met, NoTap, NotRunning, NotOneTap, NotInPieces}

-- the words of these samples
unfoldable pub a_tap-sample : Bool
unfolding
    a_sample a_call soundness a_tap its_mirrors its_rules with_string counting in_session ask_data ask_binary otherwise cramped six_digits
    asks_read from_of count_of data_in said accepting accepts settings_of
a_tap-sample = true

pub met_by_data : Met ask_data false
unfolding a_tap-sample OfTap Pieces
met_by_data =
    record {
      starts = record { reads = record { asks = refl; accepted = refl }; free = refl; sdm = refl };
      then = (inr refl, (inl (record { asks = refl; accepted = refl }), tt));
      later = record { asks = refl; accepted = refl };
      shows = refl;
      pieces = (record { asks = refl; accepted = refl }, (refl, (record { asks = refl; accepted = refl }, (refl, refl))));
      whole = record { asks = refl; accepted = refl };
    }

pub met_by_binary : Met ask_binary true
unfolding a_tap-sample OfTap Pieces
met_by_binary =
    record {
      starts = record { reads = record { asks = refl; accepted = refl }; free = refl; sdm = refl };
      then = (inr refl, (inl (record { asks = refl; accepted = refl }), tt));
      later = record { asks = refl; accepted = refl };
      shows = refl;
      pieces = (record { asks = refl; accepted = refl }, (refl, (record { asks = refl; accepted = refl }, (refl, refl))));
      whole = record { asks = refl; accepted = refl };
    }

pub no_tap_runs : NoTap
unfolding a_tap-sample
no_tap_runs =
    record {
      session = record { asks = refl; accepted = refl };
      stored = refl;
      no_tap_runs = refl;
      off = record { asks = refl; accepted = refl };
      none = refl;
    }

pub not_running : NotRunning
unfolding a_tap-sample OfTap
not_running = record { rests = refl; reads = (inl (record { asks = refl; accepted = refl }), tt); before = refl; raised = refl }

pub not_one_tap : NotOneTap
unfolding a_tap-sample
not_one_tap = record { first = refl; command = refl; other = refl; refused = refl }

pub not_in_pieces : NotInPieces
unfolding a_tap-sample gathered said_all
not_in_pieces = record { whole = refl; gap = refl; part = refl; other_tap = refl }
