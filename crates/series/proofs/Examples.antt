-- 01's examples marked † (specs/Worked.antt) hold: each side computes to the other.
use mathlib.Core.Path.{refl}
use mathlib.Core.List.{List}
use Prim.Native.Nat.{ℕ}
use Rattle.meanings.proofs.Examples.{shown}
use Rattle.series.specs.Worked.{select_application, select_file, settings_of, read_third, in_application, on_second, Examples}
use Rattle.series.proofs.Computing.{a_call, a_fresh_tag}

pub examples : (uid random : List ℕ) → Examples uid random
unfolding a_call a_fresh_tag select_application select_file settings_of read_third in_application on_second
examples uid random =
    record {
      select_application_replies = refl;
      select_file_replies = refl;
      read_over = refl;
      read_past = refl;
      settings_2 = refl;
      settings_3 = refl;
      read_third_replies = refl;
      string-normal = shown.normal_67;
      mac_at_64 = shown.good_64;
      mac_at_63 = shown.bad_63;
    }
