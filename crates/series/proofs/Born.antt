-- A fresh tag is sound, and stays so in any series of calls.
use mathlib.Core.Path.{◌≡◌, refl}
use mathlib.Core.Bool.{true}
use mathlib.Core.List.{List}
use Prim.Native.Nat.{ℕ, zero, suc}
use lib.Dec.{eqb, lit<}
use lib.ListN.{length, replicate}
use Rattle.base.specs.Bytes.{byte_at, AllBytes}
use Rattle.base.proofs.Bytes.{and_right}
use Rattle.state.specs.State.{no_live}
use Rattle.delivery.specs.Fresh.{delivered_files, fresh_tag, right_uid}
use Rattle.soundness.specs.Sound.{sound_tag}
use Rattle.series.specs.Series.{Asked, after, Typed}
use Rattle.series.proofs.Computing.{soundness, a_fresh_tag}
use Rattle.series.proofs.Soundness.{sound_series}

pub zeros-bytes : (n : ℕ) → AllBytes (replicate n 0)
unfolding AllBytes
zeros-bytes zero i = lit< tt
zeros-bytes (suc n) zero = lit< tt
zeros-bytes (suc n) (suc i) = zeros-bytes n i

pub fresh_typed : (uid : List ℕ) → Typed (fresh_tag uid)
unfolding fresh_tag delivered_files no_live
fresh_typed uid = record { rules = refl; lens = refl; enc = record { len = refl; bytes = zeros-bytes 16 } }

pub fresh_sound : (uid : List ℕ) → right_uid uid ≡ true → sound_tag (fresh_tag uid) ≡ true
unfolding right_uid soundness a_fresh_tag
fresh_sound uid e = rw (and_right (eqb (length uid) 7) (eqb (byte_at uid 0) 4) e) refl

pub fresh_series : (uid : List ℕ) → right_uid uid ≡ true → (asked : List Asked) → sound_tag (after (fresh_tag uid) asked) ≡ true
fresh_series uid e asked = sound_series (fresh_tag uid) (fresh_typed uid) (fresh_sound uid e) asked
