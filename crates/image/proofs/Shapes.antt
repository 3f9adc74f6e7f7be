-- The shape of a state, as the code's types give it, and the widths of its image's pieces.
use mathlib.Core.Path.{◌≡◌}
use mathlib.Core.List.{[], ◌∷◌}
use Prim.Native.Nat.{◌<◌}
use lib.ListN.{length}
use Rattle.base.specs.Bytes.{low}
use Rattle.state.specs.declared.Files.{Files}
use Rattle.state.specs.declared.Secrets.{Secrets}
use Rattle.state.specs.declared.Live.{Live}
use Rattle.state.specs.declared.Pending.{Pending}
use Rattle.state.specs.declared.Tapping.{Tapping}
use Rattle.state.specs.declared.Tag.{Tag}
use Rattle.image.specs.Image.{file_pieces, secret_pieces, live_pieces, pending_pieces, tap_pieces}
use Rattle.image.proofs.Pieces.{lengths}

-- ---- each array has its length, and the counters fit
pub record FilesShaped (f : Files) : Type 0 where
  pub bytes : length f.bytes ≡ 416
  pub rules : length f.rules ≡ 81
  pub lens : length f.lens ≡ 3

pub record SecretsShaped (s : Secrets) : Type 0 where
  pub keys : length s.keys ≡ 80
  pub versions : length s.versions ≡ 5

pub record LiveShaped (l : Live) : Type 0 where
  pub enc : length l.enc ≡ 16
  pub mac : length l.mac ≡ 16
  pub ti : length l.ti ≡ 4
  pub counter : l.counter < 65536

pub record PendingShaped (p : Pending) : Type 0 where
  pub rnd : length p.rnd_b ≡ 16
  pub cap : length p.cap ≡ 6
  pub ti : length p.ti ≡ 4
  pub counter : p.counter < 65536

pub record TapShaped (t : Tapping) : Type 0 where
  pub counter : t.counter < 4294967296
  pub padding : length t.padding ≡ 12

pub record Shaped (t : Tag) : Type 0 where
  pub uid : length t.uid ≡ 7
  pub files : FilesShaped t.files
  pub secrets : SecretsShaped t.secrets
  pub live : LiveShaped t.live
  pub pending : PendingShaped t.pending
  pub tap : TapShaped t.tap

-- ---- the widths
pub file_widths : (f : Files) (h : FilesShaped f) → lengths (file_pieces f) ≡ 416 ∷ 81 ∷ 3 ∷ []
file_widths f h = λ i. h.bytes i ∷ h.rules i ∷ h.lens i ∷ []

pub secret_widths : (s : Secrets) (h : SecretsShaped s) → lengths (secret_pieces s) ≡ 80 ∷ 5 ∷ []
secret_widths s h = λ i. h.keys i ∷ h.versions i ∷ []

pub live_widths : (l : Live) (h : LiveShaped l) → lengths (live_pieces l) ≡ 2 ∷ 16 ∷ 16 ∷ 4 ∷ 2 ∷ []
unfolding low
live_widths l h = λ i. 2 ∷ h.enc i ∷ h.mac i ∷ h.ti i ∷ 2 ∷ []

pub pending_widths : (l : Pending) (h : PendingShaped l) → lengths (pending_pieces l) ≡ 3 ∷ 16 ∷ 6 ∷ 4 ∷ 2 ∷ []
unfolding low
pending_widths l h = λ i. 3 ∷ h.rnd i ∷ h.cap i ∷ h.ti i ∷ 2 ∷ []

pub tap_widths : (t : Tapping) (h : TapShaped t) → lengths (tap_pieces t) ≡ 2 ∷ 4 ∷ 12 ∷ []
unfolding low
tap_widths t h = λ i. 2 ∷ 4 ∷ h.padding i ∷ []
