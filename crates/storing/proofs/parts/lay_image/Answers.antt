-- `storing::parts::lay_image` meets its contract.
use mathlib.Core.List.{[], ◌∷◌}
use mathlib.Core.Path.{◌∙◌}
use Rattle.image.specs.Image.{image_version, join, image_of}
use Rattle.storing.proofs.Little.{flag_of}
use Rattle.storing.proofs.parts.lay_image.Goals as goal

pub returns : goal.returns
unfolding image_of
returns c =
    let t = c.args.t in
    c.joined.ensures
    ∙ (λ i. join ((image_version ∷ []) ∷ t.uid ∷ c.file_bytes-files.ensures i ∷ c.secret_bytes-secrets.ensures i ∷ c.live_bytes-live.ensures i
    ∷ c.pending_bytes-pending.ensures i ∷ (flag_of t.place.application _ c.from.ensures i ∷ t.place.file ∷ []) ∷ c.tap_bytes-tap.ensures i ∷ []))
