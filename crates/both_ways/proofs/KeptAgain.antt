-- A tag that was kept is what the next run starts from.
use mathlib.Core.Path.{◌≡◌, ap, ◌∙◌}
use mathlib.Core.Bool.{true}
use Rattle.std.specs.Prelude.{Ok, Err}
use Rattle.base.specs.Decide.{pick}
use Rattle.base.proofs.Bytes.{same_refl}
use Rattle.state.specs.declared.Tag.{Tag}
use Rattle.soundness.specs.Sound.{sound_tag}
use Rattle.image.specs.Image.{image_of}
use Rattle.image.proofs.Shapes.{Shaped}
use Rattle.keeping.specs.declared.NoStart.TheVariants.{Unsound, OtherUid}
use Rattle.keeping.specs.Keep.{earlier, not_kept, kept_by, kept_in}
use Rattle.both_ways.proofs.Roundtrip.{image_whole}

-- a sound tag whose image was written is what the next run starts from
pub kept_again : (t : Tag) → Shaped t → sound_tag t ≡ true → kept_in (image_of t) t.uid ≡ Ok t
unfolding kept_in kept_by
kept_again t h e =
    ap (λ r. kept_by r (earlier (image_of t)) t.uid) (image_whole t h)
    ∙ (λ i. pick (e i) (pick (same_refl t.uid i) (Ok t) (Err (not_kept OtherUid t))) (Err (not_kept Unsound t)))
