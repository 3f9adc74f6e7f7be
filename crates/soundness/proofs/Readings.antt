-- What is judged and read of a state, part by part.
use mathlib.Core.Path.{◌≡◌, refl}
use Rattle.state.specs.declared.Tag.{Tag}
use Rattle.state.specs.State.{reading_in}
use Rattle.soundness.specs.Sound.{sound_tag, judged_tag}

-- the readings are those of the files
pub first_read : (t : Tag) → (judged_tag t).first ≡ reading_in t.files 1
unfolding judged_tag
first_read t = refl

pub second_read : (t : Tag) → (judged_tag t).second ≡ reading_in t.files 2
unfolding judged_tag
second_read t = refl

pub third_read : (t : Tag) → (judged_tag t).third ≡ reading_in t.files 3
unfolding judged_tag
third_read t = refl

-- and the verdict is the state's
pub sound-judged : (t : Tag) → (judged_tag t).sound ≡ sound_tag t
unfolding judged_tag
sound-judged t = refl
