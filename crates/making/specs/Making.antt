-- A fresh tag at the C border: the number that each case is answered with, and what the image holds then.
use Rattle.std.specs.Prelude.{List, ◌≡◌, ℕ, ◌+◌, Result, Ok, Err}
use Rattle.base.specs.Decide.{pick}
use Rattle.state.specs.declared.Tag.{Tag}
use Rattle.delivery.specs.declared.WrongUid.{WrongUid}
use Rattle.delivery.specs.Fresh.{born, made_number}
use Rattle.image.specs.Image.{image_of}
use Rattle.image.specs.Answers.{right_length}

-- an image of another length than 684
abbrev pub wrong_image : ℕ
wrong_image = 1005

-- ---- a fresh tag: 0, or 1000 and refusal 4
abbrev pub making_number : Result Tag WrongUid → ℕ
making_number (Ok t) = made_number (Ok t)
making_number (Err e) = 1000 + made_number (Err e)

abbrev pub made_image : List ℕ → Result Tag WrongUid → List ℕ
made_image image (Ok t) = image_of t
made_image image (Err e) = image

pub record Makes (uid image : List ℕ) (r : ℕ) (new : List ℕ) : Type 0 where
  pub number : r ≡ pick (right_length image) (making_number (born uid)) wrong_image
  pub left : new ≡ pick (right_length image) (made_image image (born uid)) image
