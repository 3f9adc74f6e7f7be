-- The mode of a file is read from the number that it has in FileOption.
use mathlib.Core.Path.{◌≡◌, refl}
use Rattle.messaging.specs.declared.Mode.{Mode}
use Rattle.messaging.specs.declared.Mode.TheVariants.{Plain, Mac, Full}
use Rattle.messaging.specs.Protect.{mode_number}
use Rattle.access.specs.Access.{file_mode}

pub file-mode-number : (m : Mode) → file_mode (mode_number m) ≡ m
unfolding file_mode mode_number
file-mode-number Plain = refl
file-mode-number Mac = refl
file-mode-number Full = refl
