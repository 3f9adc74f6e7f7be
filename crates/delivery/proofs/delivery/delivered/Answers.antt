-- `delivery::delivery::delivered` meets its contract.
use mathlib.Core.Path.{refl}
use Rattle.delivery.specs.Fresh.{delivered_files, container}
use Rattle.delivery.proofs.delivery.delivered.Goals as goal

pub returns : goal.returns
unfolding delivered_files container
returns c = rw (
  c.copy_from_slice.ensures.after,
  c.copy_from_slice-2.ensures.after,
  c.copy_from_slice-3.ensures.after,
  c.copy_from_slice-4.ensures.after,
) refl
