-- The rights before this one have F.
use Rattle.std.proofs.Common.{◌≡◌, drop}
use Rattle.access.specs.Access.{all_never}
use Rattle.access.proofs.granting.all_never.Given as goal

abbrev pub invariant-loop-right : goal.invariant-loop-right
invariant-loop-right l = all_never l.asked l.h l.file ≡ all_never (drop l.right-index l.asked) l.h l.file
