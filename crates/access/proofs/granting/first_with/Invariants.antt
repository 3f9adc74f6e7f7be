-- The rights before this one have another condition.
use Rattle.std.proofs.Common.{◌≡◌, drop}
use Rattle.access.specs.Access.{first_with}
use Rattle.access.proofs.granting.first_with.Given as goal

abbrev pub invariant-loop-right : goal.invariant-loop-right
invariant-loop-right l = first_with l.c l.asked l.h ≡ first_with l.c (drop l.right-index l.asked) l.h
