use Rattle.std.proofs.Common.{◌≡◌, drop}
use Rattle.rules.specs.Rules.{fields_fit}
use Rattle.rules.proofs.fits.all_fit.Given as goal

abbrev pub invariant-loop-i : goal.invariant-loop-i
invariant-loop-i l = fields_fit (drop l.i l.fn.there) (drop l.i l.fn.numbers) ≡ fields_fit l.fn.there l.fn.numbers
