use Rattle.std.proofs.Common.{◌≡◌, Fits, w8, rules, arith}
use Rattle.std.specs.Prelude.{◌<◌, unwrap_or}
use Rattle.lines.specs.Hex.{byte_of, digit_of}
use Rattle.lines.proofs.Steps.{digit_below}
use Rattle.lines.proofs.byte.Goals as goal

pub overflow_mul-result : goal.overflow_mul-result
overflow_mul-result c = grind (arith, digit_below c.args.a, c.digit.ensures, c.unwrap_or.ensures)

pub overflow_add-result : goal.overflow_add-result
overflow_add-result c = grind (arith, digit_below c.args.a, digit_below c.args.b, c.digit.ensures, c.digit-2.ensures, c.unwrap_or.ensures, c.unwrap_or-2.ensures)

pub returns : goal.returns
unfolding byte_of
returns c = cc
