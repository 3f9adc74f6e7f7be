use mathlib.Core.Path.{◌≡◌}
use native.Mathlib.Omega.{arith}
use lib.ListN.{get_or}
use mathlib.Core.Bool.{false}
use Rattle.std.proofs.Common.{rules}
use Rattle.forms.proofs.Laying.{going_none, going_more, going_end}
use Rattle.forms.proofs.Forming.{form_next, form_end, numbers_one, flags_one}
use Rattle.forms.proofs.page.Page.append_form.Goals as goal

pub loop-c-init : goal.loop-c-init
loop-c-init c = (omega arith, omega arith, going_none _ _)

pub overflow_add-k : goal.overflow_add-k
overflow_add-k c = omega (arith, c.numbers_of-k.ensures, numbers_one (get_or c.args.form.now c.loop-c.c-index 0))

pub overflow_add-j : goal.overflow_add-j
overflow_add-j c = omega (arith, c.flags_of-j.ensures, flags_one (get_or c.args.form.now c.loop-c.c-index 0))

pub loop-c-preserved : goal.loop-c-preserved
loop-c-preserved c =
    let a = c.args in
    let number : c.unwrap_or.result ≡ get_or a.numbers.now c.loop-c.k 0 = search rules in
    let flag : c.unwrap_or-in-loop-c.result ≡ get_or a.flags.now c.loop-c.j false = search rules in (
      omega (arith, c.numbers_of-k.ensures, numbers_one (get_or a.form.now c.loop-c.c-index 0)),
      omega (arith, c.flags_of-j.ensures, flags_one (get_or a.form.now c.loop-c.c-index 0)),
      going_more c.loop-c.invariant.2 _ _ c.piece.ensures
          (form_next c.loop-c.on a.form.now a.numbers.now a.flags.now c.loop-c.c-index c.loop-c.k c.loop-c.j (omega arith) number
          flag c.stands-on.ensures c.numbers_of-k.ensures c.flags_of-j.ensures),
    )

pub returns : goal.returns
returns c = going_end c.loop-c.invariant.2 (form_end c.loop-c.on c.args.form.now _ _ c.loop-c.c-index (omega arith))
