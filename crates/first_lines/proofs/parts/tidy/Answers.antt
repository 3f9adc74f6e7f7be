-- `first_lines::parts::tidy` meets its contract.
use mathlib.Core.Path.{refl, sym, ap, ◌∙◌}
use lib.ListN.{length}
use mathlib.Core.List.{[], ◌∷◌}
use Rattle.base.specs.Bytes.{laid}
use Rattle.base.proofs.Bytes.{none, more, laid-length}
use Rattle.first_lines.specs.Said.{tidied}
use Rattle.first_lines.proofs.Tidying.{tidied-blank, tidied_other, tidied_full, tidied-whole, held, renamed}
use native.Mathlib.Omega.{arith}
use Rattle.first_lines.proofs.parts.tidy.Goals as goal

pub loop-c-init : goal.loop-c-init
unfolding tidied
loop-c-init c = (refl, none _, omega arith)

pub loop-c-preserved-then-is_blank : goal.loop-c-preserved-then-is_blank
loop-c-preserved-then-is_blank c = (
  c.loop-c.invariant.0,
  renamed c.loop-c.invariant.1 (tidied-blank c.args.line.now c.loop-c.c-index (omega arith) (sym c.is_blank.ensures ∙ c.if-is_blank.true)),
  c.loop-c.invariant.2,
)

pub returns-then-n-room : goal.returns-then-n-room
returns-then-n-room c =
    let h = held c.loop-c.invariant.1 (tidied_full c.args.line.now c.loop-c.c-index
    (sym c.loop-c.invariant.1.len ∙ c.if-n-room.true ∙ c.loop-c.invariant.0)) in
    record { count = h.0; left = h.1 }

pub loop-c-preserved : goal.loop-c-preserved
loop-c-preserved c = (
  ap length c.put.ensures ∙ laid-length _ _ _ ∙ c.loop-c.invariant.0,
  renamed (more c.loop-c.invariant.1 (_ ∷ []) _ (omega (arith, c.if-n-room.false, c.loop-c.invariant.0, c.loop-c.invariant.2))
      (c.put.ensures ∙ ap (λ v. laid (v ∷ []) c.loop-c.n c.loop-c.room) c.capital.ensures))
      (tidied_other c.args.line.now c.loop-c.c-index (omega arith) (sym c.is_blank.ensures ∙ c.if-is_blank.false)),
  omega (arith, c.if-n-room.false, c.loop-c.invariant.0, c.loop-c.invariant.2),
)

pub returns : goal.returns
returns c =
    let h = held c.loop-c.invariant.1 (tidied-whole c.args.line.now c.loop-c.c-index {l = length c.args.room.now}
    (omega arith) (omega (arith, c.loop-c.invariant.1.len, c.loop-c.invariant.2))) in
    record { count = h.0; left = h.1 }
