use mathlib.Core.Path.{refl, ap₂, ◌∙◌}
use Prim.Native.Nat.{◌*◌}
use mathlib.Core.List.{[], ◌∷◌}
use native.Mathlib.Omega.{arith}
use borrow.Author.Tests.{le-leb, lt-leb}
use Rattle.base.specs.Bytes.{laid}
use Rattle.lines.specs.Hex.{chars_of, chars_room}
use Rattle.lines.proofs.Steps.{chars_more, chars_all}
use Rattle.lines.proofs.encode.Goals as goal

pub returns-then-room-s : goal.returns-then-room-s
unfolding chars_room
returns-then-room-s c = rw (lt-leb _ _ c.if-room-s.true) refl

pub loop-i-init : goal.loop-i-init
unfolding chars_of
loop-i-init c = (omega arith, refl, refl)

pub loop-i-preserved : goal.loop-i-preserved
loop-i-preserved c = (
  c.loop-i.invariant.0,
  c.put.auto.dst ∙ c.loop-i.invariant.1,
  chars_more c.args.s.now c.args.room.now c.loop-i.room _ c.loop-i.i c.loop-i-test.true c.loop-i.invariant.0 c.loop-i.invariant.2
      (c.put.ensures ∙ ap₂ (λ a b. laid (a ∷ b ∷ []) (c.loop-i.i * 2) c.loop-i.room) c.character.ensures c.character-in-loop-i.ensures),
)

pub returns : goal.returns
unfolding chars_room
returns c = rw (le-leb _ _ c.if-room-s.false) (c.loop-i.invariant.2 ∙ chars_all c.args.s.now c.args.room.now c.loop-i.i (omega arith))
