use Prim.Native.Nat.{ℕ, ◌/◌}
use lib.ListN.{length}
use mathlib.Core.Path.{◌≡◌, refl, ap, ◌∙◌}
use borrow.Author.Tests.{eq-eqb, ne_eqb, le-leb}
use Rattle.std.specs.Prelude.{is_ok, Result, Ok, Err}
use Rattle.base.specs.Decide.{pick, and}
use Rattle.base.specs.Bytes.{over}
use mathlib.Core.Bool.{Bool, true, false}
use mathlib.Core.List.{List}
use Rattle.lines.specs.Hex.{is_hex, bytes_of, decoded, decoded_room}
use Rattle.first_lines.specs.Said.{good_bytes, bytes_room}
use native.Mathlib.Omega.{arith}
use Rattle.first_lines.proofs.parts.bytes_given.Goals as goal

ok_of : {E : Type 0} (t : Bool) (n : ℕ) (e : E) → is_ok (pick {A = Result ℕ E} t (Ok n) (Err e)) ≡ t
ok_of true n e = refl
ok_of false n e = refl

alone : (t : Bool) (a b : List ℕ) → pick (and t true) a b ≡ pick t a b
alone true a b = refl
alone false a b = refl

pub returns-then-s-room : goal.returns-then-s-room
unfolding good_bytes bytes_room decoded decoded_room
returns-then-s-room c =
    let s = c.args.s.now in
    let fits = le-leb (length s / 2) (length c.args.room.now) (omega arith) in
    record {
      answer = rw (eq-eqb _ _ c.if-s-room.true) (c.is_ok.ensures.value ∙ ap is_ok c.decode.ensures.answer ∙ rw fits (ok_of _ _ _));
      left = rw (eq-eqb _ _ c.if-s-room.true) (c.decode.ensures.left ∙ rw fits (alone (is_hex s) (over (bytes_of s) c.args.room.now) c.args.room.now));
    }

pub returns-else-s-room : goal.returns-else-s-room
unfolding good_bytes bytes_room
returns-else-s-room c = record { answer = rw (ne_eqb _ _ c.if-s-room.false) refl; left = rw (ne_eqb _ _ c.if-s-room.false) refl }
