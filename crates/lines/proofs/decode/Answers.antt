use mathlib.Core.Path.{◌≡◌, refl, sym, ap₂, ◌∙◌}
use mathlib.Core.List.{◌++◌}
use native.Mathlib.Omega.{arith}
use borrow.Author.Tests.{le-leb, lt-leb}
use Prim.Native.Nat.{◌/◌}
use lib.ListN.{length, take, drop}
use lib.Seq.{length-take-le}
use Rattle.lines.specs.Hex.{decoded, decoded_room}
use Rattle.lines.proofs.Steps.{bytes_half, hex_even}
use Rattle.lines.proofs.decode.Goals as goal

pub fill-requires : goal.fill-requires
fill-requires c =
    let n = length c.args.text.now / 2 in
    let e = hex_even c.args.text.now (sym c.is_hex.ensures ∙ c.if-not-is_hex.false) in
    let l : length (take n c.args.room.now) ≡ n = length-take-le n c.args.room.now c.if-room-n.false in
    omega arith

pub returns-then-not-is_hex : goal.returns-then-not-is_hex
unfolding decoded decoded_room
returns-then-not-is_hex c =
    let none = sym c.is_hex.ensures ∙ c.if-not-is_hex.true in
    record { answer = rw none refl; left = rw none refl; number = rw none refl }

pub returns-then-room-n : goal.returns-then-room-n
unfolding decoded decoded_room
returns-then-room-n c =
    let hex = sym c.is_hex.ensures ∙ c.if-not-is_hex.false in
    let small = lt-leb _ _ c.if-room-n.true in
    record { answer = rw (hex, small) refl; left = rw (hex, small) refl; number = rw (hex, small) refl }

pub returns : goal.returns
unfolding decoded decoded_room
returns c =
    let hex = sym c.is_hex.ensures ∙ c.if-not-is_hex.false in
    let fits = le-leb _ _ c.if-room-n.false in
    record {
      answer = rw (hex, fits) refl;
      left = rw (hex, fits) (ap₂ (λ b k. b ++ drop k c.args.room.now) c.fill.ensures (sym (bytes_half c.args.text.now hex)));
      number = rw (hex, fits) refl;
    }
