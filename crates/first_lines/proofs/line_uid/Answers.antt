-- `first_lines::line_uid` meets its contract.
use Prim.Native.Nat.{◌≤◌}
use mathlib.Core.Bool.{true, false}
use mathlib.Core.List.{List}
use Prim.Native.Nat.{ℕ}
use Rattle.std.specs.Prelude.{Some}
use Rattle.base.specs.Bytes.{over}
use Rattle.lines.specs.Lines.{seek}
use Rattle.first_lines.specs.Said.{tidied, said, good_bytes, bytes_room, uid_in}
use Rattle.first_lines.proofs.Tidying.{seen, seen-fits, cut_good, cut_bytes, whole}
use mathlib.Core.Path.{◌≡◌, refl, sym, ap, ◌∙◌}
use lib.ListN.{length, take, replicate, length-take}
use Rattle.lines.proofs.Steps.{seek_within}
use native.Mathlib.Omega.{arith}
use borrow.Author.Rules.{rules}
use Rattle.first_lines.proofs.line_uid.Goals as goal

pub slice_bounds-tidy-end : goal.slice_bounds-tidy-end
slice_bounds-tidy-end c = let w = seek_within c.args.line.now 0 35 (omega arith) in simp length-take (omega (arith, c.find-e.ensures))

pub slice_bounds-q-end : goal.slice_bounds-q-end
slice_bounds-q-end c =
    let l = take c.find-e.result c.args.line.now in
    let h : c.tidy-n.result ≤ 1700 = seen-fits l (replicate 1700 0) refl c.tidy-n.ensures.count in
    let k : length c.tidy-n.new.room ≡ 1700 = search rules in
    omega arith

pub slice_bounds-bytes_given-end : goal.slice_bounds-bytes_given-end
slice_bounds-bytes_given-end c =
    let l = take c.find-e.result c.args.line.now in
    let h : c.tidy-n.result ≤ 1700 = seen-fits l (replicate 1700 0) refl c.tidy-n.ensures.count in
    let k : length c.tidy-n.new.room ≡ 1700 = search rules in
    simp length-take (omega arith)

-- the text that was given is what the line says
given : (s l : List ℕ) (n : ℕ) (q : List ℕ) → l ≡ take (seek s 0 35) s → n ≡ length (take 1700 (tidied l)) → q ≡ over (take 1700 (tidied l)) (replicate 1700 0)
    → take n q ≡ take 1700 (said s)
unfolding said
given s l n q el en eq = seen l (replicate 1700 0) refl en eq ∙ ap (λ x. take 1700 (tidied x)) el

pub returns-then-bytes_given : goal.returns-then-bytes_given
unfolding uid_in
returns-then-bytes_given c =
    let s = c.args.line.now in
    let t = given s _ _ _ (ap (λ e. take e s) c.find-e.ensures) c.tidy-n.ensures.count c.tidy-n.ensures.left in
    let good : good_bytes 7 (said s) ≡ true = sym (cut_good 7 (omega arith) (said s)) ∙ ap (good_bytes 7) (sym t) ∙ sym c.bytes_given.ensures.answer ∙ c.if-bytes_given.true in
    let room = c.bytes_given.ensures.left ∙ ap (λ x. bytes_room x (replicate 7 0)) t ∙ cut_bytes (replicate 7 0) (omega arith) (said s) in
    rw good (ap Some (room ∙ whole (said s) (replicate 7 0) refl good))

pub returns-else-bytes_given : goal.returns-else-bytes_given
unfolding uid_in
returns-else-bytes_given c =
    let s = c.args.line.now in
    let t = given s _ _ _ (ap (λ e. take e s) c.find-e.ensures) c.tidy-n.ensures.count c.tidy-n.ensures.left in
    let good : good_bytes 7 (said s) ≡ false = sym (cut_good 7 (omega arith) (said s)) ∙ ap (good_bytes 7) (sym t) ∙ sym c.bytes_given.ensures.answer ∙ c.if-bytes_given.false in
    rw good refl
