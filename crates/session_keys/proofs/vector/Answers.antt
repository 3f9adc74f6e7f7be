-- `session_keys::vector` meets its contract: five pieces fill the buffer.
use Rattle.base.specs.Bytes.{laid}
use Rattle.session_keys.specs.Keys.{context, sum, bytes_down}
use Rattle.base.proofs.Pieces.{also, full, tab_of}
use Rattle.base.proofs.Bytes.{none}
use native.Mathlib.Omega.{arith}
use lib.ListN.{length, take, drop, length-take, length-drop}
use mathlib.Core.Path.{◌≡◌, ap, ap₂, ◌∙◌}
use mathlib.Core.List.{[], ◌∷◌}
use borrow.Author.Rules.{rules}
use Rattle.session_keys.proofs.vector.Goals as goal

pub slice_bounds-put-end-3 : goal.slice_bounds-put-end-3
slice_bounds-put-end-3 c = let l : length c.args.a ≡ 16 = search rules in simp length-take (omega arith)

pub returns : goal.returns
unfolding context
returns c =
    let a = c.args.a in
    let b = c.args.b in
    let l : length a ≡ 16 = search rules in
    let m : length b ≡ 16 = search rules in
    full (also (also (also (also (also (none _) (c.args.l ∷ c.args.m ∷ 0 ∷ 1 ∷ 0 ∷ 128 ∷ []) 6 (omega arith) (omega arith) c.put.ensures)
    (take 2 a) 8 (simp length-take (omega arith)) (omega arith) c.put-2.ensures) (sum 6 (bytes_down a 13 8) (bytes_down b 15 10)) 14 (omega arith)
    (omega arith) (c.put-3.ensures ∙ ap (λ s. laid s 8 c.put-2.new.dst)
    (ap₂ (λ x y. sum 6 (bytes_down x 13 8) (bytes_down y 15 10)) (tab_of 16 a l) (tab_of 16 b m)))) (take 10 (drop 6 b)) 24
    (simp (length-take, length-drop) (omega arith)) (omega arith) c.put-4.ensures) (take 8 (drop 8 a)) 32 (simp (length-take, length-drop) (omega arith))
    (omega arith) c.put-5.ensures) (omega arith)
