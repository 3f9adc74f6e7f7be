use Rattle.std.proofs.Common.{rules, arith, ◌≡◌, ◌<◌, ◌+◌, sym, ap, ◌∙◌, false, ◌++◌, length, take, drop, slice_index_or, slice_set}
use mathlib.Core.List.{append-nil}
use mathlib.Core.Path.{ap₂}
use lib.ListN.{length-set, drop_of_length-le}
use lib.Seq.{take_all}
use Rattle.base.specs.Decide.{pick}
use Rattle.fields.specs.Fields.{after, three, fields}
use Rattle.fields.proofs.Cursor.{fields-step, read_more}
use Rattle.fields.proofs.fields.numbers.Goals as goal

pub loop-i-preserved : goal.loop-i-preserved
loop-i-preserved c =
    let s = c.args.s.now in
    let ps = c.args.there in
    let read = c.loop-i.read in
    let at = c.loop-i.at in
    let i = c.loop-i.i in
    let p = slice_index_or ps i false in
    let l : length ps ≡ 8 = search rules in
    let k : i < length read = omega (arith, c.loop-i.invariant.1) in (
      omega arith,
      length-set read i _ ∙ c.loop-i.invariant.1,
      ap₂ (λ v n. take (i + 1) (slice_set read i v) ++ fields s n (drop (i + 1) ps)) c.field.ensures c.step-at.ensures.0
          ∙ read_more read (fields s (after at p) (drop (i + 1) ps)) i (pick p (three s at) 0) k
          ∙ ap (λ x. take i read ++ x) (sym (fields-step s ps i at (omega arith)))
          ∙ c.loop-i.invariant.2,
    )

pub returns : goal.returns
unfolding fields
returns c =
    let s = c.args.s.now in
    let ps = c.args.there in
    let read = c.loop-i.read in
    let i = c.loop-i.i in
    let l : length ps ≡ 8 = search rules in
    sym (append-nil read)
    ∙ ap₂ (λ x y. x ++ fields s c.loop-i.at y) (sym (take_all i read (omega (arith, c.loop-i.invariant.1)))) (sym (drop_of_length-le ps {i = i} (omega arith)))
    ∙ c.loop-i.invariant.2
