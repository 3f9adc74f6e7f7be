use Rattle.std.proofs.Common.{rules, arith, ◌≡◌, ◌≤◌, ◌+◌, ◌-◌, refl, sym, ap, ◌∙◌, true, false, length, take, drop, slice_index_or}
use lib.ListN.{drop_of_length-le}
use Rattle.spans.specs.declared.Span.{Span}
use Rattle.spans.specs.Spans.{apart_from, all_apart}
use Rattle.spans.proofs.Pairs.{from_step, all_step}
use Rattle.spans.proofs.all_apart.Goals as goal

abbrev none : Span
none = record { present = false; start = 0; size = 0 }

pub loop-b-preserved : goal.loop-b-preserved
loop-b-preserved c =
    let s = c.args.spans in
    let i = c.pairs.i in
    let rest = take (5 - (i + 1)) (drop (i + 1) s) in
    let j = c.loop-b.b-index in (
      c.if-not-clear.false,
      sym (from_step (slice_index_or s i none) none rest j c.loop-b-test.true ∙ rw (sym c.are_apart-clear.ensures ∙ c.if-not-clear.false) refl) ∙ c.loop-b.invariant.1,
    )

pub pairs-preserved : goal.pairs-preserved
unfolding apart_from
pairs-preserved c =
    let s = c.args.spans in
    let i = c.pairs.i in
    let l : length s ≡ 5 = search rules in
    let rest = take (5 - (i + 1)) (drop (i + 1) s) in
    let j = c.loop-b.b-index in
    let b : length rest ≤ j = omega (arith, c.loop-b-test.false) in
    let e : apart_from (slice_index_or s i none) rest ≡ true = sym c.loop-b.invariant.1 ∙ rw (drop_of_length-le rest {i = j} b) refl in (
      c.loop-b.invariant.0,
      sym (all_step none s i 5 (omega arith) (omega arith) ∙ rw e refl) ∙ c.pairs.invariant.1,
    )

pub returns-after-pairs : goal.returns-after-pairs
unfolding all_apart
returns-after-pairs c =
    let s = c.args.spans in
    let l : length s ≡ 5 = search rules in
    let p = c.pairs in
    p.invariant.0 ∙ sym (ap all_apart (drop_of_length-le s {i = p.i} (omega arith))) ∙ p.invariant.1

pub returns-then-not-clear : goal.returns-then-not-clear
returns-then-not-clear c =
    let s = c.args.spans in
    let i = c.pairs.i in
    let l : length s ≡ 5 = search rules in
    let rest = take (5 - (i + 1)) (drop (i + 1) s) in
    let j = c.loop-b.b-index in
    let a = slice_index_or s i none in
    let e : apart_from a rest ≡ false = sym c.loop-b.invariant.1 ∙ from_step a none rest j c.loop-b-test.true ∙ rw (sym c.are_apart-clear.ensures ∙ c.if-not-clear.true) refl in
    c.if-not-clear.true ∙ sym (sym c.pairs.invariant.1 ∙ all_step none s i 5 (omega arith) (omega arith) ∙ rw e refl)
