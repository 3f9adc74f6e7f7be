-- `wrapped::wrapped` meets its contract: by what the message opens to.
use mathlib.Core.Path.{sym, ap, ◌∙◌}
use lib.Seq.{length-take-le}
use native.Mathlib.Omega.{arith}
use native.Mathlib.Nat.{le_trans}
use Rattle.replies.specs.Answer.{answer_of, costing, refusal}
use Rattle.replies.proofs.Equal.{gives_as}
use Rattle.wrapped.proofs.Costs.{own_few}
use Rattle.wrapped.proofs.Wrapping.{opened_short, opened_few, wrapped_served, wrapped_refused}
use Rattle.wrapped.proofs.wrapped.Goals as goal

pub slice_bounds-plain-end : goal.slice_bounds-plain-end
slice_bounds-plain-end c =
    let a = c.args in
    omega (arith, opened_short a.tag a.k a.r a.d a.x.now a.random c.session_of-session.ensures c.open-opened.ensures (omega arith) _ c.in-Ok.is)

pub slice_bounds-own-end : goal.slice_bounds-own-end
slice_bounds-own-end c =
    let a = c.args in
    sym (length-take-le _ _ (opened_short a.tag a.k a.r a.d a.x.now a.random c.session_of-session.ensures c.open-opened.ensures (omega arith) _ c.in-Ok.is))

pub costed-requires : goal.costed-requires
unfolding answer_of
costed-requires c =
    let a = c.args in
    let d = c.own.ensures in (
      d.short,
      rw (ap (λ y. y.cost) d.says) (le_trans (own_few a.k.name a.tag a.k a.r a.d _ a.random c.requires) (omega arith)),
      le_trans (opened_few a.tag a.k a.r a.d a.x.now a.random c.session_of-session.ensures c.open-opened.ensures (omega arith)) (omega arith),
    )

pub costed-requires-in-Err : goal.costed-requires-in-Err
unfolding answer_of refusal
costed-requires-in-Err c =
    let a = c.args in
    let d = c.refuse.ensures in (
      d.short,
      omega (arith, ap (λ y. y.cost) d.says),
      le_trans (opened_few a.tag a.k a.r a.d a.x.now a.random c.session_of-session.ensures c.open-opened.ensures (omega arith)) (omega arith),
    )

pub returns-in-Ok : goal.returns-in-Ok
returns-in-Ok c =
    let a = c.args in
    let o = c.open-opened in
    gives_as c.costed.ensures (ap (costing o.result.cost) c.own.ensures.says
    ∙ wrapped_served a.tag a.k a.r a.d a.x.now a.random c.session_of-session.ensures o.ensures (omega arith) _ c.in-Ok.is)

pub returns-in-Err : goal.returns-in-Err
returns-in-Err c =
    let a = c.args in
    let o = c.open-opened in
    gives_as c.costed-in-Err.ensures (ap (costing o.result.cost) c.refuse.ensures.says
    ∙ wrapped_refused a.tag a.k a.r a.d a.x.now a.random c.session_of-session.ensures o.ensures (omega arith) _ _ c.in-Err.is c.refused.ensures)
