use mathlib.Core.Path.{refl, sym, ap, ◌∙◌}
use mathlib.Core.List.{append-nil}
use Rattle.forms.proofs.Laying.{writes_more, writes_as}
use Rattle.telling.specs.Exchanges.{exchange_of}
use Rattle.telling.specs.Turns.{played_text}
use Rattle.telling.proofs.Naming.{front_of}
use Rattle.telling.proofs.turn.played.Goals as goal

pub returns-then-unmet : goal.returns-then-unmet
unfolding played_text
returns-then-unmet c =
    let a = c.args in
    let front = ap (λ x. x.now) c.unwrap_or-command.ensures ∙ front_of a.c.now a.n _ _ c.get.ensures.lookup refl in
    let e = writes_as c.exchange.ensures (ap (λ x. exchange_of a.number x a.reply.now) front) in
    rw c.if-unmet.true (writes_more (writes_more (writes_more e c.access_line.ensures) c.blocks_line.ensures) c.unlike.ensures)

pub returns-else-unmet : goal.returns-else-unmet
unfolding played_text
returns-else-unmet c =
    let a = c.args in
    let front = ap (λ x. x.now) c.unwrap_or-command.ensures ∙ front_of a.c.now a.n _ _ c.get.ensures.lookup refl in
    let e = writes_as c.exchange.ensures (ap (λ x. exchange_of a.number x a.reply.now) front) in
    rw c.if-unmet.false (writes_as (writes_more (writes_more e c.access_line.ensures) c.blocks_line.ensures) (sym (append-nil _)))
