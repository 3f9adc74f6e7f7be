use mathlib.Core.Path.{sym}
use Rattle.forms.proofs.Laying.{writes_none}
use borrow.Author.Tests.{eq-eqb, ne_eqb}
use Rattle.telling.specs.Exchanges.{refused_text, refused_of}
use Rattle.telling.proofs.exchanges.settings_refused.Goals as goal
use Rattle.telling.proofs.exchanges.settings_refused.Goals.{else-at-eq144-via-then-at-eq144+then-at-eq95+else-status-ne37120, else-at-eq144-via-then-at-eq144+else-at-eq95, else-at-eq144-via-else-at-eq144}

pub returns-then-status-ne37120 : goal.returns-then-status-ne37120
unfolding refused_text refused_of
returns-then-status-ne37120 c =
    rw (sym c.at.ensures, eq-eqb _ _ c.if-at-eq144.true, sym c.at-then-at-eq144.ensures, eq-eqb _ _ c.if-at-eq95.true, ne_eqb _ _ c.if-status-ne37120.true)
    c.append.ensures

pub returns-else-at-eq144 : goal.returns-else-at-eq144
unfolding refused_of
returns-else-at-eq144 c =
    elim c.else-at-eq144.branch [
      | else-at-eq144-via-then-at-eq144+then-at-eq95+else-status-ne37120 w ↦
          rw (sym c.at.ensures, eq-eqb _ _ w.if-at-eq144.true, sym w.at-then-at-eq144.ensures, eq-eqb _ _ w.if-at-eq95.true, eq-eqb _ _ w.if-status-ne37120.false) (writes_none _)
      | else-at-eq144-via-then-at-eq144+else-at-eq95 w ↦
          rw (sym c.at.ensures, eq-eqb _ _ w.if-at-eq144.true, sym w.at-then-at-eq144.ensures, ne_eqb _ _ w.if-at-eq95.false) (writes_none _)
      | else-at-eq144-via-else-at-eq144 w ↦ rw (sym c.at.ensures, ne_eqb _ _ w.if-at-eq144.false) (writes_none _)
    ]
