use mathlib.Core.Path.{sym}
use Rattle.forms.proofs.Laying.{writes_more}
use borrow.Author.Tests.{lt-ltb, le-ltb}
use Rattle.telling.specs.Exchanges.{no_reply, reply_text}
use Rattle.telling.proofs.exchanges.reply.Goals as goal

pub returns-then-r-lt2 : goal.returns-then-r-lt2
unfolding no_reply reply_text
returns-then-r-lt2 c = rw (lt-ltb _ 2 c.if-r-lt2.true) c.append.ensures

pub returns : goal.returns
unfolding reply_text
returns c =
    rw (le-ltb _ 2 c.if-r-lt2.false, sym c.status_of-status.ensures)
    (writes_more (writes_more c.status_line.ensures c.text_line.ensures) c.settings_refused.ensures)
