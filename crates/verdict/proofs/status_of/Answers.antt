use borrow.Author.Tests.{le-ltb}
use Rattle.base.proofs.Bytes.{tests}
use Rattle.verdict.specs.Replies.{status_in}
use Rattle.verdict.proofs.status_of.Goals as goal

pub returns-then-reply-lt2 : goal.returns-then-reply-lt2
unfolding status_in
returns-then-reply-lt2 c = search tests

pub returns : goal.returns
unfolding status_in
returns c = rw (le-ltb _ _ c.if-reply-lt2.false) c.from_be_bytes.ensures
