-- `key_expansion::next_key` meets its contract: three sums of words behind the first word.
use Rattle.key_expansion.proofs.KeyWords.{next_block}
use Rattle.key_expansion.proofs.next_key.Goals as goal

pub returns : goal.returns
returns c = next_block c.args.k c.args.rc c.first_word-a.result c.first_word-a.ensures
