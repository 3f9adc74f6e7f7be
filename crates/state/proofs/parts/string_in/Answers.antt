-- `state::parts::string_in` meets its contract.
use Rattle.state.proofs.Strings.{string-from}
use Rattle.state.proofs.parts.string_in.Goals as goal

pub returns : goal.returns
returns c = let a = c.args in string-from a.rules.now a.lens a.n _ _ c.slot_of-i.ensures c.string_len.ensures
