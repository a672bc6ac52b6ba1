-- `columns::refusal::wrong_length` meets its contract. Assumes nothing.
use Rattle.columns.proofs.CheckRules.{pairs_refused, pairs_done}
use Rattle.columns.proofs.refusal.wrong_length.Goals as goal

pub returns-in-Some : goal.returns-in-Some
returns-in-Some c = pairs_refused _ _ _ _ c.bad_pair.ensures _ _ c.in-Some.is

pub returns-in-None : goal.returns-in-None
returns-in-None c = pairs_done _ _ _ _ c.bad_pair.ensures c.in-None.is
