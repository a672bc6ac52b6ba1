-- `hall::cases::case4` meets its contract: both products, each named for the reason that `hall_ok` gives. Assumes nothing.
use Rattle.hall.proofs.CaseRules.{both}
use Rattle.hall.proofs.cases.case4.Goals as goal

pub returns : goal.returns
returns c = both c.case4_times.ensures c.case4_transpose.ensures
