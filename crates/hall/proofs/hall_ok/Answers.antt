-- `hall::hall_ok` meets its contract: each of the eight cases comes out. `true` alone would meet it too, so each case is named here, and one that is left
-- out of the function is missed. Assumes nothing.
use Rattle.hall.proofs.CaseRules.{both}
use Rattle.hall.proofs.hall_ok.Goals as goal

pub returns : goal.returns
returns c =
    both (both (both (both (both (both (both c.case1.ensures c.case2.ensures) c.case3.ensures) c.case4.ensures) c.case5.ensures)
    c.case6.ensures) c.case7.ensures) c.case8.ensures
