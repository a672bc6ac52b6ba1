-- `calls::plan_hall` lends the plan arrays of the hall's sizes: what the plan promises is what is asked. Assumes nothing.
use lib.Ieee.{of_int, of_bits}
use Rattle.hall.proofs.calls.plan_hall.Goals as goal

pub returns : goal.returns
unfolding of_int of_bits
returns c =
    c.plan-answer.ensures
