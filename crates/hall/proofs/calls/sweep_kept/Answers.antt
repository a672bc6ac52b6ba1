-- `hall::calls::sweep_kept` meets its contract. Assumes nothing.
use lib.Ieee.{of_int, of_bits}
use Rattle.hall.proofs.calls.sweep_kept.Goals as goal

pub returns : goal.returns
unfolding of_int of_bits
returns c = c.sweep-answer.ensures
