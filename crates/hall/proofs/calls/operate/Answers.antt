-- `hall::calls::operate` meets its contract. Assumes nothing.
use lib.Ieee.{of_int, of_bits}
use Rattle.hall.proofs.calls.operate.Goals as goal

pub returns : goal.returns
unfolding of_int of_bits
returns c = c.apply_schur_operator-answer.ensures
