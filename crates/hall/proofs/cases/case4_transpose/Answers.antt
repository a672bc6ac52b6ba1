-- `hall::cases::case4_transpose` meets its contract. Assumes nothing.
use mathlib.Core.Path.{ap, ◌∙◌}
use lib.Ieee.{of_int, of_bits}
use Rattle.columns.specs.Refusals.{done}
use Rattle.products.specs.Couplings.{Coupled}
use Rattle.hall.specs.Hall.{first_rows_of, t}
use Rattle.hall.proofs.HallTable.{hall_table}
use Rattle.hall.proofs.CaseRules.{both, floats_held, numbers-held}
use Rattle.hall.proofs.cases.case4_transpose.Goals as goal

pub returns : goal.returns
unfolding of_int of_bits
returns c =
    let e = c.coupling_transpose_times-answer.ensures ∙ hall_table.transpose in
    both (both (numbers-held done c.eq.ensures c.from.ensures (ap (λ (o : Coupled). o.told) e))
    (floats_held first_rows_of c.same_floats.ensures (ap (λ (o : Coupled). o.rows) e)))
    (floats_held t c.same_floats-2.ensures (ap (λ (o : Coupled). o.out) e))
