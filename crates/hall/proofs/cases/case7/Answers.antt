-- `hall::cases::case7` meets its contract. Assumes nothing.
use mathlib.Core.Path.{ap, ◌∙◌}
use lib.Ieee.{of_int, of_bits}
use Rattle.columns.specs.Refusals.{done}
use Rattle.products.specs.Orders.{Swept}
use Rattle.hall.specs.Hall.{first_rows_of}
use Rattle.hall.specs.Same.{numbers_of}
use Rattle.hall.proofs.HallTable.{hall_table}
use Rattle.hall.proofs.CaseRules.{both, floats_held, numbers-held}
use Rattle.hall.proofs.cases.case7.Goals as goal

pub returns : goal.returns
unfolding of_int of_bits
returns c =
    let e = c.sweep_kept-s.ensures ∙ hall_table.swept in
    both (both (both (both (numbers-held done c.eq.ensures c.from.ensures (ap (λ (o : Swept). o.told) e))
    (floats_held first_rows_of c.same_floats.ensures (ap (λ (o : Swept). o.rows) e)))
    (c.sweep_answers.ensures.1 (ap (λ (o : Swept). numbers_of o.told) hall_table.twice)))
    (c.sweep_answers-2.ensures.1 (ap (λ (o : Swept). numbers_of o.told) hall_table.short)))
    (c.sweep_answers-3.ensures.1 (ap (λ (o : Swept). numbers_of o.told) hall_table.missing))
