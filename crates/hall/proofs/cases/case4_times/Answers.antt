-- `hall::cases::case4_times` meets its contract. Assumes nothing.
use mathlib.Core.Path.{ap, ◌∙◌}
use mathlib.Core.List.{[], ◌∷◌}
use lib.Ieee.{of_int, of_bits}
use Rattle.columns.specs.Refusals.{done}
use Rattle.products.specs.Couplings.{Coupled}
use Rattle.hall.specs.Hall.{f}
use Rattle.hall.proofs.HallTable.{hall_table}
use Rattle.hall.proofs.CaseRules.{both, floats_held, numbers-held}
use Rattle.hall.proofs.cases.case4_times.Goals as goal

pub returns : goal.returns
unfolding of_int of_bits
returns c =
    let e = c.coupling_times-answer.ensures ∙ hall_table.times in
    both (numbers-held done c.eq.ensures c.from.ensures (ap (λ (o : Coupled). o.told) e))
    (floats_held (f 23 ∷ []) c.same_floats.ensures (ap (λ (o : Coupled). o.out) e))
