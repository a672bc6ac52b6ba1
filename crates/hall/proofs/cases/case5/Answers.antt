-- `hall::cases::case5` meets its contract. Assumes nothing.
use mathlib.Core.Path.{ap, ◌∙◌}
use mathlib.Core.List.{[], ◌∷◌}
use lib.Ieee.{of_int, of_bits}
use Rattle.columns.specs.Refusals.{done}
use Rattle.columns.specs.JacobianOps.{Dotted, Left}
use Rattle.hall.specs.Hall.{f}
use Rattle.hall.proofs.HallTable.{hall_table}
use Rattle.hall.proofs.CaseRules.{both, floats_held, numbers-held, sum-held}
use Rattle.hall.proofs.cases.case5.Goals as goal

pub returns : goal.returns
unfolding of_int of_bits
returns c =
    let one = c.column_dot-one.ensures ∙ hall_table.dot_0_1 in
    let two = c.column_dot-two.ensures ∙ hall_table.dot_0_2 in
    let e = c.diag_jt_j-answer.ensures ∙ hall_table.diagonal in
    both (both (both (sum-held (f 3) c.is_sum.ensures (ap (λ (o : Dotted). o.sums) one))
    (sum-held (f 10) c.is_sum-2.ensures (ap (λ (o : Dotted). o.sums) two)))
    (numbers-held done c.eq.ensures c.from.ensures (ap (λ (o : Left). o.told) e)))
    (floats_held (f 30 ∷ f 2 ∷ f 5 ∷ []) c.same_floats.ensures (ap (λ (o : Left). o.out) e))
