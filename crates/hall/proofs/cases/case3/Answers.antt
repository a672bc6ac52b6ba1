-- `hall::cases::case3` meets its contract. Assumes nothing.
use mathlib.Core.Path.{ap, ◌∙◌}
use mathlib.Core.List.{[], ◌∷◌}
use lib.Ieee.{of_int, of_bits}
use Rattle.columns.specs.Refusals.{done}
use Rattle.products.specs.Operator.{Operated}
use Rattle.hall.specs.Hall.{f, t, u, last_rows}
use Rattle.hall.proofs.HallTable.{hall_table}
use Rattle.hall.proofs.CaseRules.{both, floats_held, numbers-held}
use Rattle.hall.proofs.cases.case3.Goals as goal

pub returns : goal.returns
unfolding of_int of_bits
returns c =
    let e = c.operate-w.ensures ∙ hall_table.operator in
    let d = c.operate-d.ensures ∙ hall_table.damped in
    both (both (both (both (both (both (numbers-held done c.eq.ensures c.from.ensures (ap (λ (o : Operated). o.told) e))
    (floats_held t c.same_floats.ensures (ap (λ (o : Operated). o.work.t) e)))
    (floats_held u c.same_floats-2.ensures (ap (λ (o : Operated). o.work.u) e)))
    (floats_held last_rows c.same_floats-3.ensures (ap (λ (o : Operated). o.work.rows) e)))
    (floats_held (f 1 ∷ []) c.same_floats-4.ensures (ap (λ (o : Operated). o.work.out) e)))
    (numbers-held done c.eq-2.ensures c.from-2.ensures (ap (λ (o : Operated). o.told) d)))
    (floats_held (f 2 ∷ []) c.same_floats-5.ensures (ap (λ (o : Operated). o.work.out) d))
