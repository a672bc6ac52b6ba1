-- `hall::cases::case1` meets its contract. Assumes nothing.
use mathlib.Core.Path.{ap, ◌∙◌}
use mathlib.Core.List.{[]}
use lib.ListN.{replicate}
use Rattle.plan.specs.Plan.{Outcome}
use Rattle.hall.specs.Hall.{owners, row_lists, visible}
use Rattle.hall.proofs.HallTable.{hall_table}
use Rattle.hall.proofs.CaseRules.{both, list_held}
use Rattle.hall.proofs.cases.case1.Goals as goal

pub returns : goal.returns
returns c =
    let e = c.plan_hall-p.ensures ∙ hall_table.plan in
    both (both (both (both (list_held owners [] c.starts_with.ensures.value (ap (λ (o : Outcome). o.left.owners) e))
    (list_held row_lists.list (replicate 1 7) c.starts_with-2.ensures.value (ap (λ (o : Outcome). o.left.row_lists.list) e)))
    (list_held row_lists.starts [] c.starts_with-3.ensures.value (ap (λ (o : Outcome). o.left.row_lists.starts) e)))
    (list_held visible.list (replicate 6 7) c.starts_with-4.ensures.value (ap (λ (o : Outcome). o.left.visible.list) e)))
    (list_held visible.starts [] c.starts_with-5.ensures.value (ap (λ (o : Outcome). o.left.visible.starts) e))
