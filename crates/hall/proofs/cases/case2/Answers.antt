-- `hall::cases::case2` meets its contract. Assumes nothing.
use mathlib.Core.Path.{ap, ◌∙◌}
use mathlib.Core.List.{[], ◌∷◌}
use lib.ListN.{replicate}
use Rattle.columns.specs.Refusals.{tell}
use Rattle.plan.specs.Plan.{Outcome}
use Rattle.hall.specs.Hall.{kept_lists, elims_lists}
use Rattle.hall.proofs.HallTable.{hall_table}
use Rattle.hall.proofs.CaseRules.{both, list_held, numbers-held}
use Rattle.hall.proofs.cases.case2.Goals as goal

pub returns : goal.returns
returns c =
    let e = c.plan_hall-p.ensures ∙ hall_table.plan in
    both (both (both (both (both (both (both (both (numbers-held (tell 0 (3 ∷ 3 ∷ [])) c.eq.ensures c.from.ensures (ap (λ (o : Outcome). o.told) e))
    (list_held kept_lists.starts [] c.starts_with.ensures.value (ap (λ (o : Outcome). o.left.kept.starts) e)))
    (list_held kept_lists.lo (replicate 5 7) c.starts_with-2.ensures.value (ap (λ (o : Outcome). o.left.kept.lo) e)))
    (list_held kept_lists.hi (replicate 5 7) c.starts_with-3.ensures.value (ap (λ (o : Outcome). o.left.kept.hi) e)))
    (list_held kept_lists.local (replicate 5 7) c.starts_with-4.ensures.value (ap (λ (o : Outcome). o.left.kept.local) e)))
    (list_held elims_lists.starts [] c.starts_with-5.ensures.value (ap (λ (o : Outcome). o.left.elims.starts) e)))
    (list_held elims_lists.lo (replicate 5 7) c.starts_with-6.ensures.value (ap (λ (o : Outcome). o.left.elims.lo) e)))
    (list_held elims_lists.hi (replicate 5 7) c.starts_with-7.ensures.value (ap (λ (o : Outcome). o.left.elims.hi) e)))
    (list_held elims_lists.local (replicate 5 7) c.starts_with-8.ensures.value (ap (λ (o : Outcome). o.left.elims.local) e))
