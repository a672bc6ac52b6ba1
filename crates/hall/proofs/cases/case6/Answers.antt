-- `hall::cases::case6` meets its contract. Assumes nothing.
use mathlib.Core.Path.{ap, ◌∙◌}
use mathlib.Core.List.{[], ◌∷◌}
use Rattle.columns.specs.Refusals.{tell}
use Rattle.plan.specs.Plan.{Outcome}
use Rattle.hall.proofs.HallTable.{hall_table}
use Rattle.hall.proofs.CaseRules.{numbers-held}
use Rattle.hall.proofs.cases.case6.Goals as goal

pub returns : goal.returns
returns c =
    numbers-held (tell 10 (1 ∷ 0 ∷ [])) c.eq.ensures c.from.ensures (ap (λ (o : Outcome). o.told) (c.plan_hall-p.ensures ∙ hall_table.connected))
