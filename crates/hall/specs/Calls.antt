-- The code's own. What the hall's calls leave, as the promises of those calls have it. Assumes nothing.
use Rattle.columns.specs.Refusals.{told}
use Rattle.plan.specs.Plan.{Outcome, buffers, told_plan}
use Rattle.products.specs.Operator.{Operated}
use Rattle.products.specs.Orders.{Swept}
use Rattle.hall.specs.declared.calls.HallPlan.{HallPlan}
use Rattle.hall.specs.declared.calls.HallWork.{HallWork}
use Rattle.hall.specs.declared.calls.HallSweep.{HallSweep}

abbrev pub plan_outcome : HallPlan → Outcome
plan_outcome p = record {
  told = told_plan p.answer;
  left =
      buffers p.map p.kept_cols p.elims_cols p.elims_blocks p.owners p.row_list p.row_starts p.visible
      p.visible_starts p.kept_starts p.kept_lo p.kept_hi p.kept_local
      p.elims_starts p.elims_lo p.elims_hi p.elims_local;
}

abbrev pub operator_outcome : HallWork → Operated
operator_outcome w = record { told = told w.answer; map = w.map; work = record { rows = w.rows; t = w.t; u = w.u; out = w.out } }

abbrev pub sweep_outcome : HallSweep → Swept
sweep_outcome s = record { told = told s.answer; map = s.map; rows = s.rows; progress = s.progress }
