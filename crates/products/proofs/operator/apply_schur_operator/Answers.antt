-- `operator::apply_schur_operator` meets its contract: what the checks have shown is said once, at the states that follow them. Assumes nothing.
use Rattle.std.proofs.Common.{true, false, refl, ◌∙◌}
use Rattle.std.proofs.lemmas.Result.{err_from_is_err_and}
use Rattle.columns.specs.Lent.{seen}
use Rattle.plan.specs.LentSpans.{spread_lent}
use Rattle.products.proofs.SweepRules.{Chunks, chunked_passes, chunks-asked}
use Rattle.products.proofs.OperatorCalls.{Passed, operator_passes, operator-refused, operator-dofs, operator_limited, operator_later, kept_spans, elims-spans, elims-gather, kept-gather, inverses-fit, damp_fits, operator-done}
use Rattle.products.proofs.operator.apply_schur_operator.Goals.{In_ok-check_chunked, In_default}
use Rattle.products.proofs.operator.apply_schur_operator.Goals as goal

-- past 9, and past 13

chunks : (c : In_ok-check_chunked) → Chunks (seen c.args.columns) c.args.sides.kept.now c.args.sides.elims.now c.args.chunk_len
chunks c = chunked_passes _ _ _ _ _ c.check_chunked.result _ c.check_chunked.ensures c.in_ok-check_chunked.was

passed : (c : In_default) → Passed (seen c.args.columns) c.args.sides.kept.now c.args.sides.elims.now c.args.chunk_len
    (record { v = c.args.v.now; inverses = c.args.inverses.now; d = c.args.d.now; kept = spread_lent c.args.kept; elims = spread_lent c.args.elims })
    (record { rows = c.args.y.now; t = c.args.t.now; u = c.args.u.now; out = c.args.out.now })
passed c =
    operator_passes _ _ _ _ _ _ _ c.check_chunked.result _ c.check_chunked.ensures c.in_ok-check_chunked.was _ _ _ c.check_operands-lent.result c.side_dof.ensures c.side_dof-2.ensures c.count_values.ensures c.check_operands-lent.ensures c.in_default.is

pub returns-in_err-check_chunked : goal.returns-in_err-check_chunked
returns-in_err-check_chunked c =
    let p = err_from_is_err_and c.from_residual.result c.from_residual.ensures.1 in
    rw (p.1, p.2)
    (operator-refused _ _ _ _ _ _ _ c.check_chunked.result _ c.check_chunked.ensures _ c.in_err-check_chunked.was)

pub side_dof-requires : goal.side_dof-requires
side_dof-requires c = operator-dofs (chunks (goal.at.side_dof-requires c).In_ok-check_chunked) false

pub side_dof-requires-2 : goal.side_dof-requires-2
side_dof-requires-2 c = operator-dofs (chunks (goal.at.side_dof-requires-2 c).In_ok-check_chunked) true

pub count_values-requires : goal.count_values-requires
count_values-requires c = operator_limited (chunks (goal.at.count_values-requires c).In_ok-check_chunked)

pub check_operands-lent-requires : goal.check_operands-lent-requires
check_operands-lent-requires c =
    let asked = chunks-asked (chunks (goal.at.check_operands-lent-requires c).In_ok-check_chunked) in
    record { risen = asked.0; chunked = asked.1 }

pub returns-in-Err : goal.returns-in-Err
returns-in-Err c =
    operator_later _ _ _ _ _ _ _ c.check_chunked.result _ c.check_chunked.ensures c.in_ok-check_chunked.was _ _ _ c.check_operands-lent.result c.side_dof.ensures c.side_dof-2.ensures c.count_values.ensures c.check_operands-lent.ensures c.in-Err.refusal _ _ c.in-Err.is c.count.ensures c.mark_map.ensures

pub sweep_plan-requires : goal.sweep_plan-requires
sweep_plan-requires c = kept_spans (passed (goal.at.sweep_plan-requires c).In_default) _ c.clear.auto.y

pub gather_side-requires : goal.gather_side-requires
gather_side-requires c = elims-gather (passed (goal.at.gather_side-requires c).In_default) _ _ (c.sweep_plan.auto.y ∙ c.clear.auto.y) refl

pub inverse_times-requires : goal.inverse_times-requires
inverse_times-requires c = inverses-fit (passed (goal.at.inverse_times-requires c).In_default) _ _ c.gather_side.auto.out refl

pub sweep_plan-requires-2 : goal.sweep_plan-requires-2
sweep_plan-requires-2 c =
    elims-spans (passed (goal.at.sweep_plan-requires-2 c).In_default) _ _ c.inverse_times.auto.out (c.sweep_plan.auto.y ∙ c.clear.auto.y)

pub gather_side-requires-2 : goal.gather_side-requires-2
gather_side-requires-2 c =
    kept-gather (passed (goal.at.gather_side-requires-2 c).In_default) _ _ (c.sweep_plan-2.auto.y ∙ c.sweep_plan.auto.y ∙ c.clear.auto.y) refl

pub add_damping-requires : goal.add_damping-requires
add_damping-requires c = damp_fits (passed (goal.at.add_damping-requires c).In_default) _ c.gather_side-2.auto.out

pub shape_of-y : goal.shape_of-y
shape_of-y c = c.sweep_plan-2.auto.y ∙ c.sweep_plan.auto.y ∙ c.clear.auto.y

pub shape_of-out : goal.shape_of-out
shape_of-out c = c.add_damping.auto.out ∙ c.gather_side-2.auto.out

pub returns : goal.returns
returns c =
    operator-done _ _ _ _ _ _ _ c.check_chunked.result _ c.check_chunked.ensures c.in_ok-check_chunked.was _ _ _ c.check_operands-lent.result c.side_dof.ensures c.side_dof-2.ensures c.count_values.ensures c.check_operands-lent.ensures c.in_default.is _ _ _ _ _ _ _ _ _ c.clear.ensures c.sweep_plan.ensures c.gather_side.ensures c.inverse_times.ensures c.sweep_plan-2.ensures c.gather_side-2.ensures c.add_damping.ensures
