-- `operator::check_operands` tells the first of three checks that fails: the lengths, the kept side's plan, the eliminated side's. The lengths' pass gives what a plan's check asks,
-- and few chunks give that no sum of lengths wraps. Assumes nothing.
use Rattle.std.proofs.Common.{length, arith}
use Rattle.std.proofs.lemmas.Result.{err_from_is_err_and}
use Rattle.plan.specs.LentSpans.{spread_lent}
use Rattle.products.specs.Operator.{Sizes}
use Rattle.products.specs.PlanCheck.{rows_only, PlanThere}
use Rattle.products.proofs.OperatorRules.{operands-refused, plans_there, kept-refused, both_plans}
use Rattle.products.proofs.SweepRules.{few_chunks}
use Rattle.products.proofs.operator.check_operands.Goals.{In_ok-wrong_length}
use Rattle.products.proofs.operator.check_operands.Goals as goal

-- past the lengths
plans : (c : In_ok-wrong_length) → PlanThere c.args.chunk_len c.chunk_count-chunks.result (length c.args.kept.starts.now) (length c.args.kept.lo.now) (length c.args.kept.hi.now) (length c.args.kept.local.now)
    × PlanThere c.args.chunk_len c.chunk_count-chunks.result (length c.args.elims.starts.now) (length c.args.elims.lo.now) (length c.args.elims.hi.now) (length c.args.elims.local.now)
plans c =
    let z : Sizes = record { v = c.args.sizes.v; inverses = c.args.sizes.inverses; d = c.args.sizes.d; rows = c.args.sizes.rows; t = c.args.sizes.t; u = c.args.sizes.u; out = c.args.sizes.out } in
    plans_there _ (rows_only c.args.columns.rows.now) _ c.args.kept_dof c.args.elims_dof c.args.count z (spread_lent c.args.kept) (spread_lent c.args.elims) _ _ c.wrong_length.result c.chunk_count-chunks.ensures c.damp_length.ensures c.wrong_length.ensures c.in_ok-wrong_length.was c.requires.chunked

pub overflow_add-lengths : goal.overflow_add-lengths
overflow_add-lengths c =
    omega (arith, few_chunks _ _ _ c.requires.chunked c.chunk_count-chunks.ensures)

pub overflow_add-lengths-2 : goal.overflow_add-lengths-2
overflow_add-lengths-2 c =
    omega (arith, few_chunks _ _ _ c.requires.chunked c.chunk_count-chunks.ensures)

pub returns-in_err-wrong_length : goal.returns-in_err-wrong_length
returns-in_err-wrong_length c =
    let z : Sizes = record { v = c.args.sizes.v; inverses = c.args.sizes.inverses; d = c.args.sizes.d; rows = c.args.sizes.rows; t = c.args.sizes.t; u = c.args.sizes.u; out = c.args.sizes.out } in
    let p = err_from_is_err_and c.from_residual.result c.from_residual.ensures.1 in
    rw (p.1, p.2)
    (operands-refused _ (rows_only c.args.columns.rows.now) _ c.args.kept_dof c.args.elims_dof c.args.count z (spread_lent c.args.kept) (spread_lent c.args.elims) _ _ c.wrong_length.result c.chunk_count-chunks.ensures c.damp_length.ensures c.wrong_length.ensures _ c.in_err-wrong_length.was)

pub check_plan-requires : goal.check_plan-requires
check_plan-requires c = record { risen = c.requires.risen; plan_there = (plans (goal.at.check_plan-requires c).In_ok-wrong_length).0 }

pub returns-in_err-check_plan : goal.returns-in_err-check_plan
returns-in_err-check_plan c =
    let z : Sizes = record { v = c.args.sizes.v; inverses = c.args.sizes.inverses; d = c.args.sizes.d; rows = c.args.sizes.rows; t = c.args.sizes.t; u = c.args.sizes.u; out = c.args.sizes.out } in
    let p = err_from_is_err_and c.from_residual-in_err-check_plan.result c.from_residual-in_err-check_plan.ensures.1 in
    rw (p.1, p.2)
    (kept-refused _ (rows_only c.args.columns.rows.now) _ c.args.kept_dof c.args.elims_dof c.args.count z (spread_lent c.args.kept) (spread_lent c.args.elims) _ _ c.wrong_length.result c.chunk_count-chunks.ensures c.damp_length.ensures c.wrong_length.ensures c.in_ok-wrong_length.was c.check_plan.result c.check_plan.ensures _ c.in_err-check_plan.was)

pub check_plan-requires-2 : goal.check_plan-requires-2
check_plan-requires-2 c = record { risen = c.requires.risen; plan_there = (plans (goal.at.check_plan-requires-2 c).In_ok-wrong_length).1 }

pub returns : goal.returns
returns c =
    let z : Sizes = record { v = c.args.sizes.v; inverses = c.args.sizes.inverses; d = c.args.sizes.d; rows = c.args.sizes.rows; t = c.args.sizes.t; u = c.args.sizes.u; out = c.args.sizes.out } in
    both_plans _ (rows_only c.args.columns.rows.now) _ c.args.kept_dof c.args.elims_dof c.args.count z (spread_lent c.args.kept) (spread_lent c.args.elims) _ _ c.wrong_length.result c.chunk_count-chunks.ensures c.damp_length.ensures c.wrong_length.ensures c.in_ok-wrong_length.was c.check_plan.result c.check_plan.ensures c.check_plan-2.result c.in_ok-check_plan.was c.check_plan-2.ensures
