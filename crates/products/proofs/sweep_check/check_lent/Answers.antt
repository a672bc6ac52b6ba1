-- `sweep_check::check_lent` tells what the lengths' check, and then the plan's, tells. There are few chunks, so no length that is asked wraps, and the lengths' pass gives
-- what the plan's check asks. Assumes nothing.
use Rattle.std.proofs.Common.{arith}
use Rattle.std.proofs.lemmas.Result.{err_from_is_err_and}
use Rattle.plan.specs.LentSpans.{spread_lent}
use Rattle.products.proofs.SweepRules.{few_chunks, lent-refused, lent-there, lent-plan}
use Rattle.products.specs.Side.{eliminated}
use Rattle.products.specs.PlanCheck.{rows_only}
use Rattle.products.proofs.sweep_check.check_lent.Goals as goal

pub overflow_add-lengths : goal.overflow_add-lengths
overflow_add-lengths c = omega (arith, few_chunks _ _ _ c.requires.chunked c.chunk_count-chunks.ensures)

pub returns-in_err-wrong_length : goal.returns-in_err-wrong_length
returns-in_err-wrong_length c =
    let p = err_from_is_err_and c.from_residual.result c.from_residual.ensures.1 in
    rw (p.1, p.2)
    (lent-refused _ _ _ _ _ _ (spread_lent c.args.spans) _ _ _ c.wrong_length.result c.chunk_count-chunks.ensures c.wrong_length.ensures _ c.in_err-wrong_length.was)

pub check_plan-requires : goal.check_plan-requires
check_plan-requires c = record {
  risen = c.requires.risen;
  plan_there = lent-there (eliminated c.args.side) _ (rows_only c.args.columns.rows.now) _ _ _ (spread_lent c.args.spans) _ _ _ c.wrong_length.result c.chunk_count-chunks.ensures c.wrong_length.ensures c.requires.chunked c.in_ok-wrong_length.was;
}

pub returns : goal.returns
returns c =
    lent-plan _ _ _ _ _ _ (spread_lent c.args.spans) _ _ _ c.wrong_length.result c.chunk_count-chunks.ensures c.wrong_length.ensures c.check_plan.result c.in_ok-wrong_length.was c.check_plan.ensures
