-- `order::sweep` tells 1 to 9, 11 and 13 by `check_sweep`, then 14 by `check_order`. Past both `run_order` may be called, and what it leaves is the sweep in that order. Assumes nothing.
use Rattle.std.proofs.lemmas.Result.{err_from_is_err_and}
use Rattle.columns.specs.Lent.{seen}
use Rattle.plan.specs.LentSpans.{spread_lent}
use Rattle.products.specs.Side.{eliminated}
use Rattle.products.proofs.StepRules.{sweep_refused, starts_fit, sweep_bad, sweep_fits, sweep_does}
use Rattle.products.proofs.order.sweep.Goals as goal

pub returns-in_err-check_sweep : goal.returns-in_err-check_sweep
returns-in_err-check_sweep c =
    let p = err_from_is_err_and c.from_residual.result c.from_residual.ensures.1 in
    rw (p.1, p.2)
    (sweep_refused (eliminated c.args.side) (seen c.args.columns) c.args.sides.kept.now c.args.sides.elims.now c.args.chunk_len c.args.map.now c.args.v.now (spread_lent c.args.spans) c.args.y.now c.args.progress.now c.check_sweep.result _ c.check_sweep.ensures c.args.order.now _ c.in_err-check_sweep.was)

pub check_order-requires : goal.check_order-requires
check_order-requires c =
    starts_fit (eliminated c.args.side) (seen c.args.columns) c.args.sides.kept.now c.args.sides.elims.now c.args.chunk_len c.args.map.now c.args.v.now (spread_lent c.args.spans) c.args.y.now c.args.progress.now c.check_sweep.result _ c.check_sweep.ensures c.in_ok-check_sweep.was

pub returns-in-Err : goal.returns-in-Err
returns-in-Err c =
    sweep_bad (eliminated c.args.side) (seen c.args.columns) c.args.sides.kept.now c.args.sides.elims.now c.args.chunk_len c.args.map.now c.args.v.now (spread_lent c.args.spans) c.args.y.now c.args.progress.now c.check_sweep.result _ c.check_sweep.ensures c.in_ok-check_sweep.was c.args.order.now c.check_order.result _ c.check_order.ensures c.in-Err.refusal c.count.result _ c.in-Err.is c.count.ensures c.mark_map.ensures

pub run_order-requires : goal.run_order-requires
run_order-requires c =
    sweep_fits (eliminated c.args.side) (seen c.args.columns) c.args.sides.kept.now c.args.sides.elims.now c.args.chunk_len c.args.map.now c.args.v.now (spread_lent c.args.spans) c.args.y.now c.args.progress.now c.check_sweep.result _ c.check_sweep.ensures c.in_ok-check_sweep.was c.args.order.now c.check_order.result _ c.check_order.ensures c.in_default.is _ c.start_rows.ensures

pub returns : goal.returns
returns c =
    sweep_does (eliminated c.args.side) (seen c.args.columns) c.args.sides.kept.now c.args.sides.elims.now c.args.chunk_len c.args.map.now c.args.v.now (spread_lent c.args.spans) c.args.y.now c.args.progress.now c.check_sweep.result _ c.check_sweep.ensures c.in_ok-check_sweep.was c.args.order.now c.check_order.result _ c.check_order.ensures c.in_default.is _ _ _ c.side_sign.result c.start_rows.ensures c.side_sign.ensures c.run_order.ensures
