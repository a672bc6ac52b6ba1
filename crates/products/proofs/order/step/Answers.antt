-- `order::step` tells 1 to 9, 11 and 13 by `check_sweep`, then 14 where the chunk has no span left. Past both `do_step` may be called, and what it leaves is one step of the sweep. Assumes nothing.
use Rattle.std.proofs.Common.{refl, ap, not}
use Rattle.std.proofs.lemmas.Result.{err_from_is_err_and}
use Rattle.columns.specs.Lent.{seen}
use Rattle.plan.specs.LentSpans.{spread_lent}
use Rattle.columns.specs.declared.refusal.Refusal.TheVariants.{BadSchedule}
use Rattle.products.specs.Side.{eliminated}
use Rattle.products.proofs.StepRules.{step_refused, starts_fit, step_none, step_fits, step_does}
use Rattle.products.proofs.order.step.Goals as goal

pub returns-in_err-check_sweep : goal.returns-in_err-check_sweep
returns-in_err-check_sweep c =
    let p = err_from_is_err_and c.from_residual.result c.from_residual.ensures.1 in
    rw (p.1, p.2)
    (step_refused (eliminated c.args.side) (seen c.args.columns) c.args.sides.kept.now c.args.sides.elims.now c.args.chunk_len c.args.map.now c.args.v.now (spread_lent c.args.spans) c.args.y.now c.args.progress.now c.check_sweep.result _ c.check_sweep.ensures c.args.chunk _ c.in_err-check_sweep.was)

pub has_next-requires : goal.has_next-requires
has_next-requires c =
    starts_fit (eliminated c.args.side) (seen c.args.columns) c.args.sides.kept.now c.args.sides.elims.now c.args.chunk_len c.args.map.now c.args.v.now (spread_lent c.args.spans) c.args.y.now c.args.progress.now c.check_sweep.result _ c.check_sweep.ensures c.in_ok-check_sweep.was

pub returns-then-not-has_next : goal.returns-then-not-has_next
returns-then-not-has_next c =
    step_none (eliminated c.args.side) (seen c.args.columns) c.args.sides.kept.now c.args.sides.elims.now c.args.chunk_len c.args.map.now c.args.v.now (spread_lent c.args.spans) c.args.y.now c.args.progress.now c.check_sweep.result _ c.check_sweep.ensures c.in_ok-check_sweep.was c.args.chunk c.has_next.result c.has_next.ensures (BadSchedule 0) c.count.result _ (ap not c.if-not-has_next.true) refl c.count.ensures c.mark_map.ensures

pub do_step-requires : goal.do_step-requires
do_step-requires c =
    step_fits (eliminated c.args.side) (seen c.args.columns) c.args.sides.kept.now c.args.sides.elims.now c.args.chunk_len c.args.map.now c.args.v.now (spread_lent c.args.spans) c.args.y.now c.args.progress.now c.check_sweep.result _ c.check_sweep.ensures c.in_ok-check_sweep.was c.args.chunk c.has_next.result c.has_next.ensures (ap not c.if-not-has_next.false)

pub returns : goal.returns
returns c =
    step_does (eliminated c.args.side) (seen c.args.columns) c.args.sides.kept.now c.args.sides.elims.now c.args.chunk_len c.args.map.now c.args.v.now (spread_lent c.args.spans) c.args.y.now c.args.progress.now c.check_sweep.result _ c.check_sweep.ensures c.in_ok-check_sweep.was c.args.chunk c.has_next.result c.has_next.ensures (ap not c.if-not-has_next.false) c.side_sign.result _ _ c.side_sign.ensures c.do_step.ensures
