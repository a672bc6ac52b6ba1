-- `order::run_order` does one step a turn, for the chunk at the next place of the order. The invariant: the progress counts the places before i,
-- and the rows with the terms of the places from i on swept into them are the rows with all swept in. Assumes nothing.
use Rattle.std.proofs.Common.{length, ap, ◌∙◌, arith}
use Rattle.plan.specs.LentSpans.{spread_lent}
use Rattle.products.proofs.OrderRules.{run-counts, run_turn, stepping}
use Rattle.ground.proofs.GatherLaws.{length-list_of}
use Rattle.products.specs.Orders.{served}
use Rattle.products.proofs.order.run_order.Goals as goal

pub do_step-requires : goal.do_step-requires
do_step-requires c = search stepping

pub loop-chunk-preserved : goal.loop-chunk-preserved
loop-chunk-preserved c = (
  omega arith,
  search stepping,
  run-counts c.args.columns.rows.now (length c.args.columns.values.now) (length c.args.v.now) (length c.args.y.now) (length c.loop-chunk.y) (spread_lent c.args.spans) c.args.progress.now c.loop-chunk.progress c.args.order.now c.loop-chunk.chunk-index c.wide.result c.requires c.loop-chunk-test.true c.loop-chunk.invariant.1 c.loop-chunk.invariant.2 c.wide.ensures.value c.args.sign c.args.columns.values.now c.args.v.now c.loop-chunk.y _ _ c.do_step.ensures,
  run_turn c.args.columns.rows.now (length c.args.columns.values.now) (length c.args.v.now) (length c.args.y.now) (length c.loop-chunk.y) (spread_lent c.args.spans) c.args.progress.now c.loop-chunk.progress c.args.order.now c.loop-chunk.chunk-index c.wide.result c.requires c.loop-chunk-test.true c.loop-chunk.invariant.1 c.loop-chunk.invariant.2 c.wide.ensures.value c.args.sign c.args.columns.values.now c.args.v.now c.loop-chunk.y _ _ c.do_step.ensures _ c.loop-chunk.invariant.3,
)

pub shape_of-progress : goal.shape_of-progress
shape_of-progress c =
    ap length c.loop-chunk.invariant.2 ∙ length-list_of (λ k. served c.args.order.now k c.loop-chunk.chunk-index) 0 (length c.args.progress.now)

pub returns : goal.returns
returns c = search stepping
