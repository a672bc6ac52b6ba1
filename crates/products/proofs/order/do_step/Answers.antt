-- `order::do_step` takes the chunk's next span and sweeps it. That there is a next one is what is asked of it, so the span's place lies in the lists. Assumes nothing.
use Rattle.std.proofs.Common.{length, refl, arith}
use Rattle.plan.specs.LentSpans.{spread_lent}
use Rattle.products.proofs.OrderRules.{step_next, step_span, span_there}
use Rattle.products.proofs.order.do_step.Goals as goal

pub take_next-at-requires-clause-next : goal.take_next-at-requires-clause-next
take_next-at-requires-clause-next c =
    step_next c.args.columns.rows.now (length c.args.columns.values.now) (length c.args.v.now) (length c.args.y.now) (spread_lent c.args.spans) c.args.progress.now c.args.chunk c.requires

pub offset_bounds-spans-at : goal.offset_bounds-spans-at
offset_bounds-spans-at c =
    omega (arith, (step_span c.args.columns.rows.now (length c.args.columns.values.now) (length c.args.v.now) (length c.args.y.now) (spread_lent c.args.spans) c.args.progress.now c.args.chunk c.requires _ c.take_next-at.ensures.place).lo-there)

pub bounds-spans-at : goal.bounds-spans-at
bounds-spans-at c =
    (step_span c.args.columns.rows.now (length c.args.columns.values.now) (length c.args.v.now) (length c.args.y.now) (spread_lent c.args.spans) c.args.progress.now c.args.chunk c.requires _ c.take_next-at.ensures.place).lo-there

pub offset_bounds-spans-at-2 : goal.offset_bounds-spans-at-2
offset_bounds-spans-at-2 c =
    omega (arith, (step_span c.args.columns.rows.now (length c.args.columns.values.now) (length c.args.v.now) (length c.args.y.now) (spread_lent c.args.spans) c.args.progress.now c.args.chunk c.requires _ c.take_next-at.ensures.place).hi-there)

pub bounds-spans-at-2 : goal.bounds-spans-at-2
bounds-spans-at-2 c =
    (step_span c.args.columns.rows.now (length c.args.columns.values.now) (length c.args.v.now) (length c.args.y.now) (spread_lent c.args.spans) c.args.progress.now c.args.chunk c.requires _ c.take_next-at.ensures.place).hi-there

pub offset_bounds-spans-at-3 : goal.offset_bounds-spans-at-3
offset_bounds-spans-at-3 c =
    omega (arith, (step_span c.args.columns.rows.now (length c.args.columns.values.now) (length c.args.v.now) (length c.args.y.now) (spread_lent c.args.spans) c.args.progress.now c.args.chunk c.requires _ c.take_next-at.ensures.place).local-there)

pub bounds-spans-at-3 : goal.bounds-spans-at-3
bounds-spans-at-3 c =
    (step_span c.args.columns.rows.now (length c.args.columns.values.now) (length c.args.v.now) (length c.args.y.now) (spread_lent c.args.spans) c.args.progress.now c.args.chunk c.requires _ c.take_next-at.ensures.place).local-there

pub do_span-requires : goal.do_span-requires
do_span-requires c =
    span_there _ _ _ _
    (step_span c.args.columns.rows.now (length c.args.columns.values.now) (length c.args.v.now) (length c.args.y.now) (spread_lent c.args.spans) c.args.progress.now c.args.chunk c.requires _ c.take_next-at.ensures.place)
    refl refl refl refl
