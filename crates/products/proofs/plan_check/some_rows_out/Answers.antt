-- `plan_check::some_rows_out` meets its contract: the spans between two that it stops at are good. Assumes nothing.
use Rattle.std.proofs.Common.{◌+◌, arith}
use Rattle.ground.proofs.FirstLaws.{some_goes, some_stops}
use Rattle.products.proofs.PlanRules.{from_stop, no_stop, span_told}
use Rattle.products.proofs.plan_check.some_rows_out.Goals as goal

pub returns-then-rows_out : goal.returns-then-rows_out
returns-then-rows_out c =
    let w = c.args.window in
    let f = c.in-Some.ensures in
    some_stops _ f.1 (from_stop w.columns.rows.now w.from (w.from + w.size) c.args.lo.now c.args.hi.now c.loop-k.at c.in-Some.k _ _ f.0 f.3 c.loop-k.invariant.1)
    (span_told w.columns.rows.now w.from (w.from + w.size) c.args.lo.now c.args.hi.now c.in-Some.k _ _ c.rows_out.result _ c.wide-a.ensures.value c.wide-b.ensures.value c.rows_out.ensures c.if-rows_out.true)

pub loop-k-preserved : goal.loop-k-preserved
loop-k-preserved c =
    let w = c.args.window in
    let f = c.in-Some.ensures in (
      omega (arith, f.1),
      some_goes _ f.1 (from_stop w.columns.rows.now w.from (w.from + w.size) c.args.lo.now c.args.hi.now c.loop-k.at c.in-Some.k _ _ f.0 f.3 c.loop-k.invariant.1)
          (span_told w.columns.rows.now w.from (w.from + w.size) c.args.lo.now c.args.hi.now c.in-Some.k _ _ c.rows_out.result _ c.wide-a.ensures.value c.wide-b.ensures.value c.rows_out.ensures c.if-rows_out.false),
    )

pub returns : goal.returns
returns c =
    let w = c.args.window in
    no_stop w.columns.rows.now w.from (w.from + w.size) c.args.lo.now c.args.hi.now c.loop-k.at c.args.last _ c.in_default.ensures c.loop-k.invariant.1
