-- `window::Window::some_row_out` meets its contract. Assumes nothing.
use Rattle.std.proofs.Common.{◌+◌}
use Rattle.products.proofs.PlanRules.{part_turn}
use Rattle.products.proofs.window.Window.some_row_out.Goals as goal

pub loop-r-preserved : goal.loop-r-preserved
loop-r-preserved c =
    let w = c.args.self in
    part_turn w.columns.rows.now w.from (w.from + w.size) c.args.lo c.args.hi c.loop-r.r-index c.loop-r.bad c.is_out-bad.result _ c.requires c.loop-r-test.true c.is_out-bad.ensures c.loop-r.invariant
