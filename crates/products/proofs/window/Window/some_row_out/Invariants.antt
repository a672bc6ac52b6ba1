-- `window::Window::some_row_out` meets its contract. Assumes nothing.
use Rattle.std.proofs.Common.{◌≡◌, ◌+◌, ◌||◌}
use Rattle.ground.specs.First.{some}
use Rattle.products.specs.PlanCheck.{row_out}
use Rattle.products.proofs.window.Window.some_row_out.Given as goal

abbrev pub invariant-loop-r : goal.invariant-loop-r
invariant-loop-r l =
    (l.bad || some (row_out l.self.columns.rows.now l.self.from (l.self.from + l.self.size)) (l.lo + l.r-index) l.hi) ≡ some (row_out l.self.columns.rows.now l.self.from (l.self.from + l.self.size)) l.lo l.hi
