-- `window::Window::rows_stop` meets its contract. Assumes nothing.
use Rattle.products.proofs.PlanRules.{planning}
use Rattle.products.proofs.window.Window.rows_stop.Goals as goal

pub returns : goal.returns
returns c = search planning
