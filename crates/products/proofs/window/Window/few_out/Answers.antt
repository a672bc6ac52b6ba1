-- `window::Window::few_out` meets its contract. Assumes nothing.
use Rattle.products.proofs.PlanRules.{planning}
use Rattle.products.proofs.window.Window.few_out.Goals as goal

pub returns-then-ends_out : goal.returns-then-ends_out
returns-then-ends_out c = search planning

pub returns-then-ends_out-2 : goal.returns-then-ends_out-2
returns-then-ends_out-2 c = search planning

pub returns-then-more-le3 : goal.returns-then-more-le3
returns-then-more-le3 c = search planning

pub returns : goal.returns
returns c = search planning
