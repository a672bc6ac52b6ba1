-- `columns::refusal::sooner` meets its contract. Assumes nothing.
use Rattle.std.proofs.Common.{◌<◌, ◌≤◌}
use Rattle.columns.specs.Refusals.{number, told}
use Rattle.columns.proofs.RefusalLaws.{sooner_second, sooner_first, sooner_lower, sooner_higher}
use Rattle.columns.proofs.refusal.sooner.Goals as goal

pub returns-in_default : goal.returns-in_default
returns-in_default c = rw c.in_default.is (sooner_second (told c.args.b))

pub returns-in_default-b : goal.returns-in_default-b
returns-in_default-b c = rw (c.in-Err.is, c.in_default-b.is) (sooner_first c.in-Err.r)

pub returns-then-number : goal.returns-then-number
returns-then-number c = rw (c.in-Err.is, c.in-Err-b.is) (sooner_higher c.in-Err.r c.in-Err-b.s (rw (c.number.ensures, c.number-2.ensures) at c.if-number.true))

pub returns-else-number : goal.returns-else-number
returns-else-number c = rw (c.in-Err.is, c.in-Err-b.is) (sooner_lower c.in-Err.r c.in-Err-b.s (rw (c.number.ensures, c.number-2.ensures) at c.if-number.false))
