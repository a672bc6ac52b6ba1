-- `check::check_early` meets its contract. Assumes nothing.
use Rattle.blocks.proofs.CallRules.{early_told_lem}
use Rattle.blocks.proofs.check.check_early.Goals as goal

pub returns : goal.returns
returns c = early_told_lem _ _ _ _ _ _ (rw c.count.ensures at c.no_room.ensures) c.check_parts.ensures
