-- `check::mark_map` meets its contract. Assumes nothing.
use Rattle.std.proofs.Common.{rules}
use Rattle.blocks.proofs.WalkRules.{marked_part}
use Rattle.blocks.proofs.check.mark_map.Goals as goal

pub returns : goal.returns
returns c = marked_part _ _ _ _ c.min-places.ensures (search rules)
