-- `check::walk_blocks` meets its contract. Assumes nothing.
use Rattle.blocks.proofs.WalkLaws.{walk_passed, walk_refused}
use Rattle.blocks.proofs.check.walk_blocks.Goals as goal

pub returns-in-Err : goal.returns-in-Err
returns-in-Err c =
    walk_refused _ _ _ c.in-Err.refusal _ _ c.requires (rw c.in-Err.is at c.try_blocks.ensures) c.mark_map.ensures

pub returns : goal.returns
returns c = walk_passed _ _ _ _ (rw c.in_default.is at c.try_blocks.ensures)
