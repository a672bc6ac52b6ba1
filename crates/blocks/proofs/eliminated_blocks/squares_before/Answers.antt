-- `blocks::eliminated_blocks::squares_before` meets its contract. Assumes nothing.
use Rattle.blocks.proofs.AccessRules.{access}
use Rattle.blocks.proofs.eliminated_blocks.squares_before.Goals as goal

pub returns-then-square-most : goal.returns-then-square-most
returns-then-square-most c = search access

pub returns : goal.returns
returns c = search access
