-- `blocks::eliminated_blocks::count_values` meets its contract. Assumes nothing.
use Rattle.std.proofs.Common.{◌∙◌}
use Rattle.blocks.proofs.ValueCalls.{count_of}
use Rattle.blocks.proofs.eliminated_blocks.count_values.Goals as goal

pub returns : goal.returns
returns c = c.unwrap_or.ensures ∙ count_of _ c.requires _ 0 c.squares_before.ensures
