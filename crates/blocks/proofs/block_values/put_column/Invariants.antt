-- `blocks::block_values::put_column` meets its contract. Assumes nothing.
use Rattle.blocks.specs.BlockValues.{dot_entry, dot_column, writing, put}
use Rattle.columns.specs.Lent.{seen}
use Rattle.ground.specs.Gather.{gather}
use Rattle.ground.specs.Fold.{folded}
use lib.ListN.{length}
use Prim.Native.Nat.{◌+◌, ◌-◌, ◌≤◌}
use mathlib.Core.Path.{◌≡◌}
use Rattle.blocks.proofs.block_values.put_column.Given as goal

abbrev pub invariant-loop-r : goal.invariant-loop-r
invariant-loop-r l =
    (l.r ≤ l.dof) × (length l.out ≡ length l.initial.out)
    × (folded put (writing (l.at + l.r) l.out) (gather (dot_entry (seen l.columns) l.first l.col) l.r l.dof)
    ≡ folded put (writing l.at l.initial.out) (dot_column (seen l.columns) l.first l.dof l.col))
