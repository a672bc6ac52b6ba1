-- `blocks::block_values::put_block` meets its contract. Assumes nothing.
use Rattle.blocks.specs.BlockValues.{dot_column, writing, put}
use Rattle.columns.specs.Lent.{seen}
use Rattle.ground.specs.Gather.{gather}
use Rattle.ground.specs.Fold.{folded}
use lib.ListN.{length}
use Prim.Native.Nat.{◌+◌, ◌*◌, ◌-◌, ◌≤◌}
use mathlib.Core.Path.{◌≡◌}
use Rattle.blocks.proofs.block_values.put_block.Given as goal

abbrev pub invariant-loop-c : goal.invariant-loop-c
invariant-loop-c l =
    (l.c ≤ l.dof) × (length l.out ≡ length l.initial.out)
    × (folded put (writing (l.at + l.c * l.dof) l.out) (gather (dot_column (seen l.columns) l.first l.dof) l.c l.dof)
    ≡ folded put (writing l.at l.initial.out) (gather (dot_column (seen l.columns) l.first l.dof) 0 l.dof))
