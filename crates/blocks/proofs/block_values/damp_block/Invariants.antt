-- `blocks::block_values::damp_block` meets its contract. Assumes nothing.
use Rattle.blocks.specs.BlockValues.{damp_column}
use Rattle.ground.specs.Range.{range}
use lib.ListN.{length}
use Prim.Native.Nat.{◌-◌}
use mathlib.Core.Path.{◌≡◌}
use Rattle.blocks.proofs.block_values.damp_block.Given as goal

abbrev pub invariant-loop-k : goal.invariant-loop-k
invariant-loop-k l =
    (length l.out ≡ length l.initial.out) × (range (damp_column l.damping l.dof l.at) l.k l.dof l.out ≡ range (damp_column l.damping l.dof l.at) 0 l.dof l.initial.out)
