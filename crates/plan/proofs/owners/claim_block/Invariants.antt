-- `owners::claim_block` meets its contract. Assumes nothing.
use mathlib.Core.Path.{◌≡◌}
use Prim.Native.Nat.{◌-◌}
use lib.ListN.{length}
use Rattle.ground.specs.Gather.{gather}
use Rattle.plan.specs.Owners.{block_entries}
use Rattle.plan.specs.OwnerWalk.{claimed}
use Rattle.plan.proofs.OwnerRules.{local_column}
use Rattle.plan.proofs.owners.claim_block.Given as goal

abbrev pub invariant-loop-i : goal.invariant-loop-i
invariant-loop-i l =
    (length l.owners ≡ length l.initial.owners) × (claimed l.owners (gather (local_column l.columns.ptrs.now l.columns.rows.now l.block l.first) l.i l.dof) ≡ claimed l.initial.owners (block_entries l.columns.ptrs.now l.columns.rows.now l.elims l.b))
