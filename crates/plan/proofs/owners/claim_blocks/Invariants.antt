-- `owners::claim_blocks` meets its contract. Assumes nothing.
use mathlib.Core.Path.{◌≡◌}
use Prim.Native.Nat.{◌-◌}
use lib.ListN.{length}
use Rattle.ground.specs.Gather.{gather}
use Rattle.blocks.specs.Sides.{block_count}
use Rattle.plan.specs.Owners.{block_entries}
use Rattle.plan.specs.OwnerWalk.{claimed}
use Rattle.plan.proofs.owners.claim_blocks.Given as goal

abbrev pub invariant-loop-b : goal.invariant-loop-b
invariant-loop-b l =
    (length l.owners ≡ length l.initial.owners) × (claimed l.owners (gather (block_entries l.columns.ptrs.now l.columns.rows.now l.elims) l.b l.count) ≡ claimed l.initial.owners (gather (block_entries l.columns.ptrs.now l.columns.rows.now l.elims) 0 (block_count l.elims)))
