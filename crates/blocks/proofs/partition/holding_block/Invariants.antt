-- `blocks::partition::holding_block` meets its contract. Assumes nothing.
use mathlib.Core.Path.{◌≡◌}
use Prim.Native.Nat.{◌-◌, ◌≤◌}
use Rattle.ground.specs.First.{first}
use Rattle.blocks.specs.Lookups.{holds, holder}
use Rattle.blocks.proofs.partition.holding_block.Given as goal

abbrev pub invariant-loop-b : goal.invariant-loop-b
invariant-loop-b l =
    (l.b ≤ l.n) × (first (holds l.side l.column) l.b l.n ≡ holder l.side l.column)

abbrev pub decreases-loop-b : goal.decreases-loop-b
decreases-loop-b l =
    l.n - l.b
