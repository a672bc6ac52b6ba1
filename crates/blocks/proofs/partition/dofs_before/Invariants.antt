-- `blocks::partition::dofs_before` meets its contract. Assumes nothing.
use mathlib.Core.Path.{◌≡◌}
use Prim.Native.Nat.{◌-◌, ◌*◌, ◌≤◌}
use Rattle.blocks.specs.Sides.{offset_of}
use Rattle.blocks.proofs.partition.dofs_before.Given as goal

abbrev pub invariant-loop-k : goal.invariant-loop-k
invariant-loop-k l =
    (l.k ≤ l.b) × (l.sum ≡ offset_of l.side l.k) × (l.sum ≤ l.k * 4_294_967_295)

abbrev pub decreases-loop-k : goal.decreases-loop-k
decreases-loop-k l =
    l.b - l.k
