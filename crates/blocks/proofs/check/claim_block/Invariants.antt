-- `check::claim_block` meets its contract. Assumes nothing.
use mathlib.Core.Path.{◌≡◌}
use Prim.Native.Nat.{◌+◌, ◌-◌, ◌≤◌}
use lib.ListN.{length}
use Rattle.ground.specs.Gather.{gather}
use Rattle.blocks.specs.Claims.{block_claims}
use Rattle.blocks.specs.Walk.{through, walked, Room}
use Rattle.blocks.proofs.WalkRules.{column_at}
use Rattle.blocks.proofs.check.claim_block.Given as goal

abbrev pub invariant-loop-i : goal.invariant-loop-i
invariant-loop-i l =
    (walked l.n (through l.next l.map) (gather (column_at l.first) l.i l.dof) ≡ walked l.n (through l.start l.initial.map) (block_claims l.n l.side l.b)) × Room l.n l.next l.map × (l.first + l.i ≤ l.n) × (l.i ≤ l.dof) × (length l.map ≡ length l.initial.map)
