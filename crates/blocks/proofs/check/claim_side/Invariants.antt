-- `check::claim_side` meets its contract. Assumes nothing.
use mathlib.Core.Path.{◌≡◌}
use Prim.Native.Nat.{◌/◌, ◌≤◌}
use lib.ListN.{length}
use Rattle.ground.specs.Gather.{gather}
use Rattle.blocks.specs.Claims.{block_claims, side_claims}
use Rattle.blocks.specs.Walk.{through, walked, Room}
use Rattle.blocks.proofs.check.claim_side.Given as goal

abbrev pub invariant-loop-b : goal.invariant-loop-b
invariant-loop-b l =
    let count = length l.side / 2 in
    (walked l.n (through l.next l.map) (gather (block_claims l.n l.side) l.b count) ≡ walked l.n (through l.start l.initial.map) (side_claims l.n l.side))
    × Room l.n l.next l.map
    × (l.b ≤ count)
    × (length l.map ≡ length l.initial.map)
