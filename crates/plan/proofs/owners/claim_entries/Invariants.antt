-- `owners::claim_entries` meets its contract. Assumes nothing.
use mathlib.Core.Path.{◌≡◌}
use Prim.Native.Nat.{◌-◌, ◌≤◌}
use lib.ListN.{length}
use Rattle.ground.specs.Gather.{gather}
use Rattle.plan.specs.Owners.{entry_at}
use Rattle.plan.specs.OwnerWalk.{claimed}
use Rattle.plan.proofs.owners.claim_entries.Given as goal

abbrev pub invariant-loop-p : goal.invariant-loop-p
invariant-loop-p l =
    (l.lo ≤ l.p) × (length l.owners ≡ length l.initial.owners) × (claimed l.owners (gather (entry_at l.rows l.b) l.p l.hi) ≡ claimed l.initial.owners (gather (entry_at l.rows l.b) l.lo l.hi))
