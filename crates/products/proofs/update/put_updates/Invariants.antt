-- `products::update::put_updates` meets its contract. Assumes nothing.
use Rattle.std.proofs.Common.{◌≡◌, ◌-◌, length, set}
use Rattle.ground.specs.Gather.{list_of}
use Rattle.ground.specs.Range.{range}
use Rattle.products.specs.LentCalls.{update_by}
use Rattle.products.proofs.update.put_updates.Given as goal

abbrev pub invariant-loop-c : goal.invariant-loop-c
invariant-loop-c l =
    (length l.out ≡ length l.initial.out) × (range (λ i z. set z i (update_by l.map l.kept_update l.elims_update i)) l.c (length l.initial.out) l.out ≡ list_of (update_by l.map l.kept_update l.elims_update) (length l.initial.out))

abbrev pub decreases-loop-c : goal.decreases-loop-c
decreases-loop-c l =
    length l.initial.out - l.c
