-- `lists::list_block` meets its contract. Assumes nothing.
use Rattle.std.proofs.Common.{◌≡◌, ◌++◌, ℕ, ◌+◌, drop}
use Rattle.ground.specs.Gather.{list_of}
use Rattle.plan.specs.ColumnLists.{Gives}
use Rattle.plan.proofs.lists.list_block.Given as goal

abbrev pub invariant-loop-i : goal.invariant-loop-i
invariant-loop-i g l =
    (v : ℕ → ℕ → ℕ) → Gives (goal.F-post g l.number) v → l.places ≡ list_of (λ i. v l.block (l.first + i)) l.i ++ drop l.i l.initial.places
