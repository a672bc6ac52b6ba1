-- `lists::list_side` meets its contract. Assumes nothing.
use Rattle.std.proofs.Common.{◌≡◌, ◌++◌, ℕ, length, drop}
use Rattle.ground.specs.Gather.{gather}
use Rattle.blocks.specs.Sides.{offset_of}
use Rattle.plan.specs.ColumnLists.{block_numbers, Gives}
use Rattle.plan.proofs.lists.list_side.Given as goal

abbrev pub invariant-loop-b : goal.invariant-loop-b
invariant-loop-b g l =
    (l.at ≡ offset_of l.fn.side l.b) × (length l.list ≡ length l.initial.list)
    × ((v : ℕ → ℕ → ℕ) → Gives (goal.F-post g l.number) v → l.list ≡ gather (block_numbers v l.fn.side) 0 l.b ++ drop l.at l.initial.list)
