-- `order::run_order` does one step a turn, for the chunk at the next place of the order. The invariant: the progress counts the places before i,
-- and the rows with the terms of the places from i on swept into them are the rows with all swept in. Assumes nothing.
use Rattle.std.proofs.Common.{◌≡◌, ◌-◌, ◌≤◌, length}
use Rattle.ground.specs.Gather.{gather}
use Rattle.columns.specs.Sums.{swept_on}
use Rattle.plan.specs.LentSpans.{spread_lent}
use Rattle.products.specs.OrderWalk.{entries_only, counts, place_terms}
use Rattle.products.proofs.order.run_order.Given as goal

abbrev pub invariant-loop-chunk : goal.invariant-loop-chunk
invariant-loop-chunk l =
    (l.chunk-index ≤ length l.order) × (length l.y ≡ length l.initial.y) × (l.progress ≡ counts (length l.initial.progress) l.order l.chunk-index) × (swept_on l.sign l.y (gather (place_terms (entries_only l.columns.rows.now l.columns.values.now) (spread_lent l.spans) l.v l.order) l.chunk-index (length l.order)) ≡ swept_on l.sign l.initial.y (gather (place_terms (entries_only l.columns.rows.now l.columns.values.now) (spread_lent l.spans) l.v l.order) 0 (length l.order)))

abbrev pub decreases-loop-chunk : goal.decreases-loop-chunk
decreases-loop-chunk l =
    length l.order - l.chunk-index
