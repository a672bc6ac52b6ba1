-- `columns::unchecked::dot_columns` meets its contract. Assumes nothing.
use Rattle.std.proofs.Common.{◌≡◌}
use Rattle.columns.proofs.MergeLaws.{merge_start, merge_fits, merge_less, merge_turn, merge_end_a, merge_end_b}
use Rattle.columns.proofs.unchecked.dot_columns.Goals as goal

pub loop-at-init : goal.loop-at-init
loop-at-init c = merge_start _ _ _ _ _ c.first_place.ensures c.first_place-2.ensures

pub merge_step-at-requires : goal.merge_step-at-requires
merge_step-at-requires c =
    merge_fits _ _ _ c.requires c.loop-at.at (rw c.end_place-end_a.ensures at c.loop-at-test.true) (rw c.end_place-end_b.ensures at c.if-at-end_b.true)

pub loop-at-smaller : goal.loop-at-smaller
loop-at-smaller c = merge_less _ _ _ _ _ _ c.merge_step-at.ensures c.loop-at-test.true c.if-at-end_b.true

pub loop-at-preserved : goal.loop-at-preserved
loop-at-preserved c =
    merge_turn _ _ _ c.requires _ _ c.loop-at.invariant
    (rw c.end_place-end_a.ensures at c.loop-at-test.true) (rw c.end_place-end_b.ensures at c.if-at-end_b.true) c.merge_step-at.ensures

pub returns-else-at-end_b : goal.returns-else-at-end_b
returns-else-at-end_b c = merge_end_b _ _ _ _ c.loop-at.invariant (rw c.end_place-end_b.ensures at c.if-at-end_b.false)

pub returns-after-loop-at : goal.returns-after-loop-at
returns-after-loop-at c = merge_end_a _ _ _ _ c.loop-at.invariant (rw c.end_place-end_a.ensures at c.loop-at-test.false)
