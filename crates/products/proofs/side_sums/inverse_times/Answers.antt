-- `side_sums::inverse_times` takes a block a turn. Assumes nothing.
use Rattle.std.proofs.Common.{refl, ap, ◌∙◌, arith}
use Rattle.blocks.specs.BlockList.{blocks_of}
use Rattle.blocks.proofs.BlockListLaws.{all_left, taken, none_left_of}
use Rattle.blocks.proofs.AccessRules.{squares_first}
use Rattle.blocks.proofs.ValueRules.{squares_after}
use Rattle.plan.proofs.ColumnRules.{first-place, next_place}
use Rattle.products.proofs.InverseRules.{rows_fit, inverses_turn, inverses-done}
use Rattle.products.proofs.side_sums.inverse_times.Goals as goal

pub loop-block-init : goal.loop-block-init
loop-block-init c =
    let a = all_left _ _ (ap (λ i. blocks_of i.rest.now) c.into_iter-block-iterator.ensures.into_iter_gives ∙ ap (λ r. blocks_of r.now) c.blocks_of-block-items.ensures) in
    (a.0, rw a.1 (first-place _), rw a.1 (squares_first _), refl, rw a.1)

pub inverse_block-requires : goal.inverse_block-requires
inverse_block-requires c =
    let i = c.loop-block.invariant in
    let t = taken _ _ i.0 _ _ c.in-Some.ensures.steps in
    rows_fit _ _ _ _ _ i.2 i.1 t.dof t.inside _ _ _ _ c.requires i.3

pub overflow_mul-from : goal.overflow_mul-from
overflow_mul-from c =
    let i = c.loop-block.invariant in
    let t = taken _ _ i.0 _ _ c.in-Some.ensures.steps in
    omega (arith, (rows_fit _ _ _ _ _ i.2 i.1 t.dof t.inside _ _ _ _ c.requires refl).fit.square)

pub overflow_add-from : goal.overflow_add-from
overflow_add-from c =
    let i = c.loop-block.invariant in
    let t = taken _ _ i.0 _ _ c.in-Some.ensures.steps in
    omega (arith, (rows_fit _ _ _ _ _ i.2 i.1 t.dof t.inside _ _ _ _ c.requires refl).fit.square)

pub overflow_add-at : goal.overflow_add-at
overflow_add-at c =
    let i = c.loop-block.invariant in
    let t = taken _ _ i.0 _ _ c.in-Some.ensures.steps in
    omega (arith, (rows_fit _ _ _ _ _ i.2 i.1 t.dof t.inside _ _ _ _ c.requires refl).fit.entries)

pub loop-block-preserved : goal.loop-block-preserved
loop-block-preserved c =
    let i = c.loop-block.invariant in
    let t = taken _ _ i.0 _ _ c.in-Some.ensures.steps in
    (t.next, rw t.on (next_place _ _ _ _ i.1 t.dof), rw t.on (squares_after _ _ _ _ i.2 t.dof), c.inverse_block.auto.out ∙ i.3, rw t.on (inverses_turn _ _ _ _ _ _ _ i.2 i.1 t.dof _ _ _ _ t.inside i.4 c.inverse_block.ensures))

pub returns : goal.returns
returns c =
    let i = c.loop-block.invariant in
    inverses-done c.args.elims.now c.args.inverses.now c.args.t.now _ _ _ _ (none_left_of _ _ i.0 c.in-None.ensures.steps.0) c.requires.room i.4
