-- `blocks::block_values::gather_blocks` takes a block a turn. Assumes nothing.
use Rattle.std.proofs.Common.{ap, ◌∙◌, refl, arith}
use Rattle.columns.specs.Lent.{seen}
use Rattle.blocks.specs.BlockList.{blocks_of}
use Rattle.blocks.proofs.BlockListLaws.{all_left, taken, none_left_of}
use Rattle.blocks.proofs.AccessRules.{squares_first}
use Rattle.blocks.proofs.ValueRules.{values-fit, block-fits, squares_after, blocks_turn, blocks-done}
use Rattle.blocks.proofs.block_values.gather_blocks.Goals as goal

pub loop-block-init : goal.loop-block-init
loop-block-init c =
    let a = all_left _ _ (ap (λ i. blocks_of i.rest.now) c.into_iter-block-iterator.ensures.into_iter_gives ∙ ap (λ r. blocks_of r.now) c.blocks_of-block-items.ensures) in
    (a.0, rw a.1 (squares_first _), refl, rw a.1)

pub put_block-requires : goal.put_block-requires
put_block-requires c =
    let i = c.loop-block.invariant in
    let t = taken _ _ i.0 _ _ c.in-Some.ensures.steps in
    rw i.2 (block-fits _ _ _ _ i.1 t.dof _ _ t.inside refl (seen c.args.columns) _ t.first c.requires)

pub overflow_mul-at : goal.overflow_mul-at
overflow_mul-at c =
    let i = c.loop-block.invariant in
    let t = taken _ _ i.0 _ _ c.in-Some.ensures.steps in
    omega (arith, (values-fit _ _ _ _ i.1 t.dof _ _ t.inside refl c.requires.room).room)

pub overflow_add-at : goal.overflow_add-at
overflow_add-at c =
    let i = c.loop-block.invariant in
    let t = taken _ _ i.0 _ _ c.in-Some.ensures.steps in
    omega (arith, (values-fit _ _ _ _ i.1 t.dof _ _ t.inside refl c.requires.room).room)

pub loop-block-preserved : goal.loop-block-preserved
loop-block-preserved c =
    let a = c.args in
    let i = c.loop-block.invariant in
    let t = taken _ _ i.0 _ _ c.in-Some.ensures.steps in
    (t.next, rw t.on (squares_after _ _ _ _ i.1 t.dof), c.put_block.auto.out ∙ i.2, rw t.on (blocks_turn _ _ _ _ i.1 t.dof (seen a.columns) _ _ _ _ _ t.first t.inside i.3 c.put_block.ensures))

pub returns : goal.returns
returns c =
    let i = c.loop-block.invariant in
    blocks-done (seen c.args.columns) _ _ _ _ _ (none_left_of _ _ i.0 c.in-None.ensures.steps.0) c.requires.room i.3
