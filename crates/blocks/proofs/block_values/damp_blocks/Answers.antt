-- `blocks::block_values::damp_blocks` takes a block a turn. Assumes nothing.
use Rattle.std.proofs.Common.{ap, ◌∙◌, refl, arith}
use Rattle.ground.proofs.RangeLaws.{turn, done}
use Rattle.blocks.specs.BlockList.{blocks_of}
use Rattle.blocks.specs.BlockValues.{damp_block}
use Rattle.blocks.proofs.BlockListLaws.{all_left, taken, none_left_of}
use Rattle.blocks.proofs.AccessRules.{squares_first}
use Rattle.blocks.proofs.ValueRules.{values-fit, squares_after, damp_turn}
use Rattle.blocks.proofs.block_values.damp_blocks.Goals as goal

pub loop-block-init : goal.loop-block-init
loop-block-init c =
    let a = all_left _ _ (ap (λ i. blocks_of i.rest.now) c.into_iter-block-iterator.ensures.into_iter_gives ∙ ap (λ r. blocks_of r.now) c.blocks_of-block-items.ensures) in
    (a.0, rw a.1 (squares_first _), refl, rw a.1)

pub damp_block-requires : goal.damp_block-requires
damp_block-requires c =
    let i = c.loop-block.invariant in
    let t = taken _ _ i.0 _ _ c.in-Some.ensures.steps in
    rw i.2 (values-fit _ _ _ _ i.1 t.dof _ _ t.inside refl c.requires)

pub overflow_mul-at : goal.overflow_mul-at
overflow_mul-at c =
    let i = c.loop-block.invariant in
    let t = taken _ _ i.0 _ _ c.in-Some.ensures.steps in
    omega (arith, (values-fit _ _ _ _ i.1 t.dof _ _ t.inside refl c.requires).room)

pub overflow_add-at : goal.overflow_add-at
overflow_add-at c =
    let i = c.loop-block.invariant in
    let t = taken _ _ i.0 _ _ c.in-Some.ensures.steps in
    omega (arith, (values-fit _ _ _ _ i.1 t.dof _ _ t.inside refl c.requires).room)

pub loop-block-preserved : goal.loop-block-preserved
loop-block-preserved c =
    let a = c.args in
    let i = c.loop-block.invariant in
    let t = taken _ _ i.0 _ _ c.in-Some.ensures.steps in
    (t.next, rw t.on (squares_after _ _ _ _ i.1 t.dof), c.damp_block.auto.out ∙ i.2, rw t.on (turn (damp_block a.damping a.elims.now) t.inside i.3 (damp_turn _ _ _ _ i.1 t.dof a.damping _ _ c.damp_block.ensures)))

pub returns : goal.returns
returns c =
    let i = c.loop-block.invariant in
    done (damp_block c.args.damping c.args.elims.now) (none_left_of _ _ i.0 c.in-None.ensures.steps.0) i.3
