-- `side_sums::sweep_side` takes a block a turn. Assumes nothing.
use Rattle.std.proofs.Common.{length, refl, ap, ◌∙◌, arith}
use Rattle.columns.specs.Lent.{over}
use Rattle.blocks.specs.BlockList.{blocks_of}
use Rattle.blocks.proofs.BlockListLaws.{all_left, taken, none_left_of}
use Rattle.plan.proofs.ColumnRules.{first-place, next_place}
use Rattle.products.proofs.SideRules.{places_in, places-fit, blocks-swept, sweep_start, sweep_done}
use Rattle.products.proofs.side_sums.sweep_side.Goals as goal

pub loop-block-init : goal.loop-block-init
loop-block-init c =
    let a = all_left _ _ (ap (λ i. blocks_of i.rest.now) c.into_iter-block-iterator.ensures.into_iter_gives ∙ ap (λ r. blocks_of r.now) c.blocks_of-block-items.ensures) in
    (a.0, rw a.1 (first-place _), refl, sweep_start (over (length c.args.y.now) c.args.columns) c.args.side.now c.args.sign c.args.v.now c.args.y.now)

pub sweep_block-requires : goal.sweep_block-requires
sweep_block-requires c =
    let i = c.loop-block.invariant in
    let t = taken _ _ i.0 _ _ c.in-Some.ensures.steps in
    places-fit _ _ _ _ _ i.1 t.first t.dof t.inside _ _ _ _ _ _ _ c.requires i.2 refl

pub overflow_add-at : goal.overflow_add-at
overflow_add-at c =
    let i = c.loop-block.invariant in
    let t = taken _ _ i.0 _ _ c.in-Some.ensures.steps in
    omega (arith, places_in _ _ _ _ i.1 t.dof t.inside, c.requires.room)

pub loop-block-preserved : goal.loop-block-preserved
loop-block-preserved c =
    let i = c.loop-block.invariant in
    let t = taken _ _ i.0 _ _ c.in-Some.ensures.steps in
    (t.next, rw t.on (next_place _ _ _ _ i.1 t.dof), c.sweep_block.auto.y ∙ i.2, blocks-swept _ _ _ _ _ i.1 t.first t.dof t.inside c.args.sign (over (length c.args.y.now) c.args.columns) c.args.v.now c.loop-block.y _ _ i.3 (rw i.2 at c.sweep_block.ensures))

pub returns : goal.returns
returns c =
    let i = c.loop-block.invariant in
    sweep_done (over (length c.args.y.now) c.args.columns) _ _ _ i.1 (none_left_of _ _ i.0 c.in-None.ensures.steps.0) c.args.sign c.args.v.now _ _ i.3
