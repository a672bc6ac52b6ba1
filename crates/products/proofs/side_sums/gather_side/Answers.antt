-- `side_sums::gather_side` takes a block a turn. Assumes nothing.
use Rattle.std.proofs.Common.{length, refl, ap, ◌∙◌, arith}
use Rattle.columns.specs.Lent.{over}
use Rattle.blocks.specs.BlockList.{blocks_of}
use Rattle.blocks.proofs.BlockListLaws.{all_left, taken, none_left_of}
use Rattle.plan.proofs.ColumnRules.{first-place, next_place}
use Rattle.products.proofs.SideRules.{places_in, places-fit, blocks-gathered, gather_start, gather-done}
use Rattle.products.proofs.side_sums.gather_side.Goals as goal

pub loop-block-init : goal.loop-block-init
loop-block-init c =
    let a = all_left _ _ (ap (λ i. blocks_of i.rest.now) c.into_iter-block-iterator.ensures.into_iter_gives ∙ ap (λ r. blocks_of r.now) c.blocks_of-block-items.ensures) in
    (a.0, rw a.1 (first-place _), refl, gather_start (over (length c.args.y.now) c.args.columns) c.args.side.now c.args.start c.args.y.now c.args.out.now c.requires.room)

pub gather_block-requires : goal.gather_block-requires
gather_block-requires c =
    let i = c.loop-block.invariant in
    let t = taken _ _ i.0 _ _ c.in-Some.ensures.steps in
    places-fit _ _ _ _ _ i.1 t.first t.dof t.inside _ _ _ _ _ _ _ c.requires refl i.2

pub overflow_add-at : goal.overflow_add-at
overflow_add-at c =
    let i = c.loop-block.invariant in
    let t = taken _ _ i.0 _ _ c.in-Some.ensures.steps in
    omega (arith, places_in _ _ _ _ i.1 t.dof t.inside, c.requires.room)

pub loop-block-preserved : goal.loop-block-preserved
loop-block-preserved c =
    let i = c.loop-block.invariant in
    let t = taken _ _ i.0 _ _ c.in-Some.ensures.steps in
    (t.next, rw t.on (next_place _ _ _ _ i.1 t.dof), c.gather_block.auto.out ∙ i.2, blocks-gathered _ _ _ _ _ i.1 t.first t.dof t.inside c.args.start (over (length c.args.y.now) c.args.columns) c.args.y.now c.loop-block.out _ _ i.3 c.gather_block.ensures)

pub returns : goal.returns
returns c =
    let i = c.loop-block.invariant in
    gather-done (over (length c.args.y.now) c.args.columns) _ _ _ i.1 (none_left_of _ _ i.0 c.in-None.ensures.steps.0) c.args.start c.args.y.now _ _ i.3
