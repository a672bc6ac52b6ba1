-- `side_sums::side_dof` takes a block a turn. Assumes nothing.
use Rattle.std.proofs.Common.{ap, ◌∙◌, arith}
use Rattle.blocks.specs.BlockList.{blocks_of}
use Rattle.blocks.proofs.BlockListLaws.{all_left, taken, none_left_of}
use Rattle.plan.proofs.ColumnRules.{first-place, next_place}
use Rattle.products.proofs.SideRules.{dofs_in, all_places}
use Rattle.products.proofs.side_sums.side_dof.Goals as goal

pub loop-block-init : goal.loop-block-init
loop-block-init c =
    let a = all_left _ _ (ap (λ i. blocks_of i.rest.now) c.into_iter-block-iterator.ensures.into_iter_gives ∙ ap (λ r. blocks_of r.now) c.blocks_of-block-items.ensures) in
    (a.0, rw a.1 (first-place _))

pub overflow_add-sum : goal.overflow_add-sum
overflow_add-sum c =
    let i = c.loop-block.invariant in
    let t = taken _ _ i.0 _ _ c.in-Some.ensures.steps in
    omega (arith, dofs_in _ _ _ _ c.requires i.1 t.dof t.inside)

pub loop-block-preserved : goal.loop-block-preserved
loop-block-preserved c =
    let i = c.loop-block.invariant in
    let t = taken _ _ i.0 _ _ c.in-Some.ensures.steps in
    (t.next, rw t.on (next_place _ _ _ _ i.1 t.dof))

pub returns : goal.returns
returns c =
    let i = c.loop-block.invariant in
    all_places _ _ _ i.1 (none_left_of _ _ i.0 c.in-None.ensures.steps.0)
