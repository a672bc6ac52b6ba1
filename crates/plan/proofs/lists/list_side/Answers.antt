-- `lists::list_side` meets its contract. Assumes nothing.
use native.Mathlib.Omega.{arith}
use mathlib.Core.Path.{refl}
use borrow.Author.Rules.{rules}
use Rattle.plan.proofs.ColumnRules.{first-place, numbers_start, numbers_few, numbers_next, numbers_room, columns_few, numbers_turn, numbers_done}
use Rattle.plan.proofs.lists.list_side.Goals as goal

pub loop-b-init : goal.loop-b-init
loop-b-init g c = (first-place _, refl, λ v h. numbers_start v _ _)

pub overflow_add-end : goal.overflow_add-end
overflow_add-end g c =
    let k = numbers_few _ _ c.as_chunks.ensures.front c.as_chunks.ensures.front_len _ c.loop-b-test.true _ _ _ c.requires.fit c.loop-b.invariant.0 c.wide.ensures.value in omega arith

pub offset_bounds-list-at : goal.offset_bounds-list-at
offset_bounds-list-at g c =
    let k = numbers_few _ _ c.as_chunks.ensures.front c.as_chunks.ensures.front_len _ c.loop-b-test.true _ _ _ c.requires.fit c.loop-b.invariant.0 c.wide.ensures.value in omega arith

pub slice_bounds-list_block-end : goal.slice_bounds-list_block-end
slice_bounds-list_block-end g c =
    let k = numbers_room _ _ c.as_chunks.ensures.front c.as_chunks.ensures.front_len _ c.loop-b-test.true _ _ _ c.requires.fit c.loop-b.invariant.0 c.wide.ensures.value in omega arith

pub list_block-requires-clause-few : goal.list_block-requires-clause-few
list_block-requires-clause-few g c =
    columns_few _ _ c.as_chunks.ensures.front c.as_chunks.ensures.front_len _ c.loop-b-test.true _ _ _ c.requires.fit c.loop-b.invariant.0 c.wide.ensures.value _ c.loop-b.invariant.1

pub loop-b-preserved : goal.loop-b-preserved
loop-b-preserved g c = (
  numbers_next _ _ c.as_chunks.ensures.front c.as_chunks.ensures.front_len _ c.loop-b-test.true _ _ _ c.requires.fit c.loop-b.invariant.0 c.wide.ensures.value,
  search rules,
  λ v h. numbers_turn _ _ c.as_chunks.ensures.front c.as_chunks.ensures.front_len _ c.loop-b-test.true _ _ _ c.requires.fit c.loop-b.invariant.0 c.wide.ensures.value _ c.loop-b.invariant.1 v _ _ (c.loop-b.invariant.2 v h) (c.list_block.ensures v h),
)

pub returns : goal.returns
returns g c = λ v h. numbers_done v _ _ _ _ _ c.loop-b.invariant.0 (let m = c.as_chunks.ensures.front_len in omega arith) (c.loop-b.invariant.2 v h)
