-- `blocks::eliminated_blocks::at` meets its contract. Assumes nothing.
use Rattle.std.proofs.Common.{arith, refl}
use Rattle.blocks.proofs.AccessRules.{access, entry_in}
use Rattle.blocks.proofs.eliminated_blocks.at.Goals as goal

pub overflow_add-result-2 : goal.overflow_add-result-2
overflow_add-result-2 c = omega (arith, entry_in c.args.values.now _ _ c.block_place-place.result c.block_place-place.ensures _ _ _ c.if-place-eq0.false c.block_dof-d.ensures.value c.if-row-d.false c.if-col-d.false)

pub offset_bounds-values-place : goal.offset_bounds-values-place
offset_bounds-values-place c = omega (arith, entry_in c.args.values.now _ _ c.block_place-place.result c.block_place-place.ensures _ _ _ c.if-place-eq0.false c.block_dof-d.ensures.value c.if-row-d.false c.if-col-d.false)

pub bounds-values-place : goal.bounds-values-place
bounds-values-place c = omega (arith, entry_in c.args.values.now _ _ c.block_place-place.result c.block_place-place.ensures _ _ _ c.if-place-eq0.false c.block_dof-d.ensures.value c.if-row-d.false c.if-col-d.false)
