-- `blocks::eliminated_blocks::block` meets its contract. Assumes nothing.
use native.Mathlib.Omega.{arith}
use Rattle.blocks.proofs.AccessRules.{place_in_lem}
use Rattle.blocks.proofs.AccessRules.{access}
use Rattle.blocks.proofs.eliminated_blocks.block.Goals as goal

pub overflow_add-to : goal.overflow_add-to
overflow_add-to c = omega (arith, place_in_lem _ _ _ c.block_place-place.result c.block_place-place.ensures)

pub offset_bounds-values-from : goal.offset_bounds-values-from
offset_bounds-values-from c = omega (arith, place_in_lem _ _ _ c.block_place-place.result c.block_place-place.ensures)

pub slice_bounds-result-end : goal.slice_bounds-result-end
slice_bounds-result-end c = omega (arith, place_in_lem _ _ _ c.block_place-place.result c.block_place-place.ensures)
