-- `update::combine_updates` tells what the blocks' check, and then the lengths' check, tells. Past both the lengths are those that `put_updates` asks,
-- and what it leaves is the update. Assumes nothing.
use Rattle.std.proofs.Common.{true, false}
use Rattle.std.proofs.lemmas.Result.{err_from_is_err_and}
use Rattle.columns.specs.Lent.{seen}
use Rattle.blocks.specs.Claims.{BlocksKeep}
use Rattle.products.specs.Couplings.{update_lengths, combine_updates}
use Rattle.products.proofs.LentRules.{LentPassed, first-refused, first_keep, then_refused, then_passes, made-refused, made-done, dofs-fit, update_lengths_lem, updates_fit, update_done}
use Rattle.products.proofs.update.combine_updates.Goals.{In_ok-check_blocks, In_ok-check_lengths}
use Rattle.products.proofs.update.combine_updates.Goals as goal

-- past the blocks' check, and past the lengths'

keep : (c : In_ok-check_blocks) → BlocksKeep (seen c.args.columns) c.args.sides.kept.now c.args.sides.elims.now c.args.map.now
keep c = first_keep _ _ _ _ c.check_blocks.result _ c.check_blocks.ensures c.in_ok-check_blocks.was

passed : (c : In_ok-check_lengths) → LentPassed (seen c.args.columns) c.args.sides.kept.now c.args.sides.elims.now c.args.map.now
    (update_lengths (seen c.args.columns) c.args.sides.kept.now c.args.sides.elims.now c.args.kept_update.now c.args.elims_update.now c.args.out.now) c.check_lengths.new.map
passed c =
    then_passes _ _ _ _ c.check_blocks.result _ c.check_blocks.ensures c.in_ok-check_blocks.was c.check_lengths.result _ _ c.count-n.ensures _ _ (update_lengths_lem _ _ c.args.kept_update.now c.args.elims_update.now c.args.out.now _ _ _ _ c.side_dof.ensures c.side_dof-2.ensures c.count-n.ensures) c.check_lengths.ensures c.in_ok-check_lengths.was

pub returns-in_err-check_blocks : goal.returns-in_err-check_blocks
unfolding combine_updates
returns-in_err-check_blocks c =
    let p = err_from_is_err_and c.from_residual.result c.from_residual.ensures.1 in
    rw (p.1, p.2)
    (made-refused _ _ _ _ _ _ _ _ _ (first-refused _ _ _ _ c.check_blocks.result _ c.check_blocks.ensures _ _ c.in_err-check_blocks.was))

pub side_dof-requires : goal.side_dof-requires
side_dof-requires c = dofs-fit _ _ _ _ (keep (goal.at.side_dof-requires c).In_ok-check_blocks) false

pub side_dof-requires-2 : goal.side_dof-requires-2
side_dof-requires-2 c = dofs-fit _ _ _ _ (keep (goal.at.side_dof-requires-2 c).In_ok-check_blocks) true

pub returns-in_err-check_lengths : goal.returns-in_err-check_lengths
unfolding combine_updates
returns-in_err-check_lengths c =
    let p = err_from_is_err_and c.from_residual-in_err-check_lengths.result c.from_residual-in_err-check_lengths.ensures.1 in
    rw (p.1, p.2)
    (made-refused _ _ _ _ _ _ _ _ _ (then_refused _ _ _ _ c.check_blocks.result _ c.check_blocks.ensures c.in_ok-check_blocks.was c.check_lengths.result _ _ c.count-n.ensures _ _ (update_lengths_lem _ _ c.args.kept_update.now c.args.elims_update.now c.args.out.now _ _ _ _ c.side_dof.ensures c.side_dof-2.ensures c.count-n.ensures) c.check_lengths.ensures _ c.in_err-check_lengths.was))

pub put_updates-requires : goal.put_updates-requires
put_updates-requires c =
    updates_fit _ _ _ _ c.args.kept_update.now c.args.elims_update.now c.args.out.now _ (passed (goal.at.put_updates-requires c).In_ok-check_lengths)

pub returns : goal.returns
unfolding combine_updates
returns c =
    let g = passed (goal.at.returns c).In_ok-check_lengths in
    made-done _ _ _ _ _ _ _ _ _ g (update_done _ _ _ _ c.args.kept_update.now c.args.elims_update.now c.args.out.now _ g _ c.put_updates.ensures)
