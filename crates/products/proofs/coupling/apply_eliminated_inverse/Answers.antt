-- `coupling::apply_eliminated_inverse` tells what the blocks' check, and then the lengths' check, tells. Past both the lengths are those that `inverse_times` asks,
-- and what it leaves is the answer's product. Assumes nothing.
use Rattle.std.proofs.Common.{true}
use Rattle.std.proofs.lemmas.Result.{err_from_is_err_and}
use Rattle.columns.specs.Lent.{seen}
use Rattle.blocks.specs.Claims.{BlocksKeep}
use Rattle.blocks.proofs.ValueCalls.{limited_of}
use Rattle.products.specs.Couplings.{inverse_lengths, apply_eliminated_inverse}
use Rattle.products.proofs.LentRules.{LentPassed, first-refused, first_keep, then_refused, then_passes, made-refused, made-done, dofs-fit, inverse_lengths_lem, inverses-fit}
use Rattle.products.proofs.coupling.apply_eliminated_inverse.Goals.{In_ok-check_blocks, In_ok-check_lengths}
use Rattle.products.proofs.coupling.apply_eliminated_inverse.Goals as goal

-- past the blocks' check, and past the lengths'

keep : (c : In_ok-check_blocks) → BlocksKeep (seen c.args.columns) c.args.sides.kept.now c.args.sides.elims.now c.args.map.now
keep c = first_keep _ _ _ _ c.check_blocks.result _ c.check_blocks.ensures c.in_ok-check_blocks.was

passed : (c : In_ok-check_lengths) → LentPassed (seen c.args.columns) c.args.sides.kept.now c.args.sides.elims.now c.args.map.now (inverse_lengths c.args.sides.elims.now c.args.b.now c.args.inverses.now c.args.out.now) c.check_lengths.new.map
passed c =
    then_passes _ _ _ _ c.check_blocks.result _ c.check_blocks.ensures c.in_ok-check_blocks.was c.check_lengths.result _ _ c.count.ensures _ _ (inverse_lengths_lem _ c.args.b.now c.args.inverses.now c.args.out.now _ _ c.side_dof-dof.ensures c.count_values.ensures) c.check_lengths.ensures c.in_ok-check_lengths.was

pub returns-in_err-check_blocks : goal.returns-in_err-check_blocks
unfolding apply_eliminated_inverse
returns-in_err-check_blocks c =
    let p = err_from_is_err_and c.from_residual.result c.from_residual.ensures.1 in
    rw (p.1, p.2)
    (made-refused _ _ _ _ _ _ _ _ _ (first-refused _ _ _ _ c.check_blocks.result _ c.check_blocks.ensures _ _ c.in_err-check_blocks.was))

pub side_dof-dof-requires : goal.side_dof-dof-requires
side_dof-dof-requires c = dofs-fit _ _ _ _ (keep (goal.at.side_dof-dof-requires c).In_ok-check_blocks) true

pub count_values-requires : goal.count_values-requires
count_values-requires c = limited_of _ _ _ _ (keep (goal.at.count_values-requires c).In_ok-check_blocks)

pub returns-in_err-check_lengths : goal.returns-in_err-check_lengths
unfolding apply_eliminated_inverse
returns-in_err-check_lengths c =
    let p = err_from_is_err_and c.from_residual-in_err-check_lengths.result c.from_residual-in_err-check_lengths.ensures.1 in
    rw (p.1, p.2)
    (made-refused _ _ _ _ _ _ _ _ _ (then_refused _ _ _ _ c.check_blocks.result _ c.check_blocks.ensures c.in_ok-check_blocks.was c.check_lengths.result _ _ c.count.ensures _ _ (inverse_lengths_lem _ c.args.b.now c.args.inverses.now c.args.out.now _ _ c.side_dof-dof.ensures c.count_values.ensures) c.check_lengths.ensures _ c.in_err-check_lengths.was))

pub inverse_times-requires : goal.inverse_times-requires
inverse_times-requires c =
    inverses-fit _ c.args.b.now c.args.inverses.now c.args.out.now (passed (goal.at.inverse_times-requires c).In_ok-check_lengths).lengths

pub returns : goal.returns
unfolding apply_eliminated_inverse
returns c =
    made-done _ _ _ _ _ _ _ _ _ (passed (goal.at.returns c).In_ok-check_lengths) c.inverse_times.ensures
