-- `eliminated_blocks::check_values` tells what the blocks' check tells, then the values' length, then what the caller has checked. A pass of the first gives what counting
-- the values asks; a later refusal marks the map as the blocks' do. Assumes nothing.
use Rattle.std.proofs.lemmas.Result.{err_from_is_err_and}
use Rattle.std.proofs.Common.{◌∙◌, ap}
use Rattle.columns.specs.Refusals.{told}
use Rattle.columns.proofs.RefusalLaws.{and_told}
use Rattle.blocks.proofs.ValueCalls.{check_refused, limited_of, blocks_keep, later_refused, later_done}
use Rattle.blocks.proofs.eliminated_blocks.check_values.Goals as goal

pub returns-in_err-check_blocks : goal.returns-in_err-check_blocks
returns-in_err-check_blocks c =
    let p = err_from_is_err_and c.from_residual.result c.from_residual.ensures.1 in
    rw (p.1, p.2)
    (check_refused _ _ _ _ c.check_blocks.result _ c.check_blocks.ensures _ _ _ c.in_err-check_blocks.was)

pub count_values-requires : goal.count_values-requires
count_values-requires c =
    limited_of _ _ _ _ (blocks_keep _ _ _ _ c.check_blocks.result _ c.check_blocks.ensures c.in_ok-check_blocks.was)

pub returns-in-Err : goal.returns-in-Err
returns-in-Err c =
    later_refused _ _ _ _ c.check_blocks.result _ c.check_blocks.ensures c.in_ok-check_blocks.was _ _ c.wrong_length.result c.args.more c.and.result
    c.count_values.ensures c.wrong_length.ensures (ap told c.and.ensures ∙ and_told _ _) c.in-Err.refusal _ _ c.in-Err.is c.count.ensures c.mark_map.ensures

pub returns : goal.returns
returns c =
    later_done _ _ _ _ c.check_blocks.result _ c.check_blocks.ensures c.in_ok-check_blocks.was _ _ c.wrong_length.result c.args.more c.and.result
    c.count_values.ensures c.wrong_length.ensures (ap told c.and.ensures ∙ and_told _ _) c.in_default.is
