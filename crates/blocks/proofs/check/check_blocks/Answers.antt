-- `check::check_blocks` meets its contract. Assumes nothing.
use Rattle.std.proofs.lemmas.Result.{err_from_is_err_and}
use Rattle.columns.proofs.CallLaws.{told-refused, told-done}
use Rattle.blocks.proofs.CallRules.{early_roomy, blocks-refused, blocks-walked}
use Rattle.blocks.proofs.check.check_blocks.Goals as goal

pub returns-in_err-check_early : goal.returns-in_err-check_early
returns-in_err-check_early c =
    let p = err_from_is_err_and c.from_residual.result c.from_residual.ensures.1 in
    rw (p.1, p.2)
    (blocks-refused _ _ _ _ _ (told-refused _ _ _ c.check_early.ensures c.in_err-check_early.was))

pub walk_blocks-requires : goal.walk_blocks-requires
walk_blocks-requires c = rw c.count.ensures (early_roomy _ _ _ _ (told-done _ _ _ c.check_early.ensures c.in_ok-check_early.was))

pub returns : goal.returns
returns c =
    blocks-walked _ _ _ _ _ (told-done _ _ _ c.check_early.ensures c.in_ok-check_early.was) (rw c.count.ensures at c.walk_blocks.ensures)
