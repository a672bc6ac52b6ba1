-- `check::check_parts` meets its contract. Assumes nothing.
use Rattle.std.proofs.Common.{refl}
use Rattle.std.proofs.lemmas.Result.{err_from_is_err_and}
use Rattle.columns.proofs.CallLaws.{first_refused, then_told}
use Rattle.blocks.proofs.CallRules.{lists_first}
use Rattle.blocks.proofs.check.check_parts.Goals as goal

pub returns-in_err-sooner : goal.returns-in_err-sooner
returns-in_err-sooner c =
    let p = err_from_is_err_and c.from_residual.result c.from_residual.ensures.1 in
    rw (p.1, p.2) (first_refused _ _ _ _ (lists_first _ _ _ _ _ _ c.check_columns.ensures c.check_lists.ensures c.sooner.ensures) c.in_err-sooner.was)

pub returns-in_err-empty_side : goal.returns-in_err-empty_side
returns-in_err-empty_side c =
    let p = err_from_is_err_and c.from_residual-in_err-empty_side.result c.from_residual-in_err-empty_side.ensures.1 in
    rw (p.1, p.2)
    (then_told _ _ _ _ _ (lists_first _ _ _ _ _ _ c.check_columns.ensures c.check_lists.ensures c.sooner.ensures) c.in_ok-sooner.was (first_refused _ _ _ _ c.empty_side.ensures c.in_err-empty_side.was))

pub returns : goal.returns
returns c =
    then_told _ _ _ _ _ (lists_first _ _ _ _ _ _ c.check_columns.ensures c.check_lists.ensures c.sooner.ensures) c.in_ok-sooner.was (then_told _ _ _ _ _ c.empty_side.ensures c.in_ok-empty_side.was refl)
