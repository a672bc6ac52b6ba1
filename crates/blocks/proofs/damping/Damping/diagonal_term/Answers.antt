-- `damping::Damping::diagonal_term` meets its contract. Assumes nothing.
use Rattle.blocks.proofs.DampingRules.{damping}
use Rattle.std.proofs.lemmas.Result.{err_from_is_err_and}
use Rattle.blocks.proofs.damping.Damping.diagonal_term.Goals as goal

pub returns-in_err-check : goal.returns-in_err-check
returns-in_err-check c =
    let p = err_from_is_err_and c.from_residual.result c.from_residual.ensures.1 in
    rw (p.1, p.2) (search damping)
