-- `owners::claim_entries` meets its contract. Assumes nothing.
use Rattle.plan.proofs.OwnerRules.{claims_stop}
use Rattle.std.proofs.lemmas.Result.{err_from_is_err_and}
use Rattle.plan.proofs.owners.claim_entries.Goals as goal

pub returns-in_err-claim_entry : goal.returns-in_err-claim_entry
returns-in_err-claim_entry c =
    let p = err_from_is_err_and c.from_residual.result c.from_residual.ensures.1 in
    rw (p.1, p.2)
    (claims_stop _ _ _ _ _ _ _ c.loop-p-test.true c.loop-p.invariant.2 c.claim_entry.ensures _ c.in_err-claim_entry.was)
