-- `owners::claim_blocks` meets its contract. Assumes nothing.
use Rattle.plan.proofs.OwnerRules.{claiming, claims_stop}
use Rattle.std.proofs.lemmas.Result.{err_from_is_err_and}
use Rattle.plan.proofs.owners.claim_blocks.Goals as goal

pub claim_block-requires : goal.claim_block-requires
claim_block-requires c = search claiming

pub returns-in_err-claim_block : goal.returns-in_err-claim_block
returns-in_err-claim_block c =
    let p = err_from_is_err_and c.from_residual.result c.from_residual.ensures.1 in
    rw (p.1, p.2)
    (claims_stop _ _ _ _ _ _ _ c.loop-b-test.true c.loop-b.invariant.1 c.claim_block.ensures _ c.in_err-claim_block.was)
