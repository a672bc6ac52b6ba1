-- `owners::claim_block` meets its contract. Assumes nothing.
use mathlib.Core.Path.{refl}
use Rattle.plan.proofs.OwnerRules.{block_enters}
use Rattle.plan.proofs.OwnerRules.{claiming, claims_stop}
use Rattle.std.proofs.lemmas.Result.{err_from_is_err_and}
use Rattle.plan.proofs.owners.claim_block.Goals as goal

pub loop-i-init : goal.loop-i-init
loop-i-init c =
    (refl, block_enters c.args.columns.ptrs.now c.args.columns.rows.now c.args.elims.now c.args.b _ _ _ _ refl c.wide-first.ensures.value c.wide-dof.ensures.value)

pub claim_column-requires : goal.claim_column-requires
claim_column-requires c = search claiming

pub returns-in_err-claim_column : goal.returns-in_err-claim_column
returns-in_err-claim_column c =
    let p = err_from_is_err_and c.from_residual.result c.from_residual.ensures.1 in
    rw (p.1, p.2)
    (claims_stop _ _ _ _ _ _ _ c.loop-i-test.true c.loop-i.invariant.1 c.claim_column.ensures _ c.in_err-claim_column.was)
