-- `check::claim_sides` meets its contract. Assumes nothing.
use Rattle.std.proofs.lemmas.Result.{err_from_is_err_and}
use Rattle.blocks.proofs.WalkRules.{room_after, both_through, both_stopped}
use Rattle.blocks.proofs.check.claim_sides.Goals as goal

pub returns-in_err-next : goal.returns-in_err-next
returns-in_err-next c =
    let p = err_from_is_err_and c.from_residual.result c.from_residual.ensures.1 in
    rw (p.1, p.2)
    (both_stopped _ _ _ _ _ _ _ (rw c.in_err-next.was at c.claim_side.ensures))

pub claim_side-requires-2 : goal.claim_side-requires-2
claim_side-requires-2 c = room_after _ _ _ _ _ _ c.requires (rw c.in_ok-next.was at c.claim_side.ensures)

pub returns : goal.returns
returns c = both_through _ _ _ _ _ _ _ _ (rw c.in_ok-next.was at c.claim_side.ensures) c.claim_side-2.ensures
