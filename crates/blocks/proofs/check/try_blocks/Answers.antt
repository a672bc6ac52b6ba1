-- `check::try_blocks` meets its contract. Assumes nothing.
use Rattle.std.proofs.Common.{refl}
use Rattle.std.proofs.lemmas.Result.{err_from_is_err_and}
use borrow.Author.Tests.{lt-ltb, le-ltb}
use Rattle.blocks.proofs.WalkRules.{first_found, none_found}
use Rattle.blocks.proofs.WalkLaws.{start_room, tried_stopped, tried_through}
use Rattle.blocks.proofs.check.try_blocks.Goals as goal

pub claim_sides-requires : goal.claim_sides-requires
claim_sides-requires c = rw c.mark_map.ensures (start_room _ _ c.requires)

pub returns-in_err-claim_sides : goal.returns-in_err-claim_sides
returns-in_err-claim_sides c =
    let p = err_from_is_err_and c.from_residual.result c.from_residual.ensures.1 in
    rw (p.1, p.2)
    (tried_stopped _ _ c.requires _ _ _ (rw (c.in_err-claim_sides.was, c.mark_map.ensures) at c.claim_sides.ensures))

pub returns-in-Some : goal.returns-in-Some
returns-in-Some c =
    let u = first_found _ _ _ c.first_free.ensures _ c.in-Some.is in
    rw (u.0, lt-ltb _ _ u.1) at (tried_through _ _ c.requires _ _ _ _ (rw (c.in_ok-claim_sides.was, c.mark_map.ensures) at c.claim_sides.ensures) refl)

pub returns-in-None : goal.returns-in-None
returns-in-None c =
    rw (le-ltb _ _ (none_found _ _ _ c.first_free.ensures c.in-None.is)) at (tried_through _ _ c.requires _ _ _ _ (rw (c.in_ok-claim_sides.was, c.mark_map.ensures) at c.claim_sides.ensures) refl)
