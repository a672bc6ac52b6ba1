-- `check::claim_side` meets its contract. Assumes nothing.
use Rattle.std.proofs.Common.{rules, refl, arith}
use Rattle.std.proofs.lemmas.Result.{err_from_is_err_and}
use Rattle.ground.proofs.FoldLaws.{fold_done}
use Rattle.blocks.proofs.WalkRules.{room_after, side-through, side-stopped}
use Rattle.blocks.proofs.check.claim_side.Goals as goal

pub loop-b-init : goal.loop-b-init
loop-b-init c = (refl, c.requires, search rules, refl)

pub claim_block-requires : goal.claim_block-requires
claim_block-requires c = record { there = search rules; room = c.loop-b.invariant.1 }

pub returns-in_err-next : goal.returns-in_err-next
returns-in_err-next c =
    let p = err_from_is_err_and c.from_residual.result c.from_residual.ensures.1 in
    rw (p.1, p.2)
    (side-stopped _ _ _ _ _ _ _ _ c.loop-b-test.true c.loop-b.invariant.0 _ (rw c.in_err-next.was at c.claim_block.ensures))

pub loop-b-preserved : goal.loop-b-preserved
loop-b-preserved c =
    let l = c.loop-b in
    let e = rw c.in_ok-next.was at c.claim_block.ensures in
    (side-through _ _ _ _ _ _ _ _ c.loop-b-test.true l.invariant.0 _ e, room_after _ _ _ _ _ _ l.invariant.1 e, search rules, search rules)

pub returns : goal.returns
returns c = fold_done _ _ c.loop-b-test.false c.loop-b.invariant.0
