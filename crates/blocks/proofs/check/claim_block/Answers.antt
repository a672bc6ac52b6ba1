-- `check::claim_block` meets its contract. Assumes nothing.
use Rattle.std.proofs.Common.{rules, refl, arith}
use lib.ListN.{length-set}
use Rattle.ground.proofs.FoldLaws.{fold_done}
use Rattle.blocks.proofs.WalkRules.{block_enters, block_out, column-out, column-twice, column-free, room_step}
use Rattle.blocks.proofs.check.claim_block.Goals as goal

pub returns-then-n-first : goal.returns-then-n-first
returns-then-n-first c = block_out _ c.args.side.now c.args.b _ _ _ c.wide-first.ensures.value c.if-n-first.true

pub loop-i-init : goal.loop-i-init
loop-i-init c =
    (block_enters _ c.args.side.now c.args.b _ _ _ c.wide-first.ensures.value c.wide-dof.ensures.value c.if-n-first.false, c.requires.room, search rules, search rules, refl)

pub returns-then-n-column : goal.returns-then-n-column
returns-then-n-column c = column-out _ _ _ _ _ _ _ c.loop-i-test.true c.loop-i.invariant.0 c.if-n-column.true

pub returns-then-map-column : goal.returns-then-map-column
returns-then-map-column c =
    column-twice _ _ _ _ _ _ _ c.loop-i-test.true c.loop-i.invariant.0 c.if-n-column.false (λ e. omega (arith, e, c.if-map-column.true))

pub loop-i-preserved : goal.loop-i-preserved
loop-i-preserved c =
    let l = c.loop-i in (
      column-free _ _ _ _ _ _ _ c.loop-i-test.true l.invariant.0 c.if-n-column.false (search rules),
      room_step _ l.invariant.1 c.if-n-column.false (search rules),
      search rules,
      search rules,
      simp length-set l.invariant.4,
    )

pub returns : goal.returns
returns c = fold_done _ _ c.loop-i-test.false c.loop-i.invariant.0
