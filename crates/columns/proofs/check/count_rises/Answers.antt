-- `columns::check::count_rises` counts the rows that are gone and rise. Assumes nothing.
use Rattle.std.proofs.Common.{refl, ◌∙◌, ◌-◌, arith, get_or, ltb}
use Rattle.columns.specs.Rises.{row_rises}
use Rattle.columns.proofs.CountLaws.{byte_bit, byte_most, count_turn, count-done}
use Rattle.columns.proofs.RiseLaws.{rises_read}
use Rattle.columns.proofs.check.count_rises.Goals as goal

pub loop-p-preserved : goal.loop-p-preserved
loop-p-preserved c =
    let rows = c.args.rows.now in
    let i = c.loop-p.invariant in
    let rises = ltb (get_or rows (c.loop-p.p - 1) 0) (get_or rows c.loop-p.p 0) in (
      omega (arith, i.0, c.from-n.ensures, byte_most rises),
      count_turn (row_rises rows) _ _ _ rises c.loop-p-test.true i.1 (rises_read rows _) (c.from-n.ensures ∙ byte_bit rises) refl,
    )

pub returns : goal.returns
returns c = count-done (row_rises c.args.rows.now) _ c.loop-p-test.false c.loop-p.invariant.1
