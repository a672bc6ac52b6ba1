-- `columns::check::bad_row` meets its contract. Assumes nothing.
use Rattle.std.proofs.Common.{arith, refl}
use Rattle.ground.proofs.FirstLaws.{first_turn}
use Rattle.columns.specs.Lent.{seen}
use Rattle.columns.proofs.CheckLaws.{column-run, bad_row-at, column-good, bad_row_none}
use Rattle.columns.proofs.check.bad_row.Goals as goal

pub loop-column-init : goal.loop-column-init
loop-column-init c = (omega arith, refl)

pub bad_place-place-requires : goal.bad_place-place-requires
bad_place-place-requires c =
    rw (c.first_place-from.ensures, c.end_place-to.ensures) (column-run c.requires c.loop-column.column (rw c.count-column-end.ensures at c.loop-column-test.true))

pub returns-then-place-to : goal.returns-then-place-to
returns-then-place-to c =
    bad_row-at _ c.loop-column.column _ refl _ _ c.first_place-from.ensures c.end_place-to.ensures _ c.bad_place-place.ensures
    (rw c.count-column-end.ensures at c.loop-column-test.true) c.loop-column.invariant.1 c.if-place-to.true

pub loop-column-preserved : goal.loop-column-preserved
loop-column-preserved c =
    let inside = rw c.count-column-end.ensures at c.loop-column-test.true in (
      omega (arith, inside),
      first_turn _ inside c.loop-column.invariant.1
          (column-good (seen c.args.columns) c.loop-column.column _ refl _ _ c.first_place-from.ensures c.end_place-to.ensures _ c.bad_place-place.ensures c.if-place-to.false),
    )

pub returns : goal.returns
returns c = bad_row_none _ c.loop-column.column _ refl (rw c.count-column-end.ensures at c.loop-column-test.false) c.loop-column.invariant.1
