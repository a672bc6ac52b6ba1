-- `columns::check::check_columns` meets its contract. Assumes nothing.
use Rattle.std.proofs.Common.{sym, ◌∙◌}
use Rattle.columns.specs.Columns.{checked}
use Rattle.columns.specs.Lent.{seen}
use Rattle.columns.proofs.CheckLaws.{shape_of}
use Rattle.columns.proofs.RiseLaws.{rises-fit, all_rise-done}
use Rattle.columns.proofs.check.check_columns.Goals as goal

pub returns-then-too_big : goal.returns-then-too_big
unfolding checked
returns-then-too_big c = rw (rw c.count.ensures at (sym c.too_big.ensures ∙ c.if-too_big.true))

pub returns-then-bad_shape : goal.returns-then-bad_shape
unfolding checked
returns-then-bad_shape c = rw (rw c.count.ensures at (sym c.too_big.ensures ∙ c.if-too_big.false), sym c.bad_shape.ensures ∙ c.if-bad_shape.true)

pub all_rise-requires : goal.all_rise-requires
all_rise-requires c = rises-fit (shape_of (seen c.args.columns) (sym c.bad_shape.ensures ∙ c.if-bad_shape.false)) (rw c.count.ensures at (sym c.too_big.ensures ∙ c.if-too_big.false))

pub returns-then-all_rise : goal.returns-then-all_rise
unfolding checked
returns-then-all_rise c =
    let shape = sym c.bad_shape.ensures ∙ c.if-bad_shape.false in
    rw (rw c.count.ensures at (sym c.too_big.ensures ∙ c.if-too_big.false), shape) (all_rise-done (shape_of _ shape) (sym c.all_rise.ensures ∙ c.if-all_rise.true))

pub bad_row-requires : goal.bad_row-requires
bad_row-requires c = shape_of _ (sym c.bad_shape.ensures ∙ c.if-bad_shape.false)

pub returns : goal.returns
unfolding checked
returns c = rw (rw c.count.ensures at (sym c.too_big.ensures ∙ c.if-too_big.false), sym c.bad_shape.ensures ∙ c.if-bad_shape.false) c.bad_row.ensures
