-- `columns::check::all_rise` meets its contract. Assumes nothing.
use Rattle.std.proofs.Common.{◌∙◌, refl, arith, ◌+◌, length, true, false}
use Rattle.ground.proofs.FirstLaws.{some_goes, some_stops, some-ends}
use Rattle.columns.proofs.CountLaws.{byte_bit, byte_most, count_turn, count-done}
use Rattle.columns.proofs.RiseLaws.{counting, rises-few, high-at, low-at, rise_stops, rise-told}
use Rattle.columns.proofs.check.all_rise.Goals as goal

pub loop-j-init : goal.loop-j-init
loop-j-init c = (omega arith, rises-few _ _ c.count_rises-seen.ensures, refl, rw c.count_rises-seen.ensures)

pub returns-then-ends_high : goal.returns-then-ends_high
returns-then-ends_high c =
    rise_stops _ _ _ (some_stops _ (rw c.count-j-end.ensures at c.loop-j-test.true) c.loop-j.invariant.2
    (high-at _ _ _ c.loop-j.j _ _ _ true c.ends_high.ensures c.first_place-from.ensures c.end_place-to.ensures c.if-ends_high.true))

pub loop-j-preserved : goal.loop-j-preserved
loop-j-preserved c =
    let from = c.first_place-from.ensures in
    let to = c.end_place-to.ensures in
    let inside = rw c.count-j-end.ensures at c.loop-j-test.true in
    let bit = c.from-seen.ensures in (
      omega (arith, inside),
      omega (arith, bit, byte_most c.begins_low.result, c.loop-j.invariant.1),
      some_goes _ inside c.loop-j.invariant.2 (high-at _ _ _ c.loop-j.j _ _ _ false c.ends_high.ensures from to c.if-ends_high.false),
      count_turn _ c.loop-j.seen _ _ _ inside c.loop-j.invariant.3 (low-at _ _ c.loop-j.j _ _ _ c.begins_low.ensures from to) (bit ∙ byte_bit c.begins_low.result) refl,
    )

pub returns : goal.returns
returns c =
    let end = rw c.count-j-end.ensures at c.loop-j-test.false in
    rise-told _ _ _ _ (some-ends _ end c.loop-j.invariant.2) (c.wide.ensures.value ∙ count-done _ c.loop-j.seen end c.loop-j.invariant.3)
