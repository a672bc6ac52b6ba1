-- `columns::jacobian_ops::square_entries` takes in a square a turn. Assumes nothing.
use Rattle.std.proofs.Common.{◌≡◌, ◌+◌, ◌-◌, ◌<◌, ◌≤◌, ap, arith}
use Rattle.std.specs.Float.{nan}
use Rattle.ground.proofs.FoldLaws.{fold_turn, fold_done}
use Rattle.columns.specs.JacobianOps.{square_term}
use Rattle.columns.specs.Sums.{add_term}
use Rattle.columns.proofs.Rules.{squares}
use Rattle.columns.proofs.PartLaws.{part_length, part_at}
use Rattle.columns.proofs.jacobian_ops.square_entries.Goals as goal

pub loop-x-init : goal.loop-x-init
loop-x-init c = let z : c.args.lo + 0 ≡ c.args.lo = omega arith in rw z

pub loop-x-preserved : goal.loop-x-preserved
loop-x-preserved c =
    let a = c.args in
    let i = c.loop-x.x-index in
    let inside : i < a.hi - a.lo = rw (← (part_length a.values.now a.lo a.hi c.requires)) c.loop-x-test.true in
    let x = part_at a.values.now a.lo a.hi c.requires i nan inside in
    let z : a.lo + (i + 1) ≡ a.lo + i + 1 = omega arith in
    rw z (fold_turn add_term (square_term a.values.now) _ (omega arith) c.loop-x.invariant (rw x (squares a.values.now (a.lo + i) _)))

pub returns : goal.returns
returns c =
    let a = c.args in
    let end : a.hi - a.lo ≤ c.loop-x.x-index = rw (← (part_length a.values.now a.lo a.hi c.requires)) c.loop-x-test.false in
    fold_done add_term (square_term a.values.now) (omega arith) c.loop-x.invariant
