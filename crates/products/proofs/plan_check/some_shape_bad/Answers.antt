-- `plan_check::some_shape_bad` meets its contract: a part that has a bad span ends the walk, and one that has none is left out. Assumes nothing.
use Rattle.std.proofs.Common.{◌≡◌, ◌+◌, ◌≤◌, sym, ◌∙◌, length, arith}
use Rattle.products.specs.PlanCheck.{shape_out_at}
use Rattle.products.proofs.PlanRules.{some_part, some_past}
use Rattle.products.proofs.plan_check.some_shape_bad.Goals as goal

pub returns-then-shapes_bad : goal.returns-then-shapes_bad
returns-then-shapes_bad c =
    let s = c.args.spans in
    let bad = shape_out_at c.args.n c.args.dof s.lo.now s.hi.now s.local.now in
    let i = c.loop-at.invariant in
    let h : c.loop-at.at + c.min.result ≤ length s.lo.now = omega (arith, i.0, c.min.ensures) in
    sym (some_part bad c.loop-at.at _ (length s.lo.now) h (sym c.shapes_bad.ensures ∙ c.if-shapes_bad.true)) ∙ i.1

pub loop-at-preserved : goal.loop-at-preserved
loop-at-preserved c =
    let s = c.args.spans in
    let bad = shape_out_at c.args.n c.args.dof s.lo.now s.hi.now s.local.now in
    let i = c.loop-at.invariant in
    let h : c.loop-at.at + c.min.result ≤ length s.lo.now = omega (arith, i.0, c.min.ensures) in
    (h, some_past bad c.loop-at.at _ (length s.lo.now) (omega arith) (sym c.shapes_bad.ensures ∙ c.if-shapes_bad.false) ∙ i.1)
