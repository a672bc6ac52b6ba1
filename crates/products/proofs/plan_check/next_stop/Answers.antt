-- `plan_check::next_stop` is `find` over the spans' places. Assumes nothing.
use Rattle.std.proofs.Common.{◌≡◌, ◌+◌, true, false, rules}
use Rattle.std.proofs.lemmas.Iterator.{first_from_Range}
use Rattle.products.specs.PlanCheck.{rows_stop_at}
use Rattle.products.proofs.plan_check.next_stop.Goals as goal

pub returns : goal.returns
unfolding rows_stop_at
returns c =
    let w = c.args.window in
    let stops = rows_stop_at w.columns.rows.now w.from (w.from + w.size) c.args.lo.now c.args.hi.now in
    first_from_Range _ _ _ c.find.result (λ k. stops k ≡ true) (λ k. stops k ≡ false) c.find.ensures.ran (λ x q k. search rules) (λ x q k. search rules)
