-- `plan_check::some_chunk_rows_out` meets its contract. Assumes nothing.
use Rattle.std.proofs.Common.{refl, ◌∙◌, arith, rules}
use Rattle.std.proofs.lemmas.Iterator.{YieldsList-from_range}
use Rattle.std.proofs.lemmas.Iterator.Search.{any_from_yields_List}
use Rattle.plan.specs.LentSpans.{spread_lent}
use Rattle.products.specs.PlanCheck.{chunk_rows_out}
use Rattle.products.proofs.SearchRules.{any_some}
use Rattle.products.proofs.plan_check.some_chunk_rows_out.Goals as goal

pub returns : goal.returns
returns c =
    let bad = chunk_rows_out c.args.columns.rows.now c.args.len (spread_lent c.args.spans) in
    any_from_yields_List bad _ _ c.any.result c.any.ensures.ran (YieldsList-from_range 0 c.args.chunks c.args.chunks refl (omega arith)) (λ x b q k. search rules) ∙ any_some bad c.args.chunks
