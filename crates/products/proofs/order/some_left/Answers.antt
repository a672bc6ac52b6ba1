-- `order::some_left` meets its contract. Assumes nothing.
use Rattle.std.proofs.Common.{length, refl, ◌∙◌, arith, rules}
use Rattle.std.proofs.lemmas.Iterator.{YieldsList-from_range}
use Rattle.std.proofs.lemmas.Iterator.Search.{any_from_yields_List}
use Rattle.products.specs.OrderWalk.{left_at}
use Rattle.products.proofs.SearchRules.{any_some}
use Rattle.products.proofs.order.some_left.Goals as goal

pub returns : goal.returns
returns c =
    let bad = left_at c.args.starts.now c.args.progress.now in
    let n = length c.args.progress.now in
    any_from_yields_List bad _ _ c.any.result c.any.ensures.ran (YieldsList-from_range 0 n n refl (omega arith)) (λ x b q k. search rules) ∙ any_some bad n
