use Rattle.std.proofs.lemmas.Result.{err_from_is_err_and}
use Rattle.columns.specs.Lent.{seen}
use Rattle.columns.proofs.CallLaws.{product-refused, product_sweeps, product_gathers, product-done}
use Rattle.columns.proofs.jacobian_ops.jt_j_vec_product.Goals as goal

pub returns-in_err-check_lent : goal.returns-in_err-check_lent
returns-in_err-check_lent c =
    let p = err_from_is_err_and c.from_residual.result c.from_residual.ensures.1 in rw (p.1, p.2)
    (product-refused (seen c.args.columns) _ _ _ _ (rw c.count-n.ensures at c.check_lent.ensures) _ c.in_err-check_lent.was)

pub sweep_columns-requires : goal.sweep_columns-requires
sweep_columns-requires c = product_sweeps (seen c.args.columns) _ _ _ _ (rw c.count-n.ensures at c.check_lent.ensures) _ c.in_ok-check_lent.was _ c.clear.ensures

pub gather_columns-requires : goal.gather_columns-requires
gather_columns-requires c = product_gathers (seen c.args.columns) _ _ _ _ (rw c.count-n.ensures at c.check_lent.ensures) _ c.in_ok-check_lent.was _ c.clear.ensures _ c.sweep_columns.ensures

pub returns : goal.returns
returns c = product-done (seen c.args.columns) _ _ _ _ (rw c.count-n.ensures at c.check_lent.ensures) _ c.in_ok-check_lent.was _ c.clear.ensures _ c.sweep_columns.ensures _ c.gather_columns.ensures
