-- `products::side_sums::add_inverse` meets its contract. Assumes nothing.
use Rattle.std.proofs.Common.{arith}
use Rattle.products.proofs.InverseRules.{term-place}
use Rattle.products.proofs.side_sums.add_inverse.Goals as goal

pub overflow_mul-result : goal.overflow_mul-result
overflow_mul-result c = omega (arith, term-place _ _ _ _ _ _ _ c.requires)

pub overflow_add-result : goal.overflow_add-result
overflow_add-result c = omega (arith, term-place _ _ _ _ _ _ _ c.requires)

pub overflow_add-result-2 : goal.overflow_add-result-2
overflow_add-result-2 c = omega (arith, term-place _ _ _ _ _ _ _ c.requires)
