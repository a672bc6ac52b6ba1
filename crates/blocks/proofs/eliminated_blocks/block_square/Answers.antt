-- `blocks::eliminated_blocks::block_square` meets its contract. Assumes nothing.
use native.Mathlib.Omega.{arith}
use native.Mathlib.Nat.{mul-le-mul}
use Rattle.blocks.proofs.AccessRules.{access}
use Rattle.blocks.proofs.eliminated_blocks.block_square.Goals as goal

pub overflow_mul-result : goal.overflow_mul-result
overflow_mul-result c = record { fits = omega (arith, mul-le-mul c.block_dof-dof.ensures.upper_bound c.block_dof-dof.ensures.upper_bound) }
