-- `blocks::partition::offset_within` meets its contract. Assumes nothing.
use Prim.Native.Nat.{◌+◌}
use native.Mathlib.Omega.{arith}
use Rattle.blocks.proofs.LookupRules.{held_low, held_high}
use Rattle.blocks.proofs.LookupRules.{lookups}
use Rattle.blocks.proofs.partition.offset_within.Goals as goal

pub overflow_sub-result : goal.overflow_sub-result
overflow_sub-result c =
    omega (arith, held_low _ _ _ c.requires.held, c.wide.ensures.value)

pub returns : goal.returns
returns c =
    record { value = rw c.wide.ensures.value; upper_bound = omega (arith, held_high _ _ _ c.requires.held, c.wide.ensures.value, c.type_inv.side (c.args.b + c.args.b + 1)) }
