-- `coupling::couple` clears the rows, sweeps one side into them and gathers the other from them. Each step leaves the lengths as they were, so the next may be called,
-- and the three results together are the product. Assumes nothing.
use Rattle.products.proofs.LentRules.{couple_sweeps, couple_gathers, couple_done}
use Rattle.products.proofs.coupling.couple.Goals as goal

pub sweep_side-requires : goal.sweep_side-requires
sweep_side-requires c =
    couple_sweeps _ _ _ _ _ _ _ c.args.y.now _ c.requires c.clear.ensures

pub gather_side-requires : goal.gather_side-requires
gather_side-requires c =
    couple_gathers _ _ _ _ _ _ _ c.args.y.now _ c.requires c.clear.ensures c.args.v.now _ c.sweep_side.ensures

pub returns : goal.returns
returns c =
    couple_done _ _ _ _ _ _ _ c.args.y.now _ c.requires c.clear.ensures c.args.v.now _ c.sweep_side.ensures _ c.gather_side.ensures
