-- `sweep_check::check_sweep` tells 1 to 9 by `check_chunked`, then 11 and 13 by `check_lent`. The first one's pass gives what the side's dof and the second one ask;
-- a later refusal marks the map as the blocks' do. Assumes nothing.
use Rattle.std.proofs.lemmas.Result.{err_from_is_err_and}
use Rattle.columns.specs.Lent.{seen}
use Rattle.products.proofs.SweepRules.{Chunks, chunked_passes, chunks-asked, chunks_sides, sweep_refused, sweep_later, sweep_done}
use Rattle.products.proofs.sweep_check.check_sweep.Goals.{In_ok-check_chunked}
use Rattle.products.proofs.sweep_check.check_sweep.Goals as goal

-- past 9
chunks : (c : In_ok-check_chunked) → Chunks (seen c.args.columns) c.args.sides.kept.now c.args.sides.elims.now c.args.chunk_len
chunks c = chunked_passes _ _ _ _ _ c.check_chunked.result _ c.check_chunked.ensures c.in_ok-check_chunked.was

pub returns-in_err-check_chunked : goal.returns-in_err-check_chunked
returns-in_err-check_chunked c =
    let p = err_from_is_err_and c.from_residual.result c.from_residual.ensures.1 in
    rw (p.1, p.2)
    (sweep_refused _ _ _ _ _ _ _ _ _ _ c.check_chunked.result _ c.check_chunked.ensures _ c.in_err-check_chunked.was)

pub dof_of-dof-requires : goal.dof_of-dof-requires
dof_of-dof-requires c = chunks_sides (chunks (goal.at.dof_of-dof-requires c).In_ok-check_chunked)

pub check_lent-lent-requires : goal.check_lent-lent-requires
check_lent-lent-requires c =
    let asked = chunks-asked (chunks (goal.at.check_lent-lent-requires c).In_ok-check_chunked) in
    record { risen = asked.0; chunked = asked.1 }

pub returns-in-Err : goal.returns-in-Err
returns-in-Err c =
    sweep_later _ _ _ _ _ _ _ _ _ _ c.check_chunked.result _ c.check_chunked.ensures c.in_ok-check_chunked.was c.dof_of-dof.result c.check_lent-lent.result c.dof_of-dof.ensures c.check_lent-lent.ensures c.in-Err.refusal _ _ c.in-Err.is c.count.ensures c.mark_map.ensures

pub returns : goal.returns
returns c =
    sweep_done _ _ _ _ _ _ _ _ _ _ c.check_chunked.result _ c.check_chunked.ensures c.in_ok-check_chunked.was c.dof_of-dof.result c.check_lent-lent.result c.dof_of-dof.ensures c.check_lent-lent.ensures c.in_default.is
