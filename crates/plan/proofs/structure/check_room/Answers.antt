-- `structure::check_room` meets its contract. Assumes nothing.
use native.Mathlib.Omega.{arith}
use Rattle.plan.proofs.PlanCalls.{chunks_few}
use Rattle.plan.proofs.structure.check_room.Goals as goal

pub overflow_add-starts : goal.overflow_add-starts
overflow_add-starts c =
    omega (arith, chunks_few c.args.columns.nrows c.args.chunk_len c.requires.chunked, c.chunk_count-starts.ensures)

pub returns : goal.returns
returns c = rw (c.count-n.ensures, c.chunk_count-starts.ensures) at c.no_room.ensures
