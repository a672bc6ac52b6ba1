-- `sweep_check::check_chunked` tells what `check_parts` tells, the chunk length and the map's room being asked before it and handed to it. Past these the map has room
-- for the walk over the blocks, which tells the rest and leaves the map. Assumes nothing.
use Rattle.std.proofs.lemmas.Result.{err_from_is_err_and}
use Rattle.columns.specs.Lent.{seen}
use Rattle.products.proofs.SweepRules.{chunked-refused, chunked-roomy, chunked-walked}
use Rattle.products.proofs.sweep_check.check_chunked.Goals as goal

pub returns-in_err-check_parts : goal.returns-in_err-check_parts
returns-in_err-check_parts c =
    let p = err_from_is_err_and c.from_residual.result c.from_residual.ensures.1 in
    rw (p.1, p.2)
    (chunked-refused (seen c.args.columns) c.args.sides.kept.now c.args.sides.elims.now c.args.chunk_len c.args.map.now c.count-n.result c.check_chunk.result c.no_room.result c.and-rest.result c.check_parts.result c.count-n.ensures c.check_chunk.ensures c.no_room.ensures c.and-rest.ensures c.check_parts.ensures _ c.in_err-check_parts.was)

pub walk_blocks-requires : goal.walk_blocks-requires
walk_blocks-requires c =
    chunked-roomy (seen c.args.columns) c.args.sides.kept.now c.args.sides.elims.now c.args.chunk_len c.args.map.now c.count-n.result c.check_chunk.result c.no_room.result c.and-rest.result c.check_parts.result c.count-n.ensures c.check_chunk.ensures c.no_room.ensures c.and-rest.ensures c.check_parts.ensures c.in_ok-check_parts.was

pub returns : goal.returns
returns c =
    chunked-walked (seen c.args.columns) c.args.sides.kept.now c.args.sides.elims.now c.args.chunk_len c.args.map.now c.count-n.result c.check_chunk.result c.no_room.result c.and-rest.result c.check_parts.result c.count-n.ensures c.check_chunk.ensures c.no_room.ensures c.and-rest.ensures c.check_parts.ensures c.in_ok-check_parts.was c.walk_blocks.result _ c.walk_blocks.ensures
