-- The hall's table holds: each of its lines is computed from the definitions. Assumes nothing.
use mathlib.Core.Path.{refl}
use lib.Ieee.{of_int, of_bits, neg, add, sub, mul, eq}
use Rattle.ground.specs.First.{first_n, first}
use Rattle.ground.specs.Gather.{gather_n, gather}
use Rattle.ground.specs.Fold.{folded}
use Rattle.columns.specs.Refusals.{on_pass}
use Rattle.columns.specs.Lengths.{misfits, pair_bad, pairs_told}
use Rattle.columns.specs.Columns.{first_in, end_in, too_big, falls, bad_shape, row_falls, row_bad, column_bad, bad_row, checked}
use Rattle.columns.specs.Sums.{add_term, joined, landed}
use Rattle.columns.specs.JacobianOps.{entry_term, square_term, landing, landings, common_term, common_terms, no_column, column_dot, diag_jt_j}
use Rattle.blocks.specs.Sides.{block_columns, offset_of}
use Rattle.blocks.specs.Claims.{too_many, is_odd, lists_told, empty_side, early_told, block_claims, place_of, claim_bad, walk_told, gap_told, blocks_told, map_left}
use Rattle.blocks.specs.Access.{square_of, squares_before, entry_place}
use Rattle.plan.specs.Owners.{in_column, in_block, owner_of, entry_at, column_entries, block_entries, holder, clashes, connected_told}
use Rattle.plan.specs.Lists.{rows_of, listed, column_sees, block_sees, visible_of}
use Rattle.plan.specs.Spans.{chunk_told, chunk_count_of, in_chunk, place_in, past_last, column_span, local_spans, spread}
use Rattle.plan.specs.Plan.{room, plan_told, column_blocks, plan_of, plan_left, planned}
use Rattle.products.specs.SideSums.{side_terms, side_gather, inverse_term, inverse_entry, inverse_block}
use Rattle.products.specs.Orders.{entry_out, span_bad, chunk_bad, starts_bad, plan_bad, bad_plan, span_count, span_terms, served, has_next, place_bad, chunk_left, bad_order, order_terms, sweep_of}
use Rattle.products.specs.Operator.{damp_term, kept_sum, damp_length, operator_lengths, operated, schur_operator}
use Rattle.products.specs.Couplings.{lent_told, coupling}
use Rattle.hall.specs.Table.{HallTable}

pub hall_table : HallTable
unfolding of_int of_bits neg add sub mul eq first_n first gather_n gather folded on_pass pair_bad misfits pairs_told first_in end_in too_big falls bad_shape row_falls row_bad column_bad bad_row checked add_term joined landed entry_term square_term landing landings common_term common_terms no_column column_dot diag_jt_j block_columns offset_of too_many is_odd lists_told empty_side early_told block_claims place_of claim_bad walk_told gap_told blocks_told map_left square_of squares_before entry_place in_column in_block owner_of entry_at column_entries block_entries holder clashes connected_told rows_of listed column_sees block_sees visible_of chunk_told chunk_count_of in_chunk place_in past_last column_span local_spans spread room plan_told column_blocks plan_of plan_left planned side_terms side_gather inverse_term inverse_entry inverse_block entry_out span_bad chunk_bad starts_bad plan_bad bad_plan span_count span_terms served has_next place_bad chunk_left bad_order order_terms sweep_of damp_term kept_sum damp_length operator_lengths operated schur_operator lent_told coupling
hall_table = record {
  plan = refl;
  kept-rows = refl;
  operator = refl;
  damped = refl;
  times = refl;
  transpose = refl;
  dot_0_1 = refl;
  dot_0_2 = refl;
  diagonal = refl;
  connected = refl;
  swept = refl;
  twice = refl;
  short = refl;
  missing = refl;
  bad_row = refl;
}
