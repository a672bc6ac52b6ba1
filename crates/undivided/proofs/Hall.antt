-- The laws of this crate speak of the built-in hall in chunks of two rows: it keeps the rules and connects no two eliminated blocks, its lists are the
-- plans of its sides, and an order other than the chunks' own is accepted on either side. All by computation. Assumes nothing.
use mathlib.Core.Path.{◌≡◌, refl}
use mathlib.Core.Bool.{Bool, true, false}
use mathlib.Core.List.{List, [], ◌∷◌}
use Prim.Native.Nat.{ℕ}
use native.Mathlib.Omega.{arith}
use lib.ListN.{length, replicate}
use lib.Ieee.{Float}
use Rattle.ground.specs.First.{first, first_n}
use Rattle.ground.specs.Gather.{gather, gather_n}
use Rattle.columns.specs.Refusals.{Passes, done, on_pass}
use Rattle.columns.specs.Lengths.{misfits, pair_bad, pairs_told, no_room_of}
use Rattle.columns.specs.Columns.{first_in, end_in, too_big, falls, bad_shape, row_bad, row_falls, column_bad, bad_row, checked}
use Rattle.columns.proofs.CallLaws.{room-right}
use Rattle.blocks.specs.Sides.{block_columns, offset_of, side_of}
use Rattle.blocks.specs.Claims.{too_many, is_odd, lists_told, empty_side, early_told, block_claims, place_of, claim_bad, walk_told, gap_told, blocks_told, BlocksKeep}
use Rattle.blocks.proofs.PartLaws.{passes_parted}
use Rattle.plan.specs.Owners.{side_entries, entry_at, column_entries, block_entries, holder, clashes, connected_told, Connects}
use Rattle.plan.specs.Spans.{side_spans, chunk_count_of, in_chunk, place_in, past_last, column_span, local_spans}
use Rattle.plan.specs.SpanWalk.{Chunked}
use Rattle.plan.specs.Plan.{room, plan_left}
use Rattle.plan_laws.proofs.ConnectedLaws.{connects_told}
use Rattle.plan_laws.proofs.PlanLaws.{Sound}
use Rattle.products.specs.Orders.{span_count, served, has_next, place_bad, chunk_left, bad_order}
use Rattle.products.specs.Operator.{operated}
use Rattle.hall.specs.Hall.{hall, kept, elims, kept_lists, elims_lists, unused_buffers}
use Rattle.undivided.specs.Plain.{plain_operated}
use Rattle.undivided.specs.Undivided.{PlanLists, SidePlanned, cut, lists_of, Serves}
use Rattle.undivided.proofs.OperatorLaws.{operator_plain}
use Rattle.undivided.proofs.Demand3.{left-planned}
use Rattle.undivided.proofs.OrderLaws.{accepted_serves}

-- it keeps the rules
hall_passes : Passes (blocks_told hall kept elims (replicate 3 0))
unfolding first_n first gather_n gather on_pass pair_bad misfits pairs_told first_in end_in too_big falls bad_shape row_bad row_falls column_bad bad_row checked block_columns too_many is_odd lists_told empty_side early_told block_claims place_of claim_bad walk_told gap_told blocks_told
hall_passes = refl

hall_keep : BlocksKeep hall kept elims (replicate 3 0)
hall_keep = passes_parted hall kept elims (replicate 3 0) hall_passes

hall-chunked : Chunked 5 2
hall-chunked = record { some-len = omega arith; few-len = omega arith; few-rows = omega arith }

-- case 2's spans are the plans of its sides
kept-lists : PlanLists hall kept 2 kept_lists
unfolding first first_n gather gather_n first_in end_in block_columns offset_of chunk_count_of in_chunk place_in past_last column_span local_spans
kept-lists = record { starts_are = refl; lo_are = refl; hi_are = refl; local_are = refl }

elims-lists : PlanLists hall elims 2 elims_lists
unfolding first first_n gather gather_n first_in end_in block_columns offset_of chunk_count_of in_chunk place_in past_last column_span local_spans
elims-lists = record { starts_are = refl; lo_are = refl; hi_are = refl; local_are = refl }

pub kept-planned : SidePlanned hall kept elims false 2 kept_lists
kept-planned = record { keeps = hall_keep.keeps; parted = hall_keep.parted; chunked = hall-chunked; planned = kept-lists }

pub elims-planned : SidePlanned hall kept elims true 2 elims_lists
elims-planned = record { keeps = hall_keep.keeps; parted = hall_keep.parted; chunked = hall-chunked; planned = elims-lists }

-- case 7's order is accepted on either side: it serves each chunk as often as it has spans
abbrev pub order : List ℕ
order = 2 ∷ 0 ∷ 1 ∷ []

kept-accepted : bad_order (chunk_count_of 5 2) kept_lists order ≡ done
unfolding first first_n chunk_count_of span_count served has_next place_bad chunk_left bad_order
kept-accepted = refl

elims-accepted : bad_order (chunk_count_of 5 2) elims_lists order ≡ done
unfolding first first_n chunk_count_of span_count served has_next place_bad chunk_left bad_order
elims-accepted = refl

pub kept_serves : Serves (chunk_count_of 5 2) kept_lists order
kept_serves = accepted_serves (chunk_count_of 5 2) kept_lists order (rw kept-accepted)

pub elims_serves : Serves (chunk_count_of 5 2) elims_lists order
elims_serves = accepted_serves (chunk_count_of 5 2) elims_lists order (rw elims-accepted)

-- lent buffers of just the room that it needs, planning is sound
hall-room : Passes (no_room_of (room hall kept elims 2 unused_buffers))
unfolding first_n first pair_bad misfits pairs_told chunk_count_of room
hall-room = refl

pub hall_sound : Sound hall kept elims 2 unused_buffers
hall_sound = record { keeps = hall_keep.keeps; parted = hall_keep.parted; some-len = omega arith; few-len = omega arith; roomy = room-right (room hall kept elims 2 unused_buffers) hall-room }

-- no row has entries of two eliminated blocks
hall_apart : (connected_told (side_entries hall elims)).number ≡ 0
unfolding first_n first gather_n gather first_in end_in entry_at column_entries block_entries holder clashes connected_told
hall_apart = refl

pub hall_unconnected : Connects hall elims → ⊥
hall_unconnected c = let q = connects_told hall elims c in let z = hall_apart in omega arith

-- so its lists are what planning leaves, cut to their used parts, and over them the operator is document 01's sums without spans
pub hall-left : (e : Bool) → SidePlanned hall kept elims e 2 (cut 3 (length (side_spans hall (side_of e kept elims) 2)) (lists_of e (plan_left hall kept elims 2 unused_buffers)))
unfolding chunk_count_of
hall-left e = left-planned hall kept elims 2 unused_buffers hall_sound hall_unconnected e

pub hall-operator : (v inverses d : List Float) → operated hall kept elims (record { v = v; inverses = inverses; d = d; kept = kept_lists; elims = elims_lists }) ≡ plain_operated hall kept elims v inverses d
hall-operator v inverses d = operator_plain hall kept elims 2 (record { v = v; inverses = inverses; d = d; kept = kept_lists; elims = elims_lists }) kept-planned elims-planned
