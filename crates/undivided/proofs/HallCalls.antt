-- The closing theorems speak of the built-in hall: a call of `plan`, a sweep of either side and three calls of `step` on either side are written out,
-- each with what it is lent and what it leaves, and keep their promises, by computation. So every hypothesis holds, and what the theorems say of
-- them too. The steps go along the order 2, 0, 1, the kept side's from rows of ones. Assumes nothing.
use mathlib.Core.Path.{◌≡◌, refl, sym}
use mathlib.Core.Bool.{Bool, true, false}
use mathlib.Core.Logic.{◌⊎◌, inl, inr}
use mathlib.Core.List.{List, [], ◌∷◌}
use Prim.Native.Nat.{ℕ, zero, suc, ◌<◌}
use native.Mathlib.Nat.{le_refl}
use native.Mathlib.Omega.{arith}
use contract.Lifetimes.{Lfts}
use denote.Bor.{Bor}
use denote.MutBor.{MutBor}
use borrow.Fn.World.{ArgsD}
use lib.ListN.{get_or, replicate}
use lib.Ieee.{Float, of_int, of_bits, neg, add, sub, mul, eq}
use Rattle.ground.specs.First.{first, first_n}
use Rattle.ground.specs.Gather.{gather, gather_n}
use Rattle.ground.specs.Fold.{folded}
use Rattle.columns.specs.Refusals.{on_pass}
use Rattle.columns.specs.Lengths.{misfits, pair_bad, pairs_told}
use Rattle.columns.specs.Columns.{Columns, first_in, end_in, too_big, falls, bad_shape, row_bad, row_falls, column_bad, bad_row, checked}
use Rattle.columns.specs.Sums.{joined, landed}
use Rattle.columns.specs.JacobianOps.{landing, landings}
use Rattle.blocks.specs.Sides.{block_columns, offset_of}
use Rattle.blocks.specs.Claims.{mark, too_many, is_odd, lists_told, empty_side, block_claims, place_of, claim_bad, walk_told, gap_told}
use Rattle.std.specs.Prelude.{Ok, Err}
use Rattle.columns.specs.declared.refusal.Refusal.TheVariants.{Connected}
use Rattle.plan.specs.Owners.{entry_at, column_entries, block_entries, holder, clashes, connected_told}
use Rattle.plan_laws.proofs.ConnectedLaws.{told_connects}
use Rattle.plan_laws.proofs.Determined.{counts as span_counts}
use Rattle.plan.specs.Spans.{chunk_told, chunk_count_of, in_chunk, place_in, past_last, column_span, local_spans, Spread}
use Rattle.plan.specs.declared.lent.Spans.{Spans}
use Rattle.columns.specs.declared.lent.Columns.{Columns as LentColumns}
use Rattle.blocks.specs.declared.sides.Sides.{Sides}
use Rattle.plan.specs.Plan.{Buffers, lent as lent_back}
use Rattle.plan.specs.contracts.structure.plan as planning
use Rattle.plan.proofs.structure.plan.Reads as plan
use Rattle.columns.specs.declared.refusal.Side.{Side}
use Rattle.columns.specs.declared.refusal.Side.TheVariants as side
use Rattle.products.specs.Orders.{entry_out, span_bad, chunk_bad, starts_bad, plan_bad, bad_plan, span_count, span_terms, served, has_next, place_bad, chunk_left, bad_order, order_terms, step_order, step_of, sweep_of}
use Rattle.products.specs.Operator.{Operands, Work as Results, damp_length}
use Rattle.products.specs.contracts.operator.apply_schur_operator as operating
use Rattle.products.proofs.operator.apply_schur_operator.Reads as operator
use Rattle.products.specs.contracts.order.sweep as sweeping
use Rattle.products.proofs.order.sweep.Reads as sweep
use Rattle.products.specs.contracts.order.step as stepping
use Rattle.products.proofs.order.step.Reads as step
use Rattle.hall.specs.Hall.{f, hall, moved, kept, elims, kept_lists, elims_lists, v, first_rows_of, t, u, last_rows, minus, operands, unused_map, unused_buffers, unused_work}
use Rattle.hall.specs.Table.{filled_map, marked_map, plan_lists}
use Rattle.hall.proofs.HallTable.{hall_table}
use Rattle.blocks.specs.Access.{square_of, squares_before}
use Rattle.undivided.specs.Plain.{plain_operated}
use Rattle.undivided.specs.Undivided.{OverPlan, OperatorFits}
use Rattle.undivided.proofs.Calls.{plan_over, operator_over}
use Rattle.undivided.proofs.Carried.{Chain, planned-operator}
use Rattle.undivided.proofs.Closing.{Refused, Sweeps, SweepGood, Steps, StepsGood, over, demand_3_sweeps, demand_3_steps}
use Rattle.undivided.proofs.Hall.{hall_sound, hall_unconnected, kept_serves, elims_serves, order}

-- a slice with this content, wherever it lies
abbrev slice : {X : Type 0} → X → Bor X
slice x = record { ref_ptr = (0, 0); now = x }

-- a side's lists as one
abbrev lists : Spread → Spans
lists s = record { starts = slice s.starts; lo = slice s.lo; hi = slice s.hi; local = slice s.local }

-- columns, and the hall's blocks, as one each
abbrev columns_lent : Columns → LentColumns
columns_lent m = record { nrows = m.nrows; ptrs = slice m.ptrs; rows = slice m.rows; values = slice m.values }

abbrev sides_lent : Sides
sides_lent = record { kept = slice kept; elims = slice elims }

-- and a buffer
abbrev buffer : {X : Type 0} → X → MutBor X
buffer x = record { ref_ptr = (0, 0); ghost_name = 0; now = x }

-- a call's arguments, one after the other
infixr 30 ◌▸◌
abbrev ◌▸◌ : {X Y : Type 0} → X → Y → X × Y
x ▸ y = (x, y)

-- ---- the call of `plan`

module _ (κs : Lfts 19) where
  -- columns with the hall's blocks and chunks of two rows, and these buffers: before the call, and as it leaves them
  abbrev plan_on : Columns → Buffers → ArgsD planning.signature κs
  plan_on m b =
      columns_lent m ▸ sides_lent ▸ 2 ▸ buffer b.map ▸
      buffer b.kept_cols ▸ buffer b.elims_cols ▸ buffer b.elims_blocks ▸ buffer b.owners ▸ buffer b.row_lists.list ▸
      buffer b.row_lists.starts ▸ buffer b.visible.list ▸ buffer b.visible.starts ▸ buffer b.kept.starts ▸
      buffer b.kept.lo ▸ buffer b.kept.hi ▸ buffer b.kept.local ▸ buffer b.elims.starts ▸ buffer b.elims.lo ▸
      buffer b.elims.hi ▸ buffer b.elims.local ▸ tt

  abbrev plan_call : Buffers → ArgsD planning.signature κs
  plan_call b = plan_on hall b

  pub hall-planned : plan.Post κs (plan_call unused_buffers) (Ok (span_counts 3 3)) (plan_call plan_lists)
  hall-planned = sym hall_table.plan

  -- so it is what both theorems speak of, and it is not refused
  pub hall_sweeps : Sweeps κs (plan_call unused_buffers) (plan_call plan_lists) (Ok (span_counts 3 3)) hall-planned
  hall_sweeps = go (demand_3_sweeps κs (plan_call unused_buffers) (plan_call plan_lists) (Ok (span_counts 3 3)) hall-planned hall_sound)
    where
      go : Refused κs (plan_call unused_buffers) (plan_call plan_lists) (Ok (span_counts 3 3)) hall-planned ⊎ Sweeps κs (plan_call unused_buffers) (plan_call plan_lists) (Ok (span_counts 3 3)) hall-planned
          → Sweeps κs (plan_call unused_buffers) (plan_call plan_lists) (Ok (span_counts 3 3)) hall-planned
      go (inl x) = absurd (hall_unconnected x.connects)
      go (inr x) = x

  pub hall_steps : Steps κs (plan_call unused_buffers) (plan_call plan_lists) (Ok (span_counts 3 3)) hall-planned
  hall_steps = go (demand_3_steps κs (plan_call unused_buffers) (plan_call plan_lists) (Ok (span_counts 3 3)) hall-planned hall_sound)
    where
      go : Refused κs (plan_call unused_buffers) (plan_call plan_lists) (Ok (span_counts 3 3)) hall-planned ⊎ Steps κs (plan_call unused_buffers) (plan_call plan_lists) (Ok (span_counts 3 3)) hall-planned
          → Steps κs (plan_call unused_buffers) (plan_call plan_lists) (Ok (span_counts 3 3)) hall-planned
      go (inl x) = absurd (hall_unconnected x.connects)
      go (inr x) = x

  -- case 6, where column 2 is moved, is the other branch: two eliminated blocks have entries in a row, and the answer is 10
  abbrev after_ten : Buffers
  after_ten = lent_back marked_map (mark ∷ mark ∷ mark ∷ mark ∷ mark ∷ []) unused_buffers

  pub moved-planned : plan.Post κs (plan_on moved unused_buffers) (Err (Connected 1 0)) (plan_on moved after_ten)
  moved-planned = sym hall_table.connected

  pub moved-refused : Refused κs (plan_on moved unused_buffers) (plan_on moved after_ten) (Err (Connected 1 0)) moved-planned
  unfolding first_n first gather_n gather first_in end_in entry_at column_entries block_entries holder clashes connected_told
  moved-refused = record { connects = told_connects moved elims refl; is_10 = refl }

-- ---- calls of `sweep`, `step` and `apply_schur_operator` over what it left

-- rows that are not 0
abbrev ones : List Float
ones = replicate 5 (f 1)

-- what differs from call to call
record Lent : Type 0 where
  map : List ℕ
  rows : List Float
  progress : List ℕ

module _ (κs : Lfts 8) where
  -- a sweep of a side along that order, with its map, rows and progress before the call, and as it leaves them
  abbrev sweep_call : Side → List Float → Spread → Lent → ArgsD sweeping.signature κs
  sweep_call e x s w =
      e ▸ columns_lent hall ▸ sides_lent ▸ buffer w.map ▸
      2 ▸ slice x ▸ lists s ▸ buffer w.rows ▸ buffer w.progress ▸
      slice order ▸ tt

  -- the kept sweep clears the rows that it is lent; the eliminated one goes on from them
  abbrev before : List Float → Lent
  before y = record { map = replicate 4 7; rows = y; progress = replicate 3 7 }

  abbrev after : List Float → Lent
  after y = record { map = 0 ∷ 1 ∷ 2 ∷ 7 ∷ []; rows = y; progress = 1 ∷ 1 ∷ 1 ∷ [] }

  pub kept-swept : sweep.Post κs (sweep_call side.Kept v kept_lists (before ones)) (Ok tt) (sweep_call side.Kept v kept_lists (after first_rows_of))
  unfolding of_int of_bits neg add sub mul eq first_n first gather_n gather folded on_pass pair_bad misfits pairs_told first_in end_in too_big falls bad_shape row_falls row_bad column_bad bad_row checked joined landed landing landings block_columns offset_of too_many is_odd lists_told empty_side block_claims place_of claim_bad walk_told gap_told chunk_told chunk_count_of in_chunk entry_out span_bad chunk_bad starts_bad plan_bad bad_plan span_count span_terms served has_next place_bad chunk_left bad_order order_terms sweep_of
  kept-swept = refl

  pub elims-swept : sweep.Post κs (sweep_call side.Eliminated u elims_lists (before first_rows_of)) (Ok tt) (sweep_call side.Eliminated u elims_lists (after last_rows))
  unfolding of_int of_bits neg add sub mul eq first_n first gather_n gather folded on_pass pair_bad misfits pairs_told first_in end_in too_big falls bad_shape row_falls row_bad column_bad bad_row checked joined landed landing landings block_columns offset_of too_many is_odd lists_told empty_side block_claims place_of claim_bad walk_told gap_told chunk_told chunk_count_of in_chunk entry_out span_bad chunk_bad starts_bad plan_bad bad_plan span_count span_terms served has_next place_bad chunk_left bad_order order_terms sweep_of
  elims-swept = refl

  -- both are over what `plan` left, and all else fits; so they are accepted, and each row gets the terms of the undivided sweep
  module _ (πs : Lfts 19) where
    pub kept_sweep_good : SweepGood πs (plan_call πs unused_buffers) (plan_call πs plan_lists) (Ok (span_counts 3 3)) (hall-planned πs) κs (sweep_call side.Kept v kept_lists (before ones)) (sweep_call side.Kept v kept_lists (after first_rows_of)) (Ok tt)
    unfolding first first_n gather gather_n first_in end_in block_columns offset_of chunk_count_of in_chunk place_in past_last column_span local_spans
    kept_sweep_good =
        (hall_sweeps πs).each κs (sweep_call side.Kept v kept_lists (before ones)) (sweep_call side.Kept v kept_lists (after first_rows_of)) (Ok tt) kept-swept refl
        (record { map-fits = omega arith; v-fits = refl; rows_fit = refl; progress-fits = refl })

    pub elims_sweep_good : SweepGood πs (plan_call πs unused_buffers) (plan_call πs plan_lists) (Ok (span_counts 3 3)) (hall-planned πs) κs (sweep_call side.Eliminated u elims_lists (before first_rows_of)) (sweep_call side.Eliminated u elims_lists (after last_rows)) (Ok tt)
    unfolding first first_n gather gather_n first_in end_in block_columns offset_of chunk_count_of in_chunk place_in past_last column_span local_spans
    elims_sweep_good =
        (hall_sweeps πs).each κs (sweep_call side.Eliminated u elims_lists (before first_rows_of)) (sweep_call side.Eliminated u elims_lists (after last_rows)) (Ok tt) elims-swept refl
        (record { map-fits = omega arith; v-fits = refl; rows_fit = refl; progress-fits = refl })

module _ (κs : ℕ → Lfts 7) where
  -- a step of a side, of the chunk at a place of that order
  abbrev step_call : (i : ℕ) → Side → List Float → Spread → Lent → ArgsD stepping.signature (κs i)
  step_call i e x s w =
      e ▸ columns_lent hall ▸ sides_lent ▸ buffer w.map ▸ 2 ▸
      slice x ▸ lists s ▸ buffer w.rows ▸ buffer w.progress ▸ get_or order i 0 ▸ tt

  -- how often each chunk is served before each place, and at the end
  abbrev counts : List (List ℕ)
  counts = (0 ∷ 0 ∷ 0 ∷ []) ∷ (0 ∷ 0 ∷ 1 ∷ []) ∷ (1 ∷ 0 ∷ 1 ∷ []) ∷ (1 ∷ 1 ∷ 1 ∷ []) ∷ []

  -- the rows there, on the kept side and on the eliminated one
  abbrev kept_rows : List (List Float)
  kept_rows = ones ∷ (f 1 ∷ f 1 ∷ f 1 ∷ f 1 ∷ f 9 ∷ []) ∷ (f 3 ∷ f 5 ∷ f 1 ∷ f 1 ∷ f 9 ∷ []) ∷ (f 3 ∷ f 5 ∷ f 1 ∷ f 7 ∷ f 9 ∷ []) ∷ []

  abbrev elims_rows : List (List Float)
  elims_rows = first_rows_of ∷ (f 2 ∷ f 4 ∷ f 0 ∷ f 6 ∷ f 3 ∷ []) ∷ (minus 0 ∷ f 1 ∷ f 0 ∷ f 6 ∷ f 3 ∷ []) ∷ last_rows ∷ []

  -- what the step of place i is lent, a map of its own among it, and what it leaves
  abbrev lent : List (List Float) → ℕ → Lent
  lent table i = record { map = replicate 3 i; rows = get_or table i []; progress = get_or counts i [] }

  abbrev left : List (List Float) → ℕ → Lent
  left table i = record { map = filled_map; rows = get_or table (suc i) []; progress = get_or counts (suc i) [] }

  abbrev kept_call : (ℕ → Lent) → (i : ℕ) → ArgsD stepping.signature (κs i)
  kept_call w i = step_call i side.Kept v kept_lists (w i)

  -- each of the three keeps its promise
  pub kept-stepped : (i : ℕ) → i < 3 → step.Post (κs i) (kept_call (lent kept_rows) i) (Ok tt) (kept_call (left kept_rows) i)
  unfolding of_int of_bits neg add sub mul eq first_n first gather_n gather folded on_pass pair_bad misfits pairs_told first_in end_in too_big falls bad_shape row_falls row_bad column_bad bad_row checked joined landed landing landings block_columns offset_of too_many is_odd lists_told empty_side block_claims place_of claim_bad walk_told gap_told chunk_told chunk_count_of in_chunk entry_out span_bad chunk_bad starts_bad plan_bad bad_plan span_count span_terms has_next step_order step_of
  kept-stepped zero h = refl
  kept-stepped (suc zero) h = refl
  kept-stepped (suc (suc zero)) h = refl
  kept-stepped (suc (suc (suc i))) h = absurd (omega arith)

  abbrev elims_call : (ℕ → Lent) → (i : ℕ) → ArgsD stepping.signature (κs i)
  elims_call w i = step_call i side.Eliminated u elims_lists (w i)

  -- each of the three keeps its promise
  pub elims-stepped : (i : ℕ) → i < 3 → step.Post (κs i) (elims_call (lent elims_rows) i) (Ok tt) (elims_call (left elims_rows) i)
  unfolding of_int of_bits neg add sub mul eq first_n first gather_n gather folded on_pass pair_bad misfits pairs_told first_in end_in too_big falls bad_shape row_falls row_bad column_bad bad_row checked joined landed landing landings block_columns offset_of too_many is_odd lists_told empty_side block_claims place_of claim_bad walk_told gap_told chunk_told chunk_count_of in_chunk entry_out span_bad chunk_bad starts_bad plan_bad bad_plan span_count span_terms has_next step_order step_of
  elims-stepped zero h = refl
  elims-stepped (suc zero) h = refl
  elims-stepped (suc (suc zero)) h = refl
  elims-stepped (suc (suc (suc i))) h = absurd (omega arith)

  -- they are a chain over what `plan` left: each on the rows and the progress that the one before left. So what is said of steps holds of them
  module _ (πs : Lfts 19) where
    abbrev plans : Bool → OverPlan
    plans = over πs (plan_call πs unused_buffers) (plan_call πs plan_lists) (Ok (span_counts 3 3)) (hall-planned πs)

    pub kept_chain : Chain κs (kept_call (lent kept_rows)) (kept_call (left kept_rows)) false (plans false) v order ones
    unfolding first first_n gather gather_n first_in end_in block_columns offset_of chunk_count_of in_chunk place_in past_last column_span local_spans
    kept_chain = record {
      sides = λ i h. refl;
      lent = λ i h. refl;
      vectors = λ i h. refl;
      places = λ i h. refl;
      roomy = λ i h. le_refl 3;
      first_rows = λ h. refl;
      first_progress = λ h. refl;
      next-rows = λ i h. refl;
      next-progress = λ i h. refl;
    }

    pub kept_steps_good : StepsGood πs (plan_call πs unused_buffers) (plan_call πs plan_lists) (Ok (span_counts 3 3)) (hall-planned πs) κs (kept_call (lent kept_rows)) (kept_call (left kept_rows)) (λ i. Ok tt) false v order ones
    unfolding first first_n gather gather_n first_in end_in block_columns offset_of chunk_count_of in_chunk place_in past_last column_span local_spans
    kept_steps_good =
        (hall_steps πs).each κs (kept_call (lent kept_rows)) (kept_call (left kept_rows)) (λ i. Ok tt) false v order ones kept-stepped kept_chain (record { v-fits = refl; rows_fit = refl }) kept_serves

    pub elims_chain : Chain κs (elims_call (lent elims_rows)) (elims_call (left elims_rows)) true (plans true) u order first_rows_of
    unfolding first first_n gather gather_n first_in end_in block_columns offset_of chunk_count_of in_chunk place_in past_last column_span local_spans
    elims_chain = record {
      sides = λ i h. refl;
      lent = λ i h. refl;
      vectors = λ i h. refl;
      places = λ i h. refl;
      roomy = λ i h. le_refl 3;
      first_rows = λ h. refl;
      first_progress = λ h. refl;
      next-rows = λ i h. refl;
      next-progress = λ i h. refl;
    }

    pub elims_steps_good : StepsGood πs (plan_call πs unused_buffers) (plan_call πs plan_lists) (Ok (span_counts 3 3)) (hall-planned πs) κs (elims_call (lent elims_rows)) (elims_call (left elims_rows)) (λ i. Ok tt) true u order first_rows_of
    unfolding first first_n gather gather_n first_in end_in block_columns offset_of chunk_count_of in_chunk place_in past_last column_span local_spans
    elims_steps_good =
        (hall_steps πs).each κs (elims_call (lent elims_rows)) (elims_call (left elims_rows)) (λ i. Ok tt) true u order first_rows_of elims-stepped elims_chain (record { v-fits = refl; rows_fit = refl }) elims_serves

-- case 3: the operator, without damping
module _ (κs : Lfts 12) where
  abbrev operator_call : List ℕ → Operands → Results → ArgsD operating.signature κs
  operator_call map o w =
      columns_lent hall ▸ sides_lent ▸ buffer map ▸ 2 ▸ slice o.v ▸ slice o.inverses ▸ slice o.d ▸
      lists o.kept ▸ lists o.elims ▸
      buffer w.rows ▸ buffer w.t ▸ buffer w.u ▸ buffer w.out ▸ tt

  abbrev results : Results
  results = record { rows = last_rows; t = t; u = u; out = f 1 ∷ [] }

  pub hall-operated : operator.Post κs (operator_call unused_map (operands []) unused_work) (Ok tt) (operator_call filled_map (operands []) results)
  hall-operated = sym hall_table.operator

  pub hall-fits : OperatorFits hall kept elims unused_map (operands []) unused_work
  unfolding gather gather_n block_columns offset_of square_of squares_before damp_length
  hall-fits = record { map-fits = le_refl 3; v-fits = refl; inverses-fit = refl; d-fits = refl; rows_fit = refl; t-fits = refl; u-fits = refl; out-fits = refl }

  -- it is over what `plan` left, so case 3's figures are document 01's sums without spans
  pub hall_plain : Lfts 19 → results ≡ plain_operated hall kept elims v (operands []).inverses []
  unfolding first first_n gather gather_n first_in end_in block_columns offset_of chunk_count_of in_chunk place_in past_last column_span local_spans
  hall_plain πs =
      planned-operator πs (plan_call πs unused_buffers) (plan_call πs plan_lists) 3 3 (hall-planned πs) κs (operator_call unused_map (operands []) unused_work) (operator_call filled_map (operands []) results) (Ok tt) hall-operated same refl
    where
      same : (e : Bool) → operator_over κs (operator_call unused_map (operands []) unused_work) e ≡ plan_over πs (plan_call πs unused_buffers) (plan_call πs plan_lists) 3 3 e
      same true = refl
      same false = refl
