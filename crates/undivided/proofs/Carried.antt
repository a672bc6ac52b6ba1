-- What is proved of plans, orders, steps and the operator holds of the calls themselves. From the promise of `plan` with answer 0 its lists
-- at exit, cut to their used parts, are the plans of both sides; and a sweep, steps one after the other, and the operator, lent these, leave what the
-- undivided sweep and document 01's sums say. `Post` is a contract's own reading, at the arguments, the answer and the parameters at exit, which
-- CallParts of plan_laws and product_laws name. Assumes nothing.
use mathlib.Core.Path.{◌≡◌, refl, sym, ap, ◌∙◌, subst}
use mathlib.Core.Bool.{Bool, true, false, cond}
use mathlib.Core.List.{List, [], ◌∷◌}
use Prim.Native.Nat.{ℕ, zero, suc, ◌+◌, ◌≤◌, ◌<◌}
use native.Mathlib.Nat.{le_refl}
use native.Mathlib.Omega.{arith}
use lib.ListN.{length, get_or, replicate, length-replicate}
use lib.Ieee.{Float}
use contract.Lifetimes.{Lfts}
use denote.Triple.Clauses.{AtExit}
use borrow.Fn.Kinds.{ended_of}
use borrow.Fn.World.{ArgsD}
use Rattle.ground.specs.Gather.{gather}
use Rattle.ground.proofs.GatherLaws.{gather_same}
use Rattle.columns.specs.Refusals.{Answer, Told, tell, done, told, Passes, or_else}
use Rattle.columns.specs.Lengths.{no_room_of, wrong_length}
use Rattle.columns.specs.Columns.{Columns, column_count}
use Rattle.columns.specs.Sums.{RowTerm, swept_on}
use Rattle.columns.proofs.RefusalLaws.{pass_done}
use Rattle.blocks.specs.Sides.{side_of}
use Rattle.std.specs.Prelude.{Ok}
use Rattle.plan.specs.Owners.{Connects}
use Rattle.plan.specs.Spans.{chunk_count_of, side_spans}
use Rattle.plan.specs.Plan.{Buffers, plan_told, plan_left}
use Rattle.plan_laws.proofs.PlanLaws.{Sound, passes_sound, planned_unconnected, unconnected_planned}
use Rattle.plan_laws.proofs.Determined.{counts, plan-tells, plan_leaves_lem}
use Rattle.products.specs.Orders.{Swept, bad_order, order_terms, span_terms, sign_of, start_rows, step_of, step_order, sweep_of, sweep_told₁₄, sweep_lengths}
use Rattle.products.specs.OrderWalk.{place_terms}
use Rattle.product_laws.specs.Steps.{steps_of, After}
use Rattle.products.specs.Operator.{Operated, operator_lengths, schur_operator}
use Rattle.product_laws.proofs.StepLaws.{steps_accepted, steps_place, same_steps}
use Rattle.undivided.specs.Undivided.{
  own_terms,
  SidePlanned,
  cut,
  lists_of,
  Serves,
  OverPlan,
  PlannedOver,
  over_chunks,
  over_terms,
  ServesOver,
  Undivided,
  VectorsFit,
  SweepFits,
  OperatorFits,
}
use Rattle.undivided.specs.Plain.{plain_operated}
use Rattle.undivided.proofs.OrderLaws.{accepted_serves, serves_accepted}
use Rattle.undivided.proofs.Demand3.{left-planned, terms_in_order}
use Rattle.undivided.proofs.StepLaws.{order_passes, sweep_undivided, steps_undivided}
use Rattle.undivided.proofs.OperatorLaws.{operator_plain}
use Rattle.undivided.proofs.TellLaws.{tells-length, tells-plan, order-tells, place-tells, sweep_tells, plan-places, sweep_fits, operator-tells, operator-places, operator-fits}
use Rattle.plan_laws.proofs.CallParts.{plan_columns, plan_kept, plan_elims, plan_len, plan_lent}
use Rattle.product_laws.proofs.CallParts.{sweep_side, sweep_map, sweep_vector, sweep_rows, sweep_progress, sweep_order, sweep_rows_left, step_side, step_map, step_vector, step_rows, step_progress, step_chunk_of, step_map_left, step_rows_left, step_progress_left, operator_map, operator_operands, operator_work, operator_work_left}
use Rattle.undivided.proofs.Calls.{plan_over, sweep_over, step_over, operator_over, sweep_terms_of, step_terms_of}
use Rattle.plan.proofs.structure.plan.Reads as plan
use Rattle.products.proofs.order.sweep.Reads as sweep
use Rattle.products.specs.contracts.order.step as stepping
use Rattle.products.proofs.order.step.Kinds as step_kinds
use Rattle.products.proofs.order.step.Reads as step
use Rattle.products.proofs.operator.apply_schur_operator.Reads as operator

-- ---- the plan

-- where `plan` answers 0 with k and n spans, its lists at exit, cut to their used parts, are the plan of the kept side and of the eliminated one
module _ (κs : Lfts 19) (a : _) (t : _) (k n : ℕ) (post : plan.Post κs a (Ok (counts k n)) t) where
  abbrev m : Columns
  m = plan_columns κs a

  abbrev tells : tell 0 (k ∷ n ∷ []) ≡ plan_told m (plan_kept κs a) (plan_elims κs a) (plan_len κs a) (plan_lent κs a)
  tells = plan-tells κs a t (Ok (counts k n)) post

  passes : Passes (plan_told m (plan_kept κs a) (plan_elims κs a) (plan_len κs a) (plan_lent κs a))
  passes = sym (ap (λ (w : Told). w.number) tells)

  sound : Sound m (plan_kept κs a) (plan_elims κs a) (plan_len κs a) (plan_lent κs a)
  sound = passes_sound m (plan_kept κs a) (plan_elims κs a) (plan_len κs a) (plan_lent κs a) passes

  apart : Connects m (plan_elims κs a) → ⊥
  apart = planned_unconnected m (plan_kept κs a) (plan_elims κs a) (plan_len κs a) (plan_lent κs a) sound passes

  -- the answer's counts are the sides'
  pub span_counts : (e : Bool) → cond e n k ≡ length (side_spans m (side_of e (plan_kept κs a) (plan_elims κs a)) (plan_len κs a))
  span_counts true = ap (λ (w : Told). get_or w.values 1 0) (tells ∙ unconnected_planned m (plan_kept κs a) (plan_elims κs a) (plan_len κs a) (plan_lent κs a) sound apart)
  span_counts false = ap (λ (w : Told). get_or w.values 0 0) (tells ∙ unconnected_planned m (plan_kept κs a) (plan_elims κs a) (plan_len κs a) (plan_lent κs a) sound apart)

  pub plan_carried : (e : Bool) → PlannedOver e (plan_over κs a t k n e)
  plan_carried e =
      subst (λ (b : Buffers). SidePlanned m (plan_kept κs a) (plan_elims κs a) e (plan_len κs a) (cut (chunk_count_of m.nrows (plan_len κs a)) (cond e n k) (lists_of e b)))
      (sym (plan_leaves_lem κs a t (Ok (counts k n)) post))
      (subst (λ (i : ℕ). SidePlanned m (plan_kept κs a) (plan_elims κs a) e (plan_len κs a) (cut (chunk_count_of m.nrows (plan_len κs a)) i (lists_of e (plan_left m (plan_kept κs a) (plan_elims κs a) (plan_len κs a) (plan_lent κs a)))))
      (sym (span_counts e)) (left-planned m (plan_kept κs a) (plan_elims κs a) (plan_len κs a) (plan_lent κs a) sound apart e))

  -- so is what a call is lent that is lent just these
  pub lent_carried : (e : Bool) (l : OverPlan) → l ≡ plan_over κs a t k n e → PlannedOver e l
  lent_carried e l same = subst (λ (w : OverPlan). PlannedOver e w) (sym same) (plan_carried e)

-- ---- a sweep

-- `sweep`, lent a side's plan
module _ (κs : Lfts 8) (a : _) (t : _) (q : Answer) (post : sweep.Post κs a q t) (p : PlannedOver (sweep_side κs a) (sweep_over κs a)) where
  abbrev l : OverPlan
  l = sweep_over κs a

  abbrev side : List ℕ
  side = side_of (sweep_side κs a) l.kept l.elims

  abbrev chunks : ℕ
  chunks = chunk_count_of l.columns.nrows l.len

  abbrev order : Told
  order = bad_order chunks l.lists (sweep_order κs a)

  abbrev lengths : List ℕ
  lengths = sweep_lengths l.columns side l.len (sweep_vector κs a) l.lists (sweep_rows κs a) (sweep_progress κs a)

  swept-told : told q ≡ (sweep_of (sweep_side κs a) l.columns l.kept l.elims l.len (sweep_map κs a) (sweep_vector κs a) l.lists (sweep_rows κs a) (sweep_progress κs a) (sweep_order κs a)).told
  swept-told = ap (λ (w : Swept). w.told) post

  -- it tells 6 of its map, 11 of a length, or 14
  pub sweep_told_lem : told q ≡ or_else (no_room_of (length (sweep_map κs a) ∷ column_count l.columns ∷ [])) (or_else (wrong_length lengths) order)
  unfolding sweep_of
  sweep_told_lem =
      swept-told
      ∙ sweep_tells l.columns l.kept l.elims (sweep_side κs a) l.len l.lists p (sweep_map κs a) (sweep_vector κs a) (sweep_rows κs a) (sweep_progress κs a) order

  -- it is never refused for its plan: 13 is not told, and 11 is not told of the plan's lists, which are places 1 to 4
  pub sweep_never_13 : (told q).number ≡ 13 → ⊥
  sweep_never_13 e =
      tells-plan (length (sweep_map κs a) ∷ column_count l.columns ∷ []) lengths order (order-tells chunks l.lists (sweep_order κs a) 13 (omega arith) (omega arith)) (sym (ap (λ (w : Told). w.number) sweep_told_lem) ∙ e)

  pub sweep_never_11 : (place need : ℕ) → 1 ≤ place → place ≤ 4 → told q ≡ tell 11 (place ∷ need ∷ []) → ⊥
  sweep_never_11 place need low high e =
      tells-length (length (sweep_map κs a) ∷ column_count l.columns ∷ []) lengths order (order-tells chunks l.lists (sweep_order κs a) 11 (omega arith) (omega arith)) place need (sym sweep_told_lem ∙ e)
      (plan-places l.columns l.kept l.elims (sweep_side κs a) l.len l.lists p (sweep_map κs a) (sweep_vector κs a) (sweep_rows κs a) (sweep_progress κs a) place low high)

  -- where all else fits it is accepted exactly if the order serves each chunk as often as it has spans, and names no other
  pub sweep_serves : told q ≡ done → Serves chunks l.lists (sweep_order κs a)
  unfolding sweep_of
  sweep_serves e =
      accepted_serves chunks l.lists (sweep_order κs a)
      (order_passes (sweep_side κs a) l.columns l.kept l.elims l.len (sweep_map κs a) (sweep_vector κs a) l.lists (sweep_rows κs a) (sweep_progress κs a) (sweep_order κs a) (sym swept-told ∙ e))

  pub serves_sweep : SweepFits l.columns side l.len (sweep_map κs a) (sweep_vector κs a) (sweep_rows κs a) (sweep_progress κs a) → Serves chunks l.lists (sweep_order κs a) → told q ≡ done
  unfolding sweep_of
  serves_sweep f x =
      swept-told
      ∙ sweep_fits l.columns l.kept l.elims (sweep_side κs a) l.len l.lists p (sweep_map κs a) (sweep_vector κs a) (sweep_rows κs a) (sweep_progress κs a) f order
      ∙ serves_accepted chunks l.lists (sweep_order κs a) x

  -- an accepted one hands each row the terms of the undivided sweep, in their order, over the rows that it starts from
  pub sweep_whole : told q ≡ done → Undivided (sweep_side κs a) l (sweep_vector κs a) (start_rows (sweep_side κs a) (sweep_rows κs a)) (sweep_terms_of κs a) (sweep_rows_left κs t)
  unfolding sweep_of
  sweep_whole ok =
      let accepted = sym swept-told ∙ ok in
      record {
        added = ap (λ (w : Swept). w.rows) post ∙ pass_done _ _ (sweep_rows κs a) (ap (λ (w : Told). w.number) accepted);
        terms = λ r h.
            terms_in_order l.columns l.kept l.elims (sweep_side κs a) l.len l.lists p (sweep_vector κs a) r h (sweep_order κs a)
            (order_passes (sweep_side κs a) l.columns l.kept l.elims l.len (sweep_map κs a) (sweep_vector κs a) l.lists (sweep_rows κs a) (sweep_progress κs a) (sweep_order κs a) accepted);
        same_rows =
            ap (λ (w : Swept). w.rows) post
            ∙ sweep_undivided (sweep_side κs a) l.columns l.kept l.elims l.len (sweep_map κs a) (sweep_vector κs a) l.lists (sweep_rows κs a) (sweep_progress κs a) (sweep_order κs a) accepted p;
      }

-- ---- steps one after the other

-- `step`, lent a side's plan, is never refused for it
module _ (κs : Lfts 7) (a : _) (t : _) (q : Answer) (post : step.Post κs a q t) (p : PlannedOver (step_side κs a) (step_over κs a)) where
  abbrev w : OverPlan
  w = step_over κs a

  abbrev next : Told
  next = step_order (chunk_count_of w.columns.nrows w.len) w.lists (step_chunk_of κs a) (step_progress κs a)

  abbrev step_lengths : List ℕ
  step_lengths = sweep_lengths w.columns (side_of (step_side κs a) w.kept w.elims) w.len (step_vector κs a) w.lists (step_rows κs a) (step_progress κs a)

  stepped-told : told q ≡ or_else (no_room_of (length (step_map κs a) ∷ column_count w.columns ∷ [])) (or_else (wrong_length step_lengths) next)
  unfolding step_of
  stepped-told =
      ap (λ (o : Swept). o.told) post
      ∙ sweep_tells w.columns w.kept w.elims (step_side κs a) w.len w.lists p (step_map κs a) (step_vector κs a) (step_rows κs a) (step_progress κs a) next

  pub step_never_13 : (told q).number ≡ 13 → ⊥
  step_never_13 e =
      tells-plan (length (step_map κs a) ∷ column_count w.columns ∷ []) step_lengths next (place-tells (chunk_count_of w.columns.nrows w.len) w.lists (step_chunk_of κs a) (step_progress κs a) 13 (omega arith) (omega arith))
      (sym (ap (λ (o : Told). o.number) stepped-told) ∙ e)

  pub step_never_11 : (place need : ℕ) → 1 ≤ place → place ≤ 4 → told q ≡ tell 11 (place ∷ need ∷ []) → ⊥
  step_never_11 place need low high e =
      tells-length (length (step_map κs a) ∷ column_count w.columns ∷ []) step_lengths next (place-tells (chunk_count_of w.columns.nrows w.len) w.lists (step_chunk_of κs a) (step_progress κs a) 11 (omega arith) (omega arith)) place need
      (sym stepped-told ∙ e)
      (plan-places w.columns w.kept w.elims (step_side κs a) w.len w.lists p (step_map κs a) (step_vector κs a) (step_rows κs a) (step_progress κs a) place low high)

-- calls of `step`, place by place of an order
module _ (κs : ℕ → Lfts 7) (a : (i : ℕ) → ArgsD stepping.signature (κs i)) (t : (i : ℕ) → AtExit (ended_of 7 step_kinds.ps step_kinds.r) (κs i)) where
  -- all else lent stays the same, each map has room, and rows and progress are y and 0, and then as the step before left them
  pub record Chain (e : Bool) (l : OverPlan) (v : List Float) (order : List ℕ) (y : List Float) : Type 0 where
    pub sides : (i : ℕ) → i < length order → step_side (κs i) (a i) ≡ e
    pub lent : (i : ℕ) → i < length order → step_over (κs i) (a i) ≡ l
    pub vectors : (i : ℕ) → i < length order → step_vector (κs i) (a i) ≡ v
    pub places : (i : ℕ) → i < length order → step_chunk_of (κs i) (a i) ≡ get_or order i 0
    pub roomy : (i : ℕ) → i < length order → column_count l.columns ≤ length (step_map (κs i) (a i))
    pub first_rows : 0 < length order → step_rows (κs 0) (a 0) ≡ y
    pub first_progress : 0 < length order → step_progress (κs 0) (a 0) ≡ replicate (over_chunks l) 0
    pub next-rows : (i : ℕ) → suc i < length order → step_rows (κs (suc i)) (a (suc i)) ≡ step_rows_left (κs i) (t i)
    pub next-progress : (i : ℕ) → suc i < length order → step_progress (κs (suc i)) (a (suc i)) ≡ step_progress_left (κs i) (t i)

  -- the rows after the first n calls, and the terms that these added
  abbrev pub rows_after : List Float → ℕ → List Float
  rows_after y zero = y
  rows_after y (suc i) = step_rows_left (κs i) (t i)

  abbrev pub terms_of : ℕ → List RowTerm
  terms_of n = gather (λ i. step_terms_of (κs i) (a i)) 0 n

  -- over a side's plan, where vector and rows fit and the order serves each chunk as often as it has spans
  module _ (q : ℕ → Answer) (e : Bool) (l : OverPlan) (v : List Float) (order : List ℕ) (y : List Float) (post : (i : ℕ) → i < length order → step.Post (κs i) (a i) (q i) (t i)) (c : Chain e l v order y) (p : PlannedOver e l)
      (f : VectorsFit e l v y) (x : ServesOver l order) where
    abbrev zeros : List ℕ
    zeros = replicate (over_chunks l) 0

    abbrev maps : ℕ → List ℕ
    maps i = step_map (κs i) (a i)

    -- what is there before place i
    abbrev before : ℕ → Swept
    before zero = record { told = done; map = maps 0; rows = y; progress = zeros }
    before (suc i) = record { told = told (q i); map = step_map_left (κs i) (t i); rows = step_rows_left (κs i) (t i); progress = step_progress_left (κs i) (t i) }

    rows_before : (i : ℕ) → i < length order → step_rows (κs i) (a i) ≡ (before i).rows
    rows_before zero h = c.first_rows h
    rows_before (suc i) h = c.next-rows i h

    progress-before : (i : ℕ) → i < length order → step_progress (κs i) (a i) ≡ (before i).progress
    progress-before zero h = c.first_progress h
    progress-before (suc i) h = c.next-progress i h

    abbrev lent_step : Bool → OverPlan → List ℕ → List Float → List Float → List ℕ → ℕ → Swept
    lent_step e l map v rows progress chunk = step_of e l.columns l.kept l.elims l.len map v l.lists rows progress chunk

    one_step : (i : ℕ) → i < length order → before (suc i) ≡ lent_step e l (maps i) v (before i).rows (before i).progress (get_or order i 0)
    one_step i h =
        let m = maps i in
        let r = step_rows (κs i) (a i) in
        let g = step_progress (κs i) (a i) in
        let k = step_chunk_of (κs i) (a i) in
        post i h
        ∙ ap (λ (w : Bool). lent_step w (step_over (κs i) (a i)) m (step_vector (κs i) (a i)) r g k) (c.sides i h)
        ∙ ap (λ (w : OverPlan). lent_step e w m (step_vector (κs i) (a i)) r g k) (c.lent i h)
        ∙ ap (λ (w : List Float). lent_step e l m w r g k) (c.vectors i h)
        ∙ ap (λ (w : List Float). lent_step e l m v w g k) (rows_before i h)
        ∙ ap (λ (w : List ℕ). lent_step e l m v (before i).rows w k) (progress-before i h)
        ∙ ap (λ (w : ℕ). lent_step e l m v (before i).rows (before i).progress w) (c.places i h)

    -- a sweep of that order over y, with a map of just the room, would be accepted
    abbrev least : List ℕ
    least = replicate (column_count l.columns) 0

    accepted : sweep_told₁₄ e l.columns l.kept l.elims l.len least v l.lists y zeros order ≡ done
    accepted =
        sweep_fits l.columns l.kept l.elims e l.len l.lists p least v y zeros
        (record { map-fits = (let n = length-replicate {A = ℕ} (column_count l.columns) 0 in omega arith); v-fits = f.v-fits; rows_fit = f.rows_fit; progress-fits = length-replicate (over_chunks l) 0 })
        (bad_order (over_chunks l) l.lists order)
        ∙ serves_accepted (over_chunks l) l.lists order x

    abbrev steps : ℕ → Swept
    steps = steps_of e l.columns l.kept l.elims l.len maps v l.lists y order

    starts : before 0 ≡ steps 0
    unfolding steps_of
    starts = refl

    are_steps : (i : ℕ) → i ≤ length order → before i ≡ steps i
    are_steps = same_steps e l.columns l.kept l.elims l.len least v l.lists y zeros order accepted maps c.roomy before starts one_step

    after : (i : ℕ) → i ≤ length order → After e l.columns l.kept l.elims l.len maps v l.lists y order i
    after = steps_accepted e l.columns l.kept l.elims l.len least v l.lists y zeros order accepted maps c.roomy

    -- each of them is accepted
    pub steps_done : (i : ℕ) → i < length order → told (q i) ≡ done
    steps_done i h = ap (λ (w : Swept). w.told) (are_steps (suc i) h) ∙ (after (suc i) h).accepted

    -- the terms of the call at place i are those of the place
    call_terms : (i : ℕ) → i < length order → step_terms_of (κs i) (a i) ≡ place_terms l.columns l.lists v order i
    call_terms i h =
        let g = step_progress (κs i) (a i) in
        let k = step_chunk_of (κs i) (a i) in
        ap (λ (w : OverPlan). span_terms w.columns w.lists (step_vector (κs i) (a i)) (get_or w.lists.starts k 0 + get_or g k 0)) (c.lent i h)
        ∙ ap (λ (w : List Float). span_terms l.columns l.lists w (get_or l.lists.starts k 0 + get_or g k 0)) (c.vectors i h)
        ∙ ap (λ (w : List ℕ). span_terms l.columns l.lists v (get_or l.lists.starts k 0 + get_or w k 0)) (progress-before i h ∙ ap (λ (w : Swept). w.progress) (are_steps i (omega arith)))
        ∙ ap (λ (w : ℕ). span_terms l.columns l.lists v (get_or l.lists.starts w 0 + get_or (steps i).progress w 0)) (c.places i h)
        ∙ steps_place e l.columns l.kept l.elims l.len least v l.lists y zeros order accepted maps c.roomy i h

    all_terms_lem : terms_of (length order) ≡ order_terms l.columns l.lists v order
    unfolding order_terms place_terms
    all_terms_lem = gather_same (λ i. step_terms_of (κs i) (a i)) (place_terms l.columns l.lists v order) 0 (length order) (λ i _ h. call_terms i h)

    rows_then : (n : ℕ) → rows_after y n ≡ (before n).rows
    rows_then zero = refl
    rows_then (suc n) = refl

    -- together they hand each row the terms of the undivided sweep, in their order, over the rows y
    pub steps_terms : (r : ℕ) → r < l.columns.nrows → own_terms r (terms_of (length order)) ≡ own_terms r (over_terms e l v)
    steps_terms r h =
        ap (own_terms r) all_terms_lem
        ∙ terms_in_order l.columns l.kept l.elims e l.len l.lists p v r h order
        (order_passes e l.columns l.kept l.elims l.len least v l.lists y zeros order accepted)

    pub steps_rows : rows_after y (length order) ≡ swept_on (sign_of e) y (over_terms e l v)
    steps_rows =
        rows_then (length order)
        ∙ ap (λ (w : Swept). w.rows) (are_steps (length order) (le_refl (length order)))
        ∙ steps_undivided e l.columns l.kept l.elims l.len least v l.lists y zeros order accepted p maps c.roomy

    steps_added : rows_after y (length order) ≡ swept_on (sign_of e) y (terms_of (length order))
    unfolding order_terms place_terms
    steps_added =
        rows_then (length order)
        ∙ ap (λ (w : Swept). w.rows) (are_steps (length order) (le_refl (length order)))
        ∙ (after (length order) (le_refl (length order))).rows_are
        ∙ ap (λ (ts : List RowTerm). swept_on (sign_of e) y ts) (sym all_terms_lem)

    pub steps_whole : Undivided e l v y (terms_of (length order)) (rows_after y (length order))
    steps_whole = record { added = steps_added; terms = steps_terms; same_rows = steps_rows }

-- ---- the operator

-- `apply_schur_operator`, lent both sides' plans
module _ (κs : Lfts 12) (a : _) (t : _) (q : Answer) (post : operator.Post κs a q t) (p : (e : Bool) → PlannedOver e (operator_over κs a e)) where
  abbrev both : OverPlan
  both = operator_over κs a false

  operated-told : told q ≡ (schur_operator both.columns both.kept both.elims both.len (operator_map κs a) (operator_operands κs a) (operator_work κs a)).told
  operated-told = ap (λ (w : Operated). w.told) post

  -- it is never refused for its plans: 13 is not told, and 11 is not told of their lists, which are places 3 to 10
  pub operator_never_13 : (told q).number ≡ 13 → ⊥
  unfolding schur_operator
  operator_never_13 e =
      tells-plan (length (operator_map κs a) ∷ column_count both.columns ∷ []) (operator_lengths both.columns both.kept both.elims both.len (operator_operands κs a) (operator_work κs a)) done (λ z. omega arith)
      (sym (ap (λ (w : Told). w.number) (operated-told ∙ operator-tells both.columns both.kept both.elims both.len (operator_map κs a) (operator_operands κs a) (operator_work κs a) (p false) (p true))) ∙ e)

  pub operator_never_11 : (place need : ℕ) → 3 ≤ place → place ≤ 10 → told q ≡ tell 11 (place ∷ need ∷ []) → ⊥
  unfolding schur_operator
  operator_never_11 place need low high e =
      tells-length (length (operator_map κs a) ∷ column_count both.columns ∷ []) (operator_lengths both.columns both.kept both.elims both.len (operator_operands κs a) (operator_work κs a)) done (λ z. omega arith) place need
      (sym (operated-told ∙ operator-tells both.columns both.kept both.elims both.len (operator_map κs a) (operator_operands κs a) (operator_work κs a) (p false) (p true)) ∙ e)
      (operator-places both.columns both.kept both.elims both.len (operator_map κs a) (operator_operands κs a) (operator_work κs a) (p false) (p true) place low high)

  -- where all else fits it is done
  pub operator-done : OperatorFits both.columns both.kept both.elims (operator_map κs a) (operator_operands κs a) (operator_work κs a) → told q ≡ done
  unfolding schur_operator
  operator-done f = operated-told ∙ operator-fits both.columns both.kept both.elims both.len (operator_map κs a) (operator_operands κs a) (operator_work κs a) (p false) (p true) f

  -- and then rows, t, u and out are document 01's sums, which know no chunk length
  pub operator-work : told q ≡ done
      → operator_work_left κs t ≡ plain_operated both.columns both.kept both.elims (operator_operands κs a).v (operator_operands κs a).inverses (operator_operands κs a).d
  unfolding schur_operator
  operator-work ok =
      ap (λ (w : Operated). w.work) post
      ∙ pass_done _ _ (operator_work κs a) (ap (λ (w : Told). w.number) (sym operated-told ∙ ok))
      ∙ operator_plain both.columns both.kept both.elims both.len (operator_operands κs a) (p false) (p true)

-- ---- from one call to the next

-- `plan` answered 0 with k and n spans; the calls after it are lent its columns, sides, chunk length, and lists as it left them, cut
module _ (κs : Lfts 19) (a : _) (t : _) (k n : ℕ) (made : plan.Post κs a (Ok (counts k n)) t) where
  -- an accepted sweep of either side hands each row the undivided sweep's terms, whatever the order and the chunk length
  pub planned_sweep : (λs : Lfts 8) (b : _) (u : _) (q : Answer) → sweep.Post λs b q u → sweep_over λs b ≡ plan_over κs a t k n (sweep_side λs b) → told q ≡ done
      → Undivided (sweep_side λs b) (sweep_over λs b) (sweep_vector λs b) (start_rows (sweep_side λs b) (sweep_rows λs b)) (sweep_terms_of λs b) (sweep_rows_left λs u)
  planned_sweep λs b u q post same ok = sweep_whole λs b u q post (lent_carried κs a t k n made (sweep_side λs b) (sweep_over λs b) same) ok

  -- so do steps one after the other, from any rows, where the order serves each chunk as often as it has spans
  pub planned_steps : (λs : ℕ → Lfts 7) (b : (i : ℕ) → ArgsD stepping.signature (λs i)) (u : (i : ℕ) → AtExit (ended_of 7 step_kinds.ps step_kinds.r) (λs i)) (q : ℕ → Answer) (e : Bool) (l : OverPlan) (v : List Float) (order : List ℕ) (y : List Float)
      → ((i : ℕ) → i < length order → step.Post (λs i) (b i) (q i) (u i)) → Chain λs b u e l v order y → l ≡ plan_over κs a t k n e → VectorsFit e l v y → ServesOver l order
      → Undivided e l v y (terms_of λs b u (length order)) (rows_after λs b u y (length order))
  planned_steps λs b u q e l v order y post c same f x = steps_whole λs b u q e l v order y post c (lent_carried κs a t k n made e l same) f x

  -- and the operator leaves document 01's sums
  pub planned-operator : (λs : Lfts 12) (b : _) (u : _) (q : Answer) → operator.Post λs b q u → ((e : Bool) → operator_over λs b e ≡ plan_over κs a t k n e) → told q ≡ done
      → operator_work_left λs u
      ≡ plain_operated (operator_over λs b false).columns (operator_over λs b false).kept (operator_over λs b false).elims (operator_operands λs b).v (operator_operands λs b).inverses (operator_operands λs b).d
  planned-operator λs b u q post same ok = operator-work λs b u q post (λ e. lent_carried κs a t k n made e (operator_over λs b e) (same e)) ok
