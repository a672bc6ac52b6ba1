-- A side's plan as `plan` leaves it, and as `sweep`, `step` and `apply_schur_operator` are lent it; the terms that a call of `sweep` or `step` adds,
-- where it is accepted. Assumes nothing.
use mathlib.Core.Bool.{Bool, cond}
use mathlib.Core.List.{List}
use Prim.Native.Nat.{ℕ, ◌+◌}
use lib.ListN.{get_or}
use contract.Lifetimes.{Lfts}
use denote.Triple.Clauses.{AtExit}
use borrow.Fn.Kinds.{ended_of}
use borrow.Fn.World.{ArgsD}
use Rattle.columns.specs.Sums.{RowTerm}
use Rattle.plan.specs.Spans.{chunk_count_of}
use Rattle.products.specs.Orders.{span_terms, order_terms}
use Rattle.plan.specs.contracts.structure.plan as planning
use Rattle.plan.proofs.structure.plan.Kinds as plan_kinds
use Rattle.products.specs.contracts.order.sweep as sweeping
use Rattle.products.specs.contracts.order.step as stepping
use Rattle.products.specs.contracts.operator.apply_schur_operator as operating
use Rattle.plan_laws.proofs.CallParts.{plan_columns, plan_kept, plan_elims, plan_len, plan_leaves_of}
use Rattle.product_laws.proofs.CallParts.{sweep_columns, sweep_kept, sweep_elims, sweep_len, sweep_lists, sweep_vector, sweep_order, step_columns, step_kept, step_elims, step_len, step_lists, step_vector, step_progress, step_chunk_of, operator_columns, operator_kept, operator_elims, operator_len, operator_operands}
use Rattle.undivided.specs.Undivided.{cut, lists_of, OverPlan}

-- one side's plan, with the span counts k and n that were answered: its lists as they are left, cut to their used parts
abbrev pub plan_over : (κs : Lfts 19) → ArgsD planning.signature κs → AtExit (ended_of 19 plan_kinds.ps plan_kinds.r) κs → ℕ → ℕ → Bool → OverPlan
plan_over κs a t k n e = record {
  columns = plan_columns κs a;
  kept = plan_kept κs a;
  elims = plan_elims κs a;
  len = plan_len κs a;
  lists = cut (chunk_count_of (plan_columns κs a).nrows (plan_len κs a)) (cond e n k) (lists_of e (plan_leaves_of κs t));
}

-- and as it is lent
abbrev pub sweep_over : (κs : Lfts 8) → ArgsD sweeping.signature κs → OverPlan
sweep_over κs a = record { columns = sweep_columns κs a; kept = sweep_kept κs a; elims = sweep_elims κs a; len = sweep_len κs a; lists = sweep_lists κs a }

abbrev pub step_over : (κs : Lfts 7) → ArgsD stepping.signature κs → OverPlan
step_over κs a = record { columns = step_columns κs a; kept = step_kept κs a; elims = step_elims κs a; len = step_len κs a; lists = step_lists κs a }

abbrev pub operator_over : (κs : Lfts 12) → ArgsD operating.signature κs → Bool → OverPlan
operator_over κs a e = record {
  columns = operator_columns κs a;
  kept = operator_kept κs a;
  elims = operator_elims κs a;
  len = operator_len κs a;
  lists = cond e (operator_operands κs a).elims (operator_operands κs a).kept;
}

-- the terms of a sweep, along its order; and those of a step: the span of its chunk at the progress that it is lent
abbrev pub sweep_terms_of : (κs : Lfts 8) → ArgsD sweeping.signature κs → List RowTerm
sweep_terms_of κs a = order_terms (sweep_columns κs a) (sweep_lists κs a) (sweep_vector κs a) (sweep_order κs a)

abbrev pub step_terms_of : (κs : Lfts 7) → ArgsD stepping.signature κs → List RowTerm
step_terms_of κs a =
    span_terms (step_columns κs a) (step_lists κs a) (step_vector κs a)
    (get_or (step_lists κs a).starts (step_chunk_of κs a) 0 + get_or (step_progress κs a) (step_chunk_of κs a) 0)
