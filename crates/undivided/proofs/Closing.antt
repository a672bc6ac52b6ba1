-- Demand 3 in one sentence, of the calls themselves, once of sweeps and once of steps. From columns and blocks that keep the rules, a chunk length from
-- 1 to 1,048,576, room, and what the calls promise: either some row has entries of two eliminated blocks and `plan` answers 10; or it answers 0 with
-- both sides' span counts, and over the plan that it left every order that serves each chunk as often as it has spans is accepted, on either side,
-- and hands each row the same terms in the same order as one undivided sweep over the same starting rows. Assumes nothing.
use mathlib.Core.Path.{◌≡◌, refl, subst}
use mathlib.Core.Bool.{Bool, true, false}
use mathlib.Core.Logic.{◌⊎◌, inl, inr}
use mathlib.Core.List.{List}
use Prim.Native.Nat.{ℕ, ◌<◌}
use lib.ListN.{length}
use lib.Ieee.{Float}
use contract.Lifetimes.{Lfts}
use denote.Triple.Clauses.{AtExit}
use borrow.Fn.Kinds.{ended_of}
use borrow.Fn.World.{ArgsD}
use Rattle.columns.specs.Refusals.{Answer, done, told}
use Rattle.blocks.specs.Sides.{side_of}
use Rattle.std.specs.Prelude.{Ok}
use Rattle.plan.specs.Owners.{Connects}
use Rattle.plan.specs.Spans.{side_spans}
use Rattle.plan.specs.Plan.{told_plan}
use Rattle.plan_laws.proofs.PlanLaws.{Sound, connects_or_not}
use Rattle.plan_laws.proofs.CallParts.{plan_columns, plan_kept, plan_elims, plan_len, plan_lent}
use Rattle.plan_laws.proofs.Determined.{Planned, counts, plan_refuses, plan_answers}
use Rattle.products.specs.Orders.{start_rows}
use Rattle.product_laws.proofs.CallParts.{sweep_side, sweep_map, sweep_vector, sweep_rows, sweep_progress, sweep_order, sweep_rows_left}
use Rattle.undivided.specs.Undivided.{OverPlan, over_side, ServesOver, Undivided, VectorsFit, SweepFits}
use Rattle.undivided.proofs.Calls.{plan_over, sweep_over, sweep_terms_of}
use Rattle.undivided.proofs.Carried.{lent_carried, sweep_serves, serves_sweep, sweep_whole, Chain, rows_after, terms_of, steps_done, steps_whole}
use Rattle.plan.proofs.structure.plan.Reads as plan
use Rattle.products.specs.contracts.order.sweep as sweeping
use Rattle.products.proofs.order.sweep.Kinds as sweep_kinds
use Rattle.products.proofs.order.sweep.Reads as sweep
use Rattle.products.specs.contracts.order.step as stepping
use Rattle.products.proofs.order.step.Kinds as step_kinds
use Rattle.products.proofs.order.step.Reads as step

-- a call of `plan`, its answer, and what it left
module _ (κs : Lfts 19) (a : _) (t : _) (q : Planned) (post : plan.Post κs a q t) where
  -- how many spans a side has, by document 01's words
  abbrev pub spans : Bool → ℕ
  spans e = length (side_spans (plan_columns κs a) (side_of e (plan_kept κs a) (plan_elims κs a)) (plan_len κs a))

  -- a side's plan, as the call left it
  abbrev pub over : Bool → OverPlan
  over e = plan_over κs a t (spans false) (spans true) e

  -- some row has entries of two eliminated blocks, and the answer is 10
  pub record Refused : Type 0 where
    pub connects : Connects (plan_columns κs a) (plan_elims κs a)
    pub is_10 : (told_plan q).number ≡ 10

  -- no row has, and the answer is 0 with both counts
  pub record Answered : Type 0 where
    pub apart : Connects (plan_columns κs a) (plan_elims κs a) → ⊥
    pub answer : q ≡ Ok (counts (spans false) (spans true))

  -- a sweep over the plan that was left, all else of its length: it is accepted exactly if its order serves each chunk as often as it has spans, and
  -- then it is the undivided sweep over the rows that it starts from
  pub record SweepGood (λs : Lfts 8) (b : ArgsD sweeping.signature λs) (u : AtExit (ended_of 8 sweep_kinds.ps sweep_kinds.r) λs) (w : Answer) : Type 0 where
    pub accepted : ServesOver (sweep_over λs b) (sweep_order λs b) → told w ≡ done
    pub served : told w ≡ done → ServesOver (sweep_over λs b) (sweep_order λs b)
    pub whole : told w ≡ done → Undivided (sweep_side λs b) (sweep_over λs b) (sweep_vector λs b) (start_rows (sweep_side λs b) (sweep_rows λs b)) (sweep_terms_of λs b) (sweep_rows_left λs u)

  pub record Sweeps : Type 0 where
    pub answered : Answered
    pub each : (λs : Lfts 8) (b : ArgsD sweeping.signature λs) (u : AtExit (ended_of 8 sweep_kinds.ps sweep_kinds.r) λs) (w : Answer) → sweep.Post λs b w u
        → sweep_over λs b ≡ over (sweep_side λs b)
        → SweepFits (sweep_over λs b).columns (over_side (sweep_side λs b) (sweep_over λs b)) (sweep_over λs b).len (sweep_map λs b) (sweep_vector λs b) (sweep_rows λs b) (sweep_progress λs b)
        → SweepGood λs b u w

  -- calls of `step`, place by place of an order: each is accepted, and together they are the undivided sweep over the rows that the first is lent
  pub record StepsGood (λs : ℕ → Lfts 7) (b : (i : ℕ) → ArgsD stepping.signature (λs i)) (u : (i : ℕ) → AtExit (ended_of 7 step_kinds.ps step_kinds.r) (λs i)) (w : ℕ → Answer) (e : Bool) (v : List Float) (order : List ℕ) (y : List Float) : Type 0 where
    pub accepted : (i : ℕ) → i < length order → told (w i) ≡ done
    pub whole : Undivided e (over e) v y (terms_of λs b u (length order)) (rows_after λs b u y (length order))

  pub record Steps : Type 0 where
    pub answered : Answered
    pub each : (λs : ℕ → Lfts 7) (b : (i : ℕ) → ArgsD stepping.signature (λs i)) (u : (i : ℕ) → AtExit (ended_of 7 step_kinds.ps step_kinds.r) (λs i)) (w : ℕ → Answer) (e : Bool) (v : List Float) (order : List ℕ) (y : List Float)
        → ((i : ℕ) → i < length order → step.Post (λs i) (b i) (w i) (u i)) → Chain λs b u e (over e) v order y → VectorsFit e (over e) v y → ServesOver (over e) order
        → StepsGood λs b u w e v order y

  -- columns and blocks keep the rules, the chunk length is good, and no buffer is too short
  module _ (sound : Sound (plan_columns κs a) (plan_kept κs a) (plan_elims κs a) (plan_len κs a) (plan_lent κs a)) where
    refused_or_answered : Refused ⊎ Answered
    refused_or_answered = go (connects_or_not (plan_columns κs a) (plan_elims κs a))
      where
        go : Connects (plan_columns κs a) (plan_elims κs a) ⊎ (Connects (plan_columns κs a) (plan_elims κs a) → ⊥) → Refused ⊎ Answered
        go (inl c) = inl (record { connects = c; is_10 = plan_refuses κs a t q post sound c })
        go (inr ne) = inr (record { apart = ne; answer = plan_answers κs a t q post sound ne })

    -- the promise of the call, with the answer that it gives
    promised : Answered → plan.Post κs a (Ok (counts (spans false) (spans true))) t
    promised x = subst (λ (w : Planned). plan.Post κs a w t) x.answer post

    pub demand_3_sweeps : Refused ⊎ Sweeps
    demand_3_sweeps = go refused_or_answered
      where
        go : Refused ⊎ Answered → Refused ⊎ Sweeps
        go (inl x) = inl x
        go (inr x) =
            inr
            (record {
              answered = x;
              each = λ λs b u w p same f.
                  (let l = lent_carried κs a t (spans false) (spans true) (promised x) (sweep_side λs b) (sweep_over λs b) same in
                  record { accepted = serves_sweep λs b u w p l f; served = sweep_serves λs b u w p l; whole = sweep_whole λs b u w p l });
            })

    pub demand_3_steps : Refused ⊎ Steps
    demand_3_steps = go refused_or_answered
      where
        go : Refused ⊎ Answered → Refused ⊎ Steps
        go (inl x) = inl x
        go (inr x) =
            inr
            (record {
              answered = x;
              each = λ λs b u w e v order y p c f s.
                  (let l = lent_carried κs a t (spans false) (spans true) (promised x) e (over e) refl in
                  record { accepted = steps_done λs b u w e (over e) v order y p c l f s; whole = steps_whole λs b u w e (over e) v order y p c l f s });
            })
