-- Any two outcomes that the promise of a public function permits agree; and from the promise of `plan`, where columns, blocks, chunk length and room are
-- sound: 10 exactly if some row has entries of two eliminated blocks, and else 0 with the counts, and its buffers are the plan's. `Post` is the contract's own reading, at the arguments a, the answer and the
-- parameters at exit. Assumes nothing.
use mathlib.Core.Path.{◌≡◌, refl, sym, ap, ◌∙◌}
use mathlib.Core.Bool.{cond}
use lib.Dec.{eqb}
use Prim.Native.Nat.{ℕ}
use lib.ListN.{length, get_or}
use contract.Lifetimes.{Lfts}
use Rattle.ground.specs.Determined.{Determined}
use Rattle.ground.proofs.DeterminedLaws.{by_equation}
use Rattle.std.specs.Prelude.{Result, Ok, Err}
use Rattle.columns.specs.declared.refusal.Refusal.{Refusal}
use Rattle.columns.specs.Refusals.{Answer, Told, told}
use Rattle.columns.proofs.RefusalLaws.{refusal_of, refusal_back, number-some, answer_of, answer_back}
use Rattle.plan.specs.declared.structure.SpanCounts.{SpanCounts}
use Rattle.plan.specs.Owners.{Connects}
use Rattle.plan.specs.Spans.{side_spans}
use Rattle.plan.specs.Plan.{Buffers, told_plan, plan_told, plan_of, plan_left, Outcome, planned}
use Rattle.plan_laws.proofs.CallParts.{plan_columns, plan_kept, plan_elims, plan_len, plan_lent, plan_leaves_of}
use Rattle.plan_laws.proofs.PlanLaws.{Sound, connected-number, refused-connected, unconnected_planned, unconnected_left}
use Rattle.plan.proofs.spans.check_chunk.Reads as chunk
use Rattle.plan.proofs.spans.chunk_count.Reads as count
use Rattle.plan.proofs.structure.plan.Reads as plan

pub check_chunk : (κs : Lfts 0) (a : _) (s t : _) (p q : Answer) → chunk.Post κs a p s → chunk.Post κs a q t → p ≡ q
check_chunk κs a s t p q = by_equation told answer_of answer_back _ p q

pub chunk_count : (κs : Lfts 0) (a : _) (s t : _) (p q : _) → count.Post κs a p s → count.Post κs a q t → p ≡ q
chunk_count κs a s t p q x y = x ∙ sym y

-- what `plan` answers: how many spans each side has, or why not
abbrev pub Planned : Type 0
Planned = Result SpanCounts Refusal

abbrev pub counts : ℕ → ℕ → SpanCounts
counts kept elims = record { kept = kept; eliminated = elims }

-- the answer of what a call of `plan` tells
unfoldable planned_of : Told → Planned
planned_of t = cond (eqb t.number 0) (Ok (counts (get_or t.values 0 0) (get_or t.values 1 0))) (Err (refusal_of t))

planned_back : (a : Planned) → planned_of (told_plan a) ≡ a
unfolding planned_of
planned_back (Ok w) = refl
planned_back (Err r) = rw (number-some r) (ap (λ s. Err s) (refusal_back r))

outcome_determined : (w : Outcome) → Determined (λ (o : Planned × Buffers). record { told = told_plan o.0; left = o.1 } ≡ w)
outcome_determined =
    by_equation (λ (o : Planned × Buffers). record { told = told_plan o.0; left = o.1 }) (λ (w : Outcome). (planned_of w.told, w.left))
    (λ o. ap (λ (a : Planned). (a, o.1)) (planned_back o.0))

-- what `plan` answers, and what it leaves
pub plan_determined : (κs : Lfts 19) (a : _) (s t : _) (p q : Planned) → plan.Post κs a p s → plan.Post κs a q t → ◌≡◌ {A = Planned × Buffers} (p, plan_leaves_of κs s) (q, plan_leaves_of κs t)
plan_determined κs a s t p q = outcome_determined _ (p, plan_leaves_of κs s) (q, plan_leaves_of κs t)

-- a promise kept by answer p and the parameters at exit t, for arguments a
module _ (κs : Lfts 19) (a : _) (t : _) (p : Planned) (kept : plan.Post κs a p t) where
  pub plan-tells : told_plan p ≡ plan_told (plan_columns κs a) (plan_kept κs a) (plan_elims κs a) (plan_len κs a) (plan_lent κs a)
  unfolding planned
  plan-tells = ap (λ (o : Outcome). o.told) kept

  pub plan_leaves_lem : plan_leaves_of κs t ≡ plan_left (plan_columns κs a) (plan_kept κs a) (plan_elims κs a) (plan_len κs a) (plan_lent κs a)
  unfolding planned
  plan_leaves_lem = ap (λ (o : Outcome). o.left) kept

  -- demand 3, first half, of the code itself
  module _ (sound : Sound (plan_columns κs a) (plan_kept κs a) (plan_elims κs a) (plan_len κs a) (plan_lent κs a)) where
    pub plan_refuses : Connects (plan_columns κs a) (plan_elims κs a) → (told_plan p).number ≡ 10
    plan_refuses c = ap (λ (w : Told). w.number) plan-tells ∙ connected-number (plan_columns κs a) (plan_kept κs a) (plan_elims κs a) (plan_len κs a) (plan_lent κs a) sound c

    pub plan-refused : (told_plan p).number ≡ 10 → Connects (plan_columns κs a) (plan_elims κs a)
    plan-refused e = refused-connected (plan_columns κs a) (plan_kept κs a) (plan_elims κs a) (plan_len κs a) (plan_lent κs a) sound (sym (ap (λ (w : Told). w.number) plan-tells) ∙ e)

    -- no such row: the answer is done, with both sides' span counts
    pub plan_answers : (Connects (plan_columns κs a) (plan_elims κs a) → ⊥)
        → p ≡ Ok (counts (length (side_spans (plan_columns κs a) (plan_kept κs a) (plan_len κs a))) (length (side_spans (plan_columns κs a) (plan_elims κs a) (plan_len κs a))))
    unfolding planned_of
    plan_answers ne =
        sym (planned_back p) ∙ ap planned_of (plan-tells ∙ unconnected_planned (plan_columns κs a) (plan_kept κs a) (plan_elims κs a) (plan_len κs a) (plan_lent κs a) sound ne)

    pub plan-made : (Connects (plan_columns κs a) (plan_elims κs a) → ⊥) → plan_leaves_of κs t ≡ plan_of (plan_columns κs a) (plan_kept κs a) (plan_elims κs a) (plan_len κs a) (plan_lent κs a)
    plan-made ne = plan_leaves_lem ∙ unconnected_left (plan_columns κs a) (plan_kept κs a) (plan_elims κs a) (plan_len κs a) (plan_lent κs a) sound ne
