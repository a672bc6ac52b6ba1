-- What the functions of src/operator.rt come to: the lengths and plans of an operator, and d·v added. Assumes nothing.
use Rattle.std.proofs.Common.{◌≡◌, ℕ, zero, suc, ◌+◌, ◌<◌, ◌≤◌, Bool, true, false, cond, ltb, List, [], ◌∷◌, ◌++◌, length, get_or, set, sym, refl, ap, ◌∙◌, append-nil, arith, le-ltb, lt-ltb, eq-eqb, ne_eqb}
use lib.Ieee.{Float, nan, binary64, add, mul}
use Rattle.ground.specs.Range.{range}
use Rattle.ground.specs.Gather.{list_of}
use Rattle.ground.proofs.Rules.{loops}
use Rattle.ground.proofs.RangeLaws.{range_none, range_last}
use Rattle.ground.proofs.GatherLaws.{get_or-list_of}
use Rattle.ground.proofs.NumberLaws.{not_more}
use Rattle.ground.proofs.ListLaws.{list_of_same, set-list_of}
use Rattle.ground.proofs.FoldLaws.{folded_append, folded-one}
use Rattle.columns.specs.declared.refusal.Refusal.{Refusal}
use Rattle.columns.specs.Refusals.{Answer}
use Rattle.std.specs.Prelude.{Ok, Err}
use Rattle.columns.specs.Refusals.{Told, refused, told, or_else}
use Rattle.columns.specs.Lengths.{wrong_length}
use Rattle.columns.specs.Columns.{Columns}
use Rattle.columns.specs.Sums.{zero₋, Term, term, add_term, sum_from}
use Rattle.columns.specs.JacobianOps.{gather_terms}
use Rattle.columns.proofs.RefusalLaws.{or_refused, or_done}
use Rattle.columns.proofs.CallLaws.{lengths_right}
use Rattle.blocks.specs.Sides.{side_dof}
use Rattle.plan.specs.Spans.{chunk_count_of, Spread}
use Rattle.plan.specs.SpanWalk.{Chunked}
use Rattle.products.specs.SideSums.{column_at, side_gather}
use Rattle.products.specs.Operator.{damp_term, kept_sum, kept_sums, damp_length, Sizes, operator_pairs}
use Rattle.products.specs.OperatorCalls.{operator_lent, damp_at, damped_on, DampFits}
use Rattle.products.specs.PlanCheck.{PlanThere}
use Rattle.products.proofs.SweepRules.{small_end}
use Rattle.products.specs.Orders.{plan_lengths, spans_told}

-- ---- the damping's length

pub damp_none : (n dof : ℕ) → n ≡ 0 → dof ≡ damp_length n dof
unfolding damp_length
damp_none n dof e = rw (eq-eqb n 0 e)

pub damp_some : (n dof : ℕ) → (n ≡ 0 → ⊥) → n ≡ damp_length n dof
unfolding damp_length
damp_some n dof e = rw (ne_eqb n 0 e)

-- ---- d·v added

pub damp_step : (d v out : List Float) (l : ℕ) → set out l (add binary64 (get_or out l nan) (mul binary64 (get_or d l nan) (get_or v l nan))) ≡ damp_at d v l out
unfolding damp_at add_term
damp_step d v out l = refl

pub damp_vector : (d v out l : ℕ) → DampFits d v out → l < d → l < v
damp_vector d v out l f h = omega (arith, f.vector)

pub damp_out : (d v out l k : ℕ) → DampFits d v out → l < d → k ≡ out → l < k
damp_out d v out l k f h e = omega (arith, f.room)

-- a list of sums with d·v added at its first places, one for each of d's
module _ (g : ℕ → Float) (n : ℕ) (d v : List Float) where
  abbrev damped_to : ℕ → ℕ → Float
  damped_to k l = cond (ltb l k) (add_term (g l) (term (get_or d l nan) (get_or v l nan))) (g l)

  damped-list : (k : ℕ) → k ≤ n → range (damp_at d v) 0 k (list_of g n) ≡ list_of (damped_to k) n
  unfolding damp_at
  damped-list zero h = range_none (damp_at d v) 0 0 (list_of g n) (omega arith) ∙ list_of_same nan g (damped_to 0) n (λ l _. rw (le-ltb l 0 (omega arith)))
  damped-list (suc k) h =
      let e : k + 1 ≡ suc k = omega arith in
      let same : damped_to k k ≡ g k = rw (le-ltb k k (omega arith)) in
      let at : get_or (list_of (damped_to k) n) k nan ≡ g k = get_or-list_of (damped_to k) nan n k h ∙ same in
      let now : add_term (g k) (term (get_or d k nan) (get_or v k nan)) ≡ damped_to (suc k) k = rw (lt-ltb k (suc k) (omega arith)) in
      ap (λ (j : ℕ). range (damp_at d v) 0 j (list_of g n)) (sym e)
      ∙ range_last (damp_at d v) 0 k (list_of g n) (omega arith)
      ∙ ap (damp_at d v k) (damped-list k (omega arith))
      ∙ ap (λ (x : Float). set (list_of (damped_to k) n) k (add_term x (term (get_or d k nan) (get_or v k nan)))) at
      ∙ ap (λ (x : Float). set (list_of (damped_to k) n) k x) now
      ∙ set-list_of nan (damped_to k) (damped_to (suc k)) n k h later
    where
      later : (i : ℕ) → (i ≡ k → ⊥) → damped_to (suc k) i ≡ damped_to k i
      later i ne = ap (λ (b : Bool). cond b (add_term (g i) (term (get_or d i nan) (get_or v i nan))) (g i)) (not_more i k ne)

-- out = Fᵀ·y + d·v: d is empty, or as long as the kept dof
module _ (m : Columns) (kept : List ℕ) (d v y : List Float) where
  abbrev plain : ℕ → Float
  plain l = sum_from zero₋ (gather_terms m y (column_at kept l))

  sum_is : (l : ℕ) → damped_to plain (side_dof kept) d v (length d) l ≡ kept_sum m kept d v y l
  unfolding kept_sum damp_term
  sum_is l = go (ltb l (length d)) refl
    where
      go : (b : Bool) → ltb l (length d) ≡ b → damped_to plain (side_dof kept) d v (length d) l ≡ sum_from zero₋ (gather_terms m y (column_at kept l) ++ cond (ltb l (length d)) (term (get_or d l nan) (get_or v l nan) ∷ []) [])
      go true e = rw e (sym (folded_append add_term zero₋ (gather_terms m y (column_at kept l)) (term (get_or d l nan) (get_or v l nan) ∷ []) ∙ folded-one add_term _ _))
      go false e = rw e (ap (λ (ts : List Term). sum_from zero₋ ts) (sym (append-nil (gather_terms m y (column_at kept l)))))

  pub damped-sums : (out out' : List Float) → length d ≤ side_dof kept → out ≡ side_gather zero₋ m kept y → out' ≡ damped_on d v out → out' ≡ kept_sums m kept d v y
  unfolding side_gather
  damped-sums out out' h e q =
      q ∙ ap (damped_on d v) e ∙ damped-list plain (side_dof kept) d v (length d) h ∙ list_of_same nan (damped_to plain (side_dof kept) d v (length d)) (kept_sum m kept d v y) (side_dof kept) (λ l _. sum_is l)

-- ---- 11 and 13: chunks is what the code counted, damp what it asks of d, and w what the lengths told

module _ (nrows : ℕ) (m : Columns) (len kd ed count : ℕ) (z : Sizes) (ks es : Spread) (chunks damp : ℕ) (w : Answer) (c : chunks ≡ chunk_count_of nrows len) (q : damp ≡ damp_length z.d kd)
    (call : told w ≡ wrong_length (z.v ∷ kd ∷ z.inverses ∷ count ∷ damp ∷ kd ∷ plan_lengths chunks ks (plan_lengths chunks es (z.rows ∷ nrows ∷ z.t ∷ ed ∷ z.u ∷ ed ∷ z.out ∷ kd ∷ [])))) where
  abbrev pairs : List ℕ
  pairs = operator_pairs nrows (chunk_count_of nrows len) kd ed count z ks es

  wrong_is : told w ≡ wrong_length pairs
  wrong_is = call ∙ rw (c, q)

  pub operands-refused : (r : Refusal) → w ≡ Err r → refused r ≡ operator_lent nrows m len kd ed count z ks es
  unfolding operator_lent
  operands-refused r e = rw (← wrong_is, e) (sym (or_refused r _))

  module _ (e : w ≡ Ok tt) where
    right : (k : ℕ) → k < 15 → get_or pairs (k + k) 0 ≡ get_or pairs (k + k + 1) 0
    right k h = lengths_right pairs (ap (λ (t : Told). t.number) (sym wrong_is ∙ ap told e)) k h

    pub plans_there : Chunked nrows len → PlanThere len chunks (length ks.starts) (length ks.lo) (length ks.hi) (length ks.local) × PlanThere len chunks (length es.starts) (length es.lo) (length es.hi) (length es.local)
    plans_there h = rw c (
      record { starts = right 3 (omega arith); hi = right 5 (omega arith); local = right 6 (omega arith); small = small_end nrows len h },
      record { starts = right 7 (omega arith); hi = right 9 (omega arith); local = right 10 (omega arith); small = small_end nrows len h },
    )

    lent_is : operator_lent nrows m len kd ed count z ks es ≡ or_else (spans_told false m kd len chunks ks) (spans_told true m ed len chunks es)
    unfolding operator_lent
    lent_is = rw (← wrong_is, e, c) (or_done _)

    -- k is what the kept plan's check told
    module _ (k : Answer) (kept : told k ≡ spans_told false m kd len chunks ks) where
      pub kept-refused : (r : Refusal) → k ≡ Err r → refused r ≡ operator_lent nrows m len kd ed count z ks es
      kept-refused r p = sym (lent_is ∙ rw (← kept, p) (or_refused r _))

      pub both_plans : (t : Answer) → k ≡ Ok tt → told t ≡ spans_told true m ed len chunks es → told t ≡ operator_lent nrows m len kd ed count z ks es
      both_plans t p r = r ∙ sym (lent_is ∙ rw (← kept, p) (or_done _))

pub ruleset operating = (loops, damp_none, damp_some, damp_step, damp_vector, damp_out)
