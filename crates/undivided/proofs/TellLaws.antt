-- Over a plan a sweep, a step and the operator are never refused for the plan: a map without room is 6, a vector or work buffer of other length is 11,
-- and past these only the order can be refused, which is 14. Assumes nothing.
use mathlib.Core.Path.{◌≡◌, refl, ap, ◌∙◌}
use mathlib.Core.Bool.{Bool, true, false, cond}
use mathlib.Core.List.{List, [], ◌∷◌}
use Prim.Native.Nat.{ℕ, zero, suc, ◌/◌, ◌≤◌, ◌<◌}
use native.Mathlib.Omega.{arith}
use lib.Dec.{ltb}
use lib.ListN.{length, get_or}
use lib.Ieee.{Float}
use borrow.Author.Tests.{le-ltb, ltb-true}
use Rattle.ground.specs.First.{first, some}
use Rattle.ground.proofs.FirstLaws.{first_bad, none_past}
use Rattle.columns.specs.Refusals.{Told, tell, done, on_pass, or_else}
use Rattle.columns.specs.Lengths.{length_of, need_of, pair_bad, bad_pair, pairs_told, no_room_of, wrong_length, misfits}
use Rattle.columns.specs.Columns.{Columns, column_count, Keeps}
use Rattle.columns.proofs.RefusalLaws.{or_done}
use Rattle.blocks.specs.Sides.{side_of}
use Rattle.blocks.specs.Claims.{late_blocks, Parted}
use Rattle.blocks.proofs.PartLaws.{parted_parts, parted_late}
use Rattle.plan.specs.Spans.{chunk_told, Spread}
use Rattle.plan.specs.SpanWalk.{Chunked}
use Rattle.plan_laws.proofs.PlanLaws.{chunk_done}
use Rattle.products.specs.Orders.{bad_plan, has_next, place_bad, chunk_left, bad_order, step_order, early_chunked, sweep_lengths, sweep_told}
use Rattle.products.specs.Operator.{Operands, Work, operator_lengths, operator_told}
use Rattle.product_laws.proofs.StepLaws.{one-room}
use Rattle.undivided.specs.Undivided.{SidePlanned, SweepFits, OperatorFits}
use Rattle.undivided.proofs.Demand3.{plan_passes, plan_lengths_lem}

-- ---- 6 and 11

-- lists that each have their length pass 11
same_good : (pairs : List ℕ) (k : ℕ) → length_of pairs k ≡ need_of pairs k → pair_bad true pairs k ≡ false
unfolding pair_bad misfits
same_good pairs k e = rw (le-ltb (length_of pairs k) (need_of pairs k) (omega arith), le-ltb (need_of pairs k) (length_of pairs k) (omega arith))

pub lengths_done : (pairs : List ℕ) → ((k : ℕ) → k < length pairs / 2 → length_of pairs k ≡ need_of pairs k) → wrong_length pairs ≡ done
unfolding pairs_told
lengths_done pairs h = rw (none_past (pair_bad true pairs) 0 (length pairs / 2) (λ k _ l. same_good pairs k (h k l)))

-- a call that looks at the map's room, then at lengths, then at something else
module _ (room pairs : List ℕ) (rest : Told) where
  abbrev tells : Told
  tells = or_else (no_room_of room) (or_else (wrong_length pairs) rest)

  -- it tells 11 of a place only where a length is not its need
  pub tells-length : (rest.number ≡ 11 → ⊥) → (place need : ℕ) → tells ≡ tell 11 (place ∷ need ∷ []) → length_of pairs place ≡ need_of pairs place → ⊥
  unfolding pairs_told on_pass
  tells-length other place need e same = go (ltb (bad_pair false room) (length room / 2)) (ltb (bad_pair true pairs) (length pairs / 2)) refl e
    where
      go : (a b : Bool) → ltb (bad_pair true pairs) (length pairs / 2) ≡ b
          → or_else (cond a (tell 6 (bad_pair false room ∷ need_of room (bad_pair false room) ∷ [])) done)
          (or_else (cond b (tell 11 (bad_pair true pairs ∷ need_of pairs (bad_pair true pairs) ∷ [])) done) rest) ≡ tell 11 (place ∷ need ∷ []) → ⊥
      go true b f q = let z : ◌≡◌ {A = ℕ} 6 11 = ap (λ (t : Told). t.number) q in omega arith
      go false true f q =
          let i : bad_pair true pairs ≡ place = ap (λ (t : Told). get_or t.values 0 0) q in
          let bad : pair_bad true pairs (bad_pair true pairs) ≡ true = first_bad (pair_bad true pairs) 0 (length pairs / 2) (ltb-true _ _ f) in
          let z : ◌≡◌ {A = ℕ} 0 1 = cc (rw i at bad, same_good pairs place same) in
          omega arith
      go false false f q = other (ap (λ (t : Told). t.number) q)

  -- and 13 only where that something else does
  pub tells-plan : (rest.number ≡ 13 → ⊥) → tells.number ≡ 13 → ⊥
  unfolding pairs_told on_pass
  tells-plan other e = go (ltb (bad_pair false room) (length room / 2)) (ltb (bad_pair true pairs) (length pairs / 2)) e
    where
      go : (a b : Bool)
          → (or_else (cond a (tell 6 (bad_pair false room ∷ need_of room (bad_pair false room) ∷ [])) done)
          (or_else (cond b (tell 11 (bad_pair true pairs ∷ need_of pairs (bad_pair true pairs) ∷ [])) done) rest)).number ≡ 13 → ⊥
      go true b q = omega arith
      go false true q = omega arith
      go false false q = other q

-- an order and a step's place tell 14 or nothing
pub order-tells : (chunks : ℕ) (s : Spread) (order : List ℕ) (n : ℕ) → 0 < n → n < 14 → (bad_order chunks s order).number ≡ n → ⊥
unfolding bad_order
order-tells chunks s order n l h e = go (some (place_bad chunks s order) 0 (length order)) (some (chunk_left s order) 0 chunks) e
  where
    go : (a b : Bool) → (cond a (tell 14 (first (place_bad chunks s order) 0 (length order) ∷ [])) (cond b (tell 14 (length order ∷ [])) done)).number ≡ n → ⊥
    go true b q = omega arith
    go false true q = omega arith
    go false false q = omega arith

pub place-tells : (chunks : ℕ) (s : Spread) (c : ℕ) (progress : List ℕ) (n : ℕ) → 0 < n → n < 14 → (step_order chunks s c progress).number ≡ n → ⊥
unfolding step_order
place-tells chunks s c progress n l h e = go (has_next chunks s c (get_or progress c 0)) e
  where
    go : (a : Bool) → (cond a done (tell 14 (0 ∷ []))).number ≡ n → ⊥
    go true q = omega arith
    go false q = omega arith

-- ---- columns, blocks and a chunk length that keep the rules

module _ (m : Columns) (kept elims : List ℕ) (len : ℕ) (k : Keeps m) (d : Parted (column_count m) kept elims) (h : Chunked m.nrows len) (map : List ℕ) where
  abbrev room_told : Told
  room_told = no_room_of (length map ∷ column_count m ∷ [])

  -- of 1 to 9 only 6 is left
  kept-rules : (rest : Told) → or_else (early_chunked m kept elims len map) (or_else (late_blocks m kept elims) rest) ≡ or_else room_told rest
  kept-rules rest =
      let early : early_chunked m kept elims len map ≡ room_told =
      parted_parts m kept elims k d (or_else (chunk_told len) room_told) ∙ ap (λ (t : Told). or_else t room_told) (chunk_done len h.some-len h.few-len) ∙ or_done room_told
      in
      ap (λ (t : Told). or_else t (or_else (late_blocks m kept elims) rest)) early ∙ ap (λ (t : Told). or_else room_told t) (ap (λ (t : Told). or_else t rest) (parted_late m kept elims d) ∙ or_done rest)

-- ---- a sweep or a step over a side's plan

module _ (m : Columns) (kept elims : List ℕ) (e : Bool) (len : ℕ) (s : Spread) (p : SidePlanned m kept elims e len s) (map : List ℕ) (v rows : List Float) (progress : List ℕ) where
  abbrev pairs : List ℕ
  pairs = sweep_lengths m (side_of e kept elims) len v s rows progress

  -- 6, 11, and what comes after the plan
  pub sweep_tells : (rest : Told) → sweep_told e m kept elims len map v s rows progress rest ≡ or_else (no_room_of (length map ∷ column_count m ∷ [])) (or_else (wrong_length pairs) rest)
  sweep_tells rest =
      kept-rules m kept elims len p.keeps p.parted p.chunked map (or_else (wrong_length pairs) (or_else (bad_plan e m (side_of e kept elims) len s) rest))
      ∙ ap (λ (t : Told). or_else (no_room_of (length map ∷ column_count m ∷ [])) (or_else (wrong_length pairs) t)) (ap (λ (t : Told). or_else t rest) (plan_passes m kept elims e len s p) ∙ or_done rest)

  -- the plan's four lists, places 1 to 4 of 11, have their lengths
  pub plan-places : (place : ℕ) → 1 ≤ place → place ≤ 4 → length_of pairs place ≡ need_of pairs place
  plan-places zero a b = absurd (omega arith)
  plan-places (suc zero) a b = (plan_lengths_lem m kept elims e len s p).starts
  plan-places (suc (suc zero)) a b = refl
  plan-places (suc (suc (suc zero))) a b = (plan_lengths_lem m kept elims e len s p).hi
  plan-places (suc (suc (suc (suc zero)))) a b = (plan_lengths_lem m kept elims e len s p).local
  plan-places (suc (suc (suc (suc (suc k))))) a b = absurd (omega arith)

  -- where all else fits, only what comes after can refuse
  pub sweep_fits : SweepFits m (side_of e kept elims) len map v rows progress → (rest : Told) → sweep_told e m kept elims len map v s rows progress rest ≡ rest
  sweep_fits f rest =
      sweep_tells rest
      ∙ ap (λ (t : Told). or_else t (or_else (wrong_length pairs) rest)) (one-room (length map) (column_count m) f.map-fits) ∙ or_done (or_else (wrong_length pairs) rest)
      ∙ ap (λ (t : Told). or_else t rest) (lengths_done pairs each) ∙ or_done rest
    where
      each : (k : ℕ) → k < 7 → length_of pairs k ≡ need_of pairs k
      each zero l = f.v-fits
      each (suc zero) l = plan-places 1 (omega arith) (omega arith)
      each (suc (suc zero)) l = refl
      each (suc (suc (suc zero))) l = plan-places 3 (omega arith) (omega arith)
      each (suc (suc (suc (suc zero)))) l = plan-places 4 (omega arith) (omega arith)
      each (suc (suc (suc (suc (suc zero))))) l = f.rows_fit
      each (suc (suc (suc (suc (suc (suc zero)))))) l = f.progress-fits
      each (suc (suc (suc (suc (suc (suc (suc k))))))) l = absurd (omega arith)

-- ---- the operator over both

module _ (m : Columns) (kept elims : List ℕ) (len : ℕ) (map : List ℕ) (o : Operands) (w : Work) (p : SidePlanned m kept elims false len o.kept) (q : SidePlanned m kept elims true len o.elims) where
  abbrev operand_pairs : List ℕ
  operand_pairs = operator_lengths m kept elims len o w

  pub operator-tells : operator_told m kept elims len map o w ≡ or_else (no_room_of (length map ∷ column_count m ∷ [])) (or_else (wrong_length operand_pairs) done)
  operator-tells =
      kept-rules m kept elims len p.keeps p.parted p.chunked map (or_else (wrong_length operand_pairs) (or_else (bad_plan false m kept len o.kept) (bad_plan true m elims len o.elims)))
      ∙ ap (λ (t : Told). or_else (no_room_of (length map ∷ column_count m ∷ [])) (or_else (wrong_length operand_pairs) t))
      (ap (λ (t : Told). or_else t (bad_plan true m elims len o.elims)) (plan_passes m kept elims false len o.kept p) ∙ or_done (bad_plan true m elims len o.elims) ∙ plan_passes m kept elims true len o.elims q)

  -- both plans' lists, places 3 to 10 of 11, have their lengths
  pub operator-places : (place : ℕ) → 3 ≤ place → place ≤ 10 → length_of operand_pairs place ≡ need_of operand_pairs place
  unfolding operator_lengths
  operator-places zero a b = absurd (omega arith)
  operator-places (suc zero) a b = absurd (omega arith)
  operator-places (suc (suc zero)) a b = absurd (omega arith)
  operator-places (suc (suc (suc zero))) a b = (plan_lengths_lem m kept elims false len o.kept p).starts
  operator-places (suc (suc (suc (suc zero)))) a b = refl
  operator-places (suc (suc (suc (suc (suc zero))))) a b = (plan_lengths_lem m kept elims false len o.kept p).hi
  operator-places (suc (suc (suc (suc (suc (suc zero)))))) a b = (plan_lengths_lem m kept elims false len o.kept p).local
  operator-places (suc (suc (suc (suc (suc (suc (suc zero))))))) a b = (plan_lengths_lem m kept elims true len o.elims q).starts
  operator-places (suc (suc (suc (suc (suc (suc (suc (suc zero)))))))) a b = refl
  operator-places (suc (suc (suc (suc (suc (suc (suc (suc (suc zero))))))))) a b = (plan_lengths_lem m kept elims true len o.elims q).hi
  operator-places (suc (suc (suc (suc (suc (suc (suc (suc (suc (suc zero)))))))))) a b = (plan_lengths_lem m kept elims true len o.elims q).local
  operator-places (suc (suc (suc (suc (suc (suc (suc (suc (suc (suc (suc k))))))))))) a b = absurd (omega arith)

  -- where all else fits it is done
  pub operator-fits : OperatorFits m kept elims map o w → operator_told m kept elims len map o w ≡ done
  unfolding operator_lengths
  operator-fits f =
      operator-tells
      ∙ ap (λ (t : Told). or_else t (or_else (wrong_length operand_pairs) done)) (one-room (length map) (column_count m) f.map-fits) ∙ or_done (or_else (wrong_length operand_pairs) done)
      ∙ ap (λ (t : Told). or_else t done) (lengths_done operand_pairs each) ∙ or_done done
    where
      each : (k : ℕ) → k < 15 → length_of operand_pairs k ≡ need_of operand_pairs k
      each zero l = f.v-fits
      each (suc zero) l = f.inverses-fit
      each (suc (suc zero)) l = f.d-fits
      each (suc (suc (suc zero))) l = operator-places 3 (omega arith) (omega arith)
      each (suc (suc (suc (suc zero)))) l = refl
      each (suc (suc (suc (suc (suc zero))))) l = operator-places 5 (omega arith) (omega arith)
      each (suc (suc (suc (suc (suc (suc zero)))))) l = operator-places 6 (omega arith) (omega arith)
      each (suc (suc (suc (suc (suc (suc (suc zero))))))) l = operator-places 7 (omega arith) (omega arith)
      each (suc (suc (suc (suc (suc (suc (suc (suc zero)))))))) l = refl
      each (suc (suc (suc (suc (suc (suc (suc (suc (suc zero))))))))) l = operator-places 9 (omega arith) (omega arith)
      each (suc (suc (suc (suc (suc (suc (suc (suc (suc (suc zero)))))))))) l = operator-places 10 (omega arith) (omega arith)
      each (suc (suc (suc (suc (suc (suc (suc (suc (suc (suc (suc zero))))))))))) l = f.rows_fit
      each (suc (suc (suc (suc (suc (suc (suc (suc (suc (suc (suc (suc zero)))))))))))) l = f.t-fits
      each (suc (suc (suc (suc (suc (suc (suc (suc (suc (suc (suc (suc (suc zero))))))))))))) l = f.u-fits
      each (suc (suc (suc (suc (suc (suc (suc (suc (suc (suc (suc (suc (suc (suc zero)))))))))))))) l = f.out-fits
      each (suc (suc (suc (suc (suc (suc (suc (suc (suc (suc (suc (suc (suc (suc (suc k))))))))))))))) l = absurd (omega arith)
