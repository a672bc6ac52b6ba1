-- Demand 3, second half: with the plan of a side, every accepted work order hands each row the same terms in the same order as the undivided sweep
-- of that side, column by column in block order, and so makes the same rows; whichever the order and whichever the chunk length. Assumes nothing.
use mathlib.Core.Path.{◌≡◌, sym, ◌∙◌}
use mathlib.Core.Bool.{Bool}
use mathlib.Core.List.{List}
use Prim.Native.Nat.{ℕ, ◌/◌, ◌<◌}
use lib.ListN.{length, get_or}
use lib.Ieee.{Float}
use Rattle.columns.specs.declared.unchecked.Sign.{Sign}
use Rattle.columns.specs.Refusals.{done, Passes}
use Rattle.columns.specs.Columns.{Columns}
use Rattle.columns.specs.Sums.{swept_on}
use Rattle.blocks.specs.Sides.{cols, side_dof, side_of}
use Rattle.plan.specs.Owners.{Connects}
use Rattle.plan.specs.Spans.{chunk_count_of, side_spans, Spread}
use Rattle.plan.specs.SpanWalk.{ColumnRises}
use Rattle.plan.specs.Plan.{Buffers, plan_left}
use Rattle.plan.proofs.SpanCalls.{side-rises}
use Rattle.plan_laws.proofs.PlanLaws.{Sound, unconnected_left}
use Rattle.products.specs.Orders.{plan_terms, bad_order, bad_plan, order_terms}
use Rattle.products.specs.SideSums.{side_terms}
use Rattle.undivided.specs.Undivided.{own_terms, chunk_terms, SidePlanned, cut, lists_of, Lengths}
use Rattle.undivided.proofs.TermLaws.{rows_same}
use Rattle.undivided.proofs.PlanTerms.{chunk_terms_lem, plan-terms}
use Rattle.undivided.proofs.OrderTerms.{order-terms}
use Rattle.undivided.proofs.PlanPasses.{plan-planned, planned_passes, planned_lengths}

-- where no row connects two eliminated blocks, what planning leaves of either side is its plan
pub left-planned : (m : Columns) (kept elims : List ℕ) (len : ℕ) (b : Buffers) → Sound m kept elims len b → (Connects m elims → ⊥) → (e : Bool)
    → SidePlanned m kept elims e len (cut (chunk_count_of m.nrows len) (length (side_spans m (side_of e kept elims) len)) (lists_of e (plan_left m kept elims len b)))
left-planned m kept elims len b s ne e = record {
  keeps = s.keeps;
  parted = s.parted;
  chunked = record { some-len = s.some-len; few-len = s.few-len; few-rows = s.keeps.small.few-rows };
  planned = rw (unconnected_left m kept elims len b s ne) (plan-planned m kept elims len b e);
}

module _ (m : Columns) (kept elims : List ℕ) (e : Bool) where
  abbrev side : List ℕ
  side = side_of e kept elims

  -- one plan
  module _ (len : ℕ) (s : Spread) (p : SidePlanned m kept elims e len s) where
    abbrev chunks : ℕ
    chunks = chunk_count_of m.nrows len

    rises : (l : ℕ) → l < side_dof side → ColumnRises m.ptrs m.rows m.nrows (get_or (cols side) l 0)
    rises = side-rises m kept elims p.keeps p.parted e

    -- it passes 13, and has the lengths that 11 asks
    pub plan_passes : bad_plan e m side len s ≡ done
    plan_passes = planned_passes m side len p.chunked rises s p.planned e

    pub plan_lengths_lem : Lengths chunks s
    plan_lengths_lem = planned_lengths m side len s p.planned

    -- row r's terms, in the spans of its chunk alone, in all spans, and along an accepted order, are those of the undivided sweep
    module _ (v : List Float) (r : ℕ) (h : r < m.nrows) where
      pub terms_in_chunk : own_terms r (chunk_terms m s v (r / len)) ≡ own_terms r (side_terms m side v)
      terms_in_chunk = chunk_terms_lem m side len p.chunked rises s p.planned v r h

      pub terms_in_plan : own_terms r (plan_terms m s v) ≡ own_terms r (side_terms m side v)
      terms_in_plan = plan-terms m side len p.chunked rises s p.planned v r h

      pub terms_in_order : (order : List ℕ) → Passes (bad_order chunks s order) → own_terms r (order_terms m s v order) ≡ own_terms r (side_terms m side v)
      terms_in_order order ok = order-terms m side len p.chunked rises s p.planned v r order ok h

    -- so are the rows, added to or subtracted from, whatever they held
    module _ (sign : Sign) (y : List Float) (n : length y ≡ m.nrows) (v : List Float) where
      pub rows_of_plan : swept_on sign y (plan_terms m s v) ≡ swept_on sign y (side_terms m side v)
      rows_of_plan = rows_same sign y (plan_terms m s v) (side_terms m side v) (λ r h. terms_in_plan v r (rw n at h))

      pub rows_of_order : (order : List ℕ) → Passes (bad_order chunks s order) → swept_on sign y (order_terms m s v order) ≡ swept_on sign y (side_terms m side v)
      rows_of_order order ok = rows_same sign y (order_terms m s v order) (side_terms m side v) (λ r h. terms_in_order v r (rw n at h) order ok)

      -- any two accepted orders make the same rows
      pub rows_any_order : (o w : List ℕ) → Passes (bad_order chunks s o) → Passes (bad_order chunks s w) → swept_on sign y (order_terms m s v o) ≡ swept_on sign y (order_terms m s v w)
      rows_any_order o w a b = rows_of_order o a ∙ sym (rows_of_order w b)

  -- so do the plans of two chunk lengths, in the spans' own order and along any accepted order of each
  module _ (len len' : ℕ) (s s' : Spread) (p : SidePlanned m kept elims e len s) (q : SidePlanned m kept elims e len' s') (sign : Sign) (y : List Float) (n : length y ≡ m.nrows) (v : List Float) where
    pub rows_any_length : swept_on sign y (plan_terms m s v) ≡ swept_on sign y (plan_terms m s' v)
    rows_any_length = rows_of_plan len s p sign y n v ∙ sym (rows_of_plan len' s' q sign y n v)

    pub orders_any_length : (o w : List ℕ) → Passes (bad_order (chunk_count_of m.nrows len) s o) → Passes (bad_order (chunk_count_of m.nrows len') s' w)
        → swept_on sign y (order_terms m s v o) ≡ swept_on sign y (order_terms m s' v w)
    orders_any_length o w a b = rows_of_order len s p sign y n v o a ∙ sym (rows_of_order len' s' q sign y n v w b)
