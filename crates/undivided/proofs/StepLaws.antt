-- With the plan of a side, an accepted sweep leaves the rows of the undivided sweep, and so do steps in the order of an accepted list, from any rows.
-- What the steps leave is shown in StepLaws of product_laws. Assumes nothing.
use mathlib.Core.Path.{◌≡◌, ap, ◌∙◌}
use mathlib.Core.Bool.{Bool}
use mathlib.Core.List.{List}
use Prim.Native.Nat.{ℕ, ◌≤◌, ◌<◌}
use native.Mathlib.Nat.{le_refl}
use native.Mathlib.Omega.{arith}
use lib.ListN.{length}
use lib.Ieee.{Float}
use Rattle.columns.specs.Refusals.{Told, done, Passes, or_else}
use Rattle.columns.specs.Lengths.{wrong_length}
use Rattle.columns.specs.Columns.{Columns, column_count}
use Rattle.columns.specs.Sums.{swept_on}
use Rattle.columns.proofs.RefusalLaws.{pass_done, both_pass}
use Rattle.columns.proofs.CallLaws.{lengths_right}
use Rattle.blocks.specs.Sides.{side_of}
use Rattle.plan.specs.Spans.{chunk_count_of, Spread}
use Rattle.products.specs.Orders.{bad_plan, bad_order, order_terms, sign_of, early_chunked, sweep_lengths, start_rows, sweep_told₁₄, sweep_of}
use Rattle.products.specs.OrderWalk.{place_terms}
use Rattle.products.specs.SideSums.{side_terms}
use Rattle.product_laws.specs.Steps.{steps_of}
use Rattle.product_laws.proofs.StepLaws.{start_length, steps_accepted}
use Rattle.undivided.specs.Undivided.{SidePlanned}
use Rattle.undivided.proofs.Demand3.{rows_of_order}
use Rattle.blocks.specs.Claims.{late_blocks}

module _ (e : Bool) (m : Columns) (kept elims : List ℕ) (len : ℕ) (map : List ℕ) (v : List Float) (s : Spread) (rows : List Float) (progress order : List ℕ) (ok : sweep_told₁₄ e m kept elims len map v s rows progress order ≡ done) where
  abbrev lengths : Told
  lengths = wrong_length (sweep_lengths m (side_of e kept elims) len v s rows progress)

  abbrev lent : Told
  lent = bad_plan e m (side_of e kept elims) len s

  abbrev order_told : Told
  order_told = bad_order (chunk_count_of m.nrows len) s order

  -- the rows are as many as they should be, and the order is accepted
  passes : Passes lengths × Passes order_told
  passes =
      let a = both_pass (early_chunked m kept elims len map) _ (ap (λ (t : Told). t.number) ok) in
      let b = both_pass (late_blocks m kept elims) _ a.1 in
      let c = both_pass lengths (or_else lent order_told) b.1 in
      (c.0, (both_pass lent order_told c.1).1)

  pub order_passes : Passes order_told
  order_passes = passes.1

  rows_right : length rows ≡ m.nrows
  rows_right = lengths_right (sweep_lengths m (side_of e kept elims) len v s rows progress) passes.0 5 (omega arith)

  -- the rows of the undivided sweep, added for the kept side and subtracted for the eliminated one
  module _ (p : SidePlanned m kept elims e len s) where
    pub sweep_undivided : (sweep_of e m kept elims len map v s rows progress order).rows ≡ swept_on (sign_of e) (start_rows e rows) (side_terms m (side_of e kept elims) v)
    unfolding sweep_of
    sweep_undivided =
        pass_done (sweep_told₁₄ e m kept elims len map v s rows progress order) _ rows (ap (λ (t : Told). t.number) ok)
        ∙ rows_of_order m kept elims e len s p (sign_of e) (start_rows e rows) (start_length e rows ∙ rows_right) v order passes.1

    -- steps never clear: theirs are those of the undivided sweep over the rows as lent, on either side
    pub steps_undivided : (maps : ℕ → List ℕ) → ((i : ℕ) → i < length order → column_count m ≤ length (maps i))
        → (steps_of e m kept elims len maps v s rows order (length order)).rows ≡ swept_on (sign_of e) rows (side_terms m (side_of e kept elims) v)
    unfolding order_terms place_terms
    steps_undivided maps roomy =
        (steps_accepted e m kept elims len map v s rows progress order ok maps roomy (length order) (le_refl (length order))).rows_are
        ∙ rows_of_order m kept elims e len s p (sign_of e) rows rows_right v order passes.1
