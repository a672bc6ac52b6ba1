-- What the promise of `sweep` itself says of steps: where it answers done, the rows and the progress that it leaves are those after the last of the
-- order's steps, from the rows that it starts from, all of which are accepted, whatever maps with room they are lent. `Post` is the contract's own
-- reading. Assumes nothing.
use mathlib.Core.Path.{◌≡◌, sym, ap, ◌∙◌}
use mathlib.Core.List.{List}
use Prim.Native.Nat.{ℕ, ◌≤◌, ◌<◌}
use contract.Lifetimes.{Lfts}
use lib.ListN.{length}
use lib.Ieee.{Float}
use Rattle.std.specs.Prelude.{Ok}
use Rattle.columns.specs.Refusals.{done}
use Rattle.columns.specs.Columns.{column_count}
use Rattle.products.specs.Orders.{Swept, start_rows, sweep_of}
use Rattle.product_laws.specs.Steps.{steps_of, After}
use Rattle.product_laws.proofs.CallParts.{sweep_side, sweep_columns, sweep_kept, sweep_elims, sweep_len, sweep_lists, sweep_map, sweep_vector, sweep_rows, sweep_progress, sweep_order, sweep_rows_left, sweep_progress_left}
use Rattle.product_laws.proofs.StepLaws.{sweep_after, last_rows_lem, last_progress}
use Rattle.products.proofs.order.sweep.Reads as all

module _ (κs : Lfts 8) (a : _) (t : _) (post : all.Post κs a (Ok tt) t) (maps : ℕ → List ℕ) (roomy : (i : ℕ) → i < length (sweep_order κs a) → column_count (sweep_columns κs a) ≤ length (maps i)) where
  -- the rows that the sweep starts from
  abbrev from : List Float
  from = start_rows (sweep_side κs a) (sweep_rows κs a)

  abbrev steps : ℕ → Swept
  steps = steps_of (sweep_side κs a) (sweep_columns κs a) (sweep_kept κs a) (sweep_elims κs a) (sweep_len κs a) maps (sweep_vector κs a) (sweep_lists κs a) from (sweep_order κs a)

  accepted : (sweep_of (sweep_side κs a) (sweep_columns κs a) (sweep_kept κs a) (sweep_elims κs a) (sweep_len κs a) (sweep_map κs a) (sweep_vector κs a) (sweep_lists κs a) (sweep_rows κs a) (sweep_progress κs a) (sweep_order κs a)).told ≡ done
  accepted = sym (ap (λ (w : Swept). w.told) post)

  pub sweep_accepted : (i : ℕ) → i ≤ length (sweep_order κs a)
      → After (sweep_side κs a) (sweep_columns κs a) (sweep_kept κs a) (sweep_elims κs a) (sweep_len κs a) maps (sweep_vector κs a) (sweep_lists κs a) from (sweep_order κs a) i
  sweep_accepted =
      sweep_after (sweep_side κs a) (sweep_columns κs a) (sweep_kept κs a) (sweep_elims κs a) (sweep_len κs a) (sweep_map κs a) (sweep_vector κs a) (sweep_lists κs a) (sweep_rows κs a) (sweep_progress κs a) (sweep_order κs a) accepted maps roomy

  pub sweep_last_rows : sweep_rows_left κs t ≡ (steps (length (sweep_order κs a))).rows
  sweep_last_rows =
      ap (λ (w : Swept). w.rows) post
      ∙ sym (last_rows_lem (sweep_side κs a) (sweep_columns κs a) (sweep_kept κs a) (sweep_elims κs a) (sweep_len κs a) (sweep_map κs a) (sweep_vector κs a) (sweep_lists κs a) (sweep_rows κs a) (sweep_progress κs a) (sweep_order κs a) accepted maps roomy)

  pub sweep_last_progress : sweep_progress_left κs t ≡ (steps (length (sweep_order κs a))).progress
  sweep_last_progress =
      ap (λ (w : Swept). w.progress) post
      ∙ sym (last_progress (sweep_side κs a) (sweep_columns κs a) (sweep_kept κs a) (sweep_elims κs a) (sweep_len κs a) (sweep_map κs a) (sweep_vector κs a) (sweep_lists κs a) (sweep_rows κs a) (sweep_progress κs a) (sweep_order κs a) accepted maps roomy)
