-- Any two outcomes that the promise of `step` permits agree, and so for `sweep`. `Post` is the contract's own reading, at the arguments a, the
-- answer and the parameters at exit. Assumes nothing.
use mathlib.Core.Path.{◌≡◌, ap}
use mathlib.Core.List.{List}
use Prim.Native.Nat.{ℕ}
use lib.Ieee.{Float}
use contract.Lifetimes.{Lfts}
use Rattle.ground.specs.Determined.{Determined}
use Rattle.ground.proofs.DeterminedLaws.{by_equation}
use Rattle.columns.specs.Refusals.{Answer, told}
use Rattle.columns.proofs.RefusalLaws.{answer_of, answer_back}
use Rattle.products.specs.Orders.{Swept}
use Rattle.product_laws.proofs.CallParts.{step_map_left, step_rows_left, step_progress_left, sweep_map_left, sweep_rows_left, sweep_progress_left}
use Rattle.products.proofs.order.step.Reads as one
use Rattle.products.proofs.order.sweep.Reads as all

-- the answer, the map, the rows and the progress
abbrev Outcome : Type 0
Outcome = Answer × (List ℕ × (List Float × List ℕ))

swept_determined : (w : Swept) → Determined (λ (o : Outcome). record { told = told o.0; map = o.1.0; rows = o.1.1.0; progress = o.1.1.1 } ≡ w)
swept_determined =
    by_equation (λ (o : Outcome). record { told = told o.0; map = o.1.0; rows = o.1.1.0; progress = o.1.1.1 })
    (λ (w : Swept). (answer_of w.told, (w.map, (w.rows, w.progress))))
    (λ o. ap (λ (a : Answer). (a, o.1)) (answer_back o.0))

pub step : (κs : Lfts 7) (a : _) (s t : _) (p q : Answer) → one.Post κs a p s → one.Post κs a q t → ◌≡◌ {A = Outcome} (p, (step_map_left κs s, (step_rows_left κs s, step_progress_left κs s))) (q, (step_map_left κs t, (step_rows_left κs t, step_progress_left κs t)))
step κs a s t p q = swept_determined _ (p, (step_map_left κs s, (step_rows_left κs s, step_progress_left κs s))) (q, (step_map_left κs t, (step_rows_left κs t, step_progress_left κs t)))

pub sweep : (κs : Lfts 8) (a : _) (s t : _) (p q : Answer) → all.Post κs a p s → all.Post κs a q t → ◌≡◌ {A = Outcome} (p, (sweep_map_left κs s, (sweep_rows_left κs s, sweep_progress_left κs s))) (q, (sweep_map_left κs t, (sweep_rows_left κs t, sweep_progress_left κs t)))
sweep κs a s t p q = swept_determined _ (p, (sweep_map_left κs s, (sweep_rows_left κs s, sweep_progress_left κs s))) (q, (sweep_map_left κs t, (sweep_rows_left κs t, sweep_progress_left κs t)))
