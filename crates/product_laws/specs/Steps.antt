-- To be believed. Public steps, one after the other along a work order, from any rows. StepLaws shows that an accepted sweep is its steps. Assumes
-- nothing.
use Rattle.std.specs.Prelude.{◌≡◌, Bool, List, ℕ, zero, suc, get_or, replicate, Float}
use Rattle.ground.specs.Gather.{gather}
use Rattle.columns.specs.Refusals.{done}
use Rattle.columns.specs.Columns.{Columns}
use Rattle.columns.specs.Sums.{swept_on}
use Rattle.plan.specs.Spans.{chunk_count_of, Spread}
use Rattle.products.specs.Orders.{sign_of, Swept, step_of}
use Rattle.products.specs.OrderWalk.{counts, place_terms}

module _ (e : Bool) (m : Columns) (kept elims : List ℕ) (len : ℕ) (maps : ℕ → List ℕ) (v : List Float)
    (s : Spread) (y : List Float) (order : List ℕ) where
  -- what the steps of an order's first i places leave, from rows y and progress 0. The step of place i is lent a map of its own, and the rows and the
  -- progress as the step before left them
  unfoldable pub steps_of : ℕ → Swept
  steps_of zero = record { told = done; map = maps 0; rows = y; progress = replicate (chunk_count_of m.nrows len) 0 }
  steps_of (suc i) = step_of e m kept elims len (maps i) v s (steps_of i).rows (steps_of i).progress (get_or order i 0)

  -- the i-th step was accepted, the rows hold y and the terms of the first i places, and each chunk's count is how often they name it
  pub record After (i : ℕ) : Type 0 where
    pub accepted : (steps_of i).told ≡ done
    pub rows_are : (steps_of i).rows ≡ swept_on (sign_of e) y (gather (place_terms m s v order) 0 i)
    pub progress-is : (steps_of i).progress ≡ counts (chunk_count_of m.nrows len) order i
