-- The code's own. What the functions of src/operator.rt ask and leave. Assumes nothing.
use Rattle.std.specs.Prelude.{ℕ, ◌≤◌, true, false, List, length, slice_index_or, slice_set, Float}
use Rattle.std.specs.Float.{nan}
use Rattle.ground.specs.Range.{range}
use Rattle.columns.specs.Refusals.{Told, or_else}
use Rattle.columns.specs.Lengths.{wrong_length}
use Rattle.columns.specs.Columns.{Columns}
use Rattle.columns.specs.Sums.{term, add_term}
use Rattle.plan.specs.Spans.{chunk_count_of, Spread}
use Rattle.products.specs.Operator.{Sizes, operator_pairs}
use Rattle.products.specs.Orders.{spans_told}

-- 11, and 13 of either side, kept first
unfoldable pub operator_lent : ℕ → Columns → ℕ → ℕ → ℕ → ℕ → Sizes → Spread → Spread → Told
operator_lent nrows m len kept_dof elims_dof count z kept elims =
    or_else (wrong_length (operator_pairs nrows (chunk_count_of nrows len) kept_dof elims_dof count z kept elims))
    (or_else (spans_told false m kept_dof len (chunk_count_of nrows len) kept) (spans_told true m elims_dof len (chunk_count_of nrows len) elims))

-- d·v added to the first places of out, as many as d has
unfoldable pub damp_at : List Float → List Float → ℕ → List Float → List Float
damp_at d v l out = slice_set out l (add_term (slice_index_or out l nan) (term (slice_index_or d l nan) (slice_index_or v l nan)))

abbrev pub damped_on : List Float → List Float → List Float → List Float
damped_on d v out = range (damp_at d v) 0 (length d) out

-- v and out have an entry for each of d's
pub record DampFits (d v out : ℕ) : Type 0 where
  pub vector : d ≤ v
  pub room : d ≤ out
