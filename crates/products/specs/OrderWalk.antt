-- The code's own. Steps and work orders as src/order.rt and src/spans_sweep.rt do them, and what their functions ask. Assumes nothing.
use Rattle.std.specs.Prelude.{◌≡◌, ℕ, ◌+◌, ◌<◌, ◌≤◌, Bool, true, List, [], length, replicate, nat_lt, slice_index}
use Rattle.std.specs.Prelude.{slice_index_or, slice_set, Float}
use Rattle.ground.specs.First.{first, None}
use Rattle.ground.specs.Gather.{gather, list_of}
use Rattle.columns.specs.declared.unchecked.Sign.{Sign}
use Rattle.columns.specs.Refusals.{Told}
use Rattle.columns.specs.Columns.{Columns, columns_of}
use Rattle.columns.specs.Sums.{RowTerm, swept_on}
use Rattle.columns.specs.Unchecked.{EntriesFit}
use Rattle.plan.specs.Spans.{Spread}
use Rattle.products.specs.Orders.{span_count, span_terms, served, has_next, place_bad, bad_order}

-- columns of which the entries alone count, and plans of which the spans alone, or the starts
abbrev pub entries_only : List ℕ → List Float → Columns
entries_only rows values = columns_of 0 [] rows values

abbrev pub spans_only : List ℕ → List ℕ → List ℕ → Spread
spans_only lo hi local = record { starts = []; lo = lo; hi = hi; local = local }

abbrev pub starts_only : List ℕ → Spread
starts_only starts = record { starts = starts; lo = []; hi = []; local = [] }

-- ---- an order's test

-- chunk c has a span left
unfoldable pub left_at : List ℕ → List ℕ → ℕ → Bool
left_at starts progress c = nat_lt (slice_index progress c) (span_count (starts_only starts) c)

-- the first bad place of an order over n chunks, and how often each chunk is named before it
pub record Counted : Type 0 where
  pub place : ℕ
  pub progress : List ℕ

abbrev pub counts : ℕ → List ℕ → ℕ → List ℕ
counts n order i = list_of (λ c. served order c i) n

unfoldable pub counted_to : ℕ → Spread → List ℕ → Counted
counted_to n s order = record {
  place = first (place_bad n s order) 0 (length order);
  progress = counts n order (first (place_bad n s order) 0 (length order));
}

-- what the test of an order tells, and what it leaves in the progress
pub record Tested : Type 0 where
  pub told : Told
  pub progress : List ℕ

unfoldable pub tested_order : ℕ → Spread → List ℕ → Tested
tested_order n s order = record { told = bad_order n s order; progress = replicate n 0 }

-- ---- the work

pub record Work : Type 0 where
  pub rows : List Float
  pub progress : List ℕ

abbrev pub work : List Float → List ℕ → Work
work rows progress = record { rows = rows; progress = progress }

-- a step: the named chunk's span at its progress, and one more there
unfoldable pub stepped : Sign → Columns → Spread → List Float → ℕ → Work → Work
stepped sign m s v c w = record {
  rows = swept_on sign w.rows (span_terms m s v (slice_index s.starts c + slice_index w.progress c));
  progress = slice_set w.progress c (slice_index w.progress c + 1);
}

-- the terms of an order's place i
unfoldable pub place_terms : Columns → Spread → List Float → List ℕ → ℕ → List RowTerm
place_terms m s v order i = span_terms m s v (slice_index s.starts (slice_index order i) + served order (slice_index order i) i)

-- the first i places of an order, from progress 0
unfoldable pub ran_to : Sign → Columns → Spread → List Float → List ℕ → Work → ℕ → Work
ran_to sign m s v order w i = record {
  rows = swept_on sign w.rows (gather (place_terms m s v order) 0 i);
  progress = counts (length w.progress) order i;
}

abbrev pub ran_order : Sign → Columns → Spread → List Float → List ℕ → Work → Work
ran_order sign m s v order w = ran_to sign m s v order w (length order)

-- ---- what its functions ask

-- a span from a to b with local number l: this is below that of nv entries, and the span's own entries' rows are below n
pub record SpanThere (rows : List ℕ) (nvalues nv n a b l : ℕ) : Type 0 where
  pub below : l < nv
  pub entries : EntriesFit rows nvalues n a b

-- span k is there, its local number is below that of nv entries, and its own entries' rows are below n
pub record SpanFits (rows : List ℕ) (nvalues nv n : ℕ) (lo hi local : List ℕ) (k : ℕ) : Type 0 where
  pub lo-there : k < length lo
  pub hi-there : k < length hi
  pub local-there : k < length local
  pub below : slice_index_or local k 0 < nv
  pub entries : EntriesFit rows nvalues n (slice_index lo k) (slice_index hi k)

-- so is each span
pub record SpansFit (rows : List ℕ) (nvalues nv n : ℕ) (lo hi local : List ℕ) : Type 0 where
  pub each : (k : ℕ) → k < length lo → SpanFits rows nvalues nv n lo hi local k

-- there is a start for each of n chunks, and one more
pub record StartsFit (nstarts n : ℕ) : Type 0 where
  pub started : nstarts ≡ n + 1

-- and c is one of them
pub record LeftFits (nstarts n c : ℕ) : Type 0 where
  pub starts : StartsFit nstarts n
  pub there : c < n

-- and the progress is 0
pub record CountFits (nstarts : ℕ) (progress : List ℕ) : Type 0 where
  pub starts : StartsFit nstarts (length progress)
  pub zeros : progress ≡ replicate (length progress) 0

-- a plan of n chunks whose spans are so, and no chunk's end is past them
pub record PlanFits (rows : List ℕ) (nvalues nv ny : ℕ) (s : Spread) (n : ℕ) : Type 0 where
  pub starts : StartsFit (length s.starts) n
  pub spans : SpansFit rows nvalues nv ny s.lo s.hi s.local
  pub inside : (c : ℕ) → c < n → slice_index s.starts (c + 1) ≤ length s.lo

-- and chunk c has a span left
pub record StepFits (rows : List ℕ) (nvalues nv ny : ℕ) (s : Spread) (progress : List ℕ) (c : ℕ) : Type 0 where
  pub plan : PlanFits rows nvalues nv ny s (length progress)
  pub next : has_next (length progress) s c (slice_index progress c) ≡ true

-- and no place of an order is bad, where the progress is 0
pub record RunFits (rows : List ℕ) (nvalues nv ny : ℕ) (s : Spread) (progress order : List ℕ) : Type 0 where
  pub plan : PlanFits rows nvalues nv ny s (length progress)
  pub zeros : progress ≡ replicate (length progress) 0
  pub good : None (place_bad (length progress) s order) 0 (length order)
