-- To be believed. What the laws of this crate speak of: a row's own terms and their sum, a chunk's terms, and lists that are a side's plan. Assumes
-- nothing.
use Rattle.std.specs.Prelude.{◌≡◌, Bool, cond, List, map, ℕ, ◌+◌, ◌≤◌, ◌<◌, length, get_or, take, Float}
use Rattle.ground.specs.Fold.{folded}
use Rattle.ground.specs.Gather.{gather}
use Rattle.ground.specs.Buckets.{bucket}
use Rattle.columns.specs.declared.unchecked.Sign.{Sign}
use Rattle.columns.specs.Columns.{Columns, column_count, Keeps}
use Rattle.columns.specs.Sums.{RowTerm, product, joined, swept_on}
use Rattle.blocks.specs.Sides.{side_dof, side_of}
use Rattle.blocks.specs.Claims.{Parted}
use Rattle.blocks.specs.BlockValues.{value_count}
use Rattle.plan.specs.Lists.{starts_of}
use Rattle.plan.specs.Spans.{chunk_count_of, chunk_spans, side_spans, Spread}
use Rattle.plan.specs.SpanWalk.{Chunked}
use Rattle.plan.specs.Plan.{Buffers}
use Rattle.products.specs.Orders.{span_terms, served, span_count, sign_of}
use Rattle.products.specs.SideSums.{side_terms}
use Rattle.products.specs.Operator.{Operands, Work, damp_length}

-- ---- one row

-- those of some terms that go to row r, in their order
abbrev pub row_of : RowTerm → ℕ
row_of t = t.row

abbrev pub own_terms : ℕ → List RowTerm → List RowTerm
own_terms r ts = bucket row_of r ts

-- a row's value with one of its terms: the product rounded, and then joined
unfoldable pub join_term : Sign → Float → RowTerm → Float
join_term sign a t = joined sign a (product t.term)

-- and with some, in order
abbrev pub join_all : Sign → Float → List RowTerm → Float
join_all sign a ts = folded (join_term sign) a ts

-- ---- a side's plan

-- the terms of chunk c's spans, in their order
abbrev pub chunk_terms : Columns → Spread → List Float → ℕ → List RowTerm
chunk_terms m s v c = gather (span_terms m s v) (get_or s.starts c 0) (get_or s.starts (c + 1) 0)

-- the four lists are the side's chunk starts, and the lo, hi and local of its spans: nothing less, and nothing more
pub record PlanLists (m : Columns) (side : List ℕ) (len : ℕ) (s : Spread) : Type 0 where
  pub starts_are : s.starts ≡ starts_of (chunk_spans m side len) (chunk_count_of m.nrows len)
  pub lo_are : s.lo ≡ map (λ x. x.lo) (side_spans m side len)
  pub hi_are : s.hi ≡ map (λ x. x.hi) (side_spans m side len)
  pub local_are : s.local ≡ map (λ x. x.local) (side_spans m side len)

-- columns and blocks keep the rules, the chunk length and the rows are within the limits, and the four lists are the plan of the kept side, or of
-- the eliminated one
pub record SidePlanned (m : Columns) (kept elims : List ℕ) (e : Bool) (len : ℕ) (s : Spread) : Type 0 where
  pub keeps : Keeps m
  pub parted : Parted (column_count m) kept elims
  pub chunked : Chunked m.nrows len
  pub planned : PlanLists m (side_of e kept elims) len s

-- four lists cut to their used parts, for n chunks and k spans
abbrev pub cut : ℕ → ℕ → Spread → Spread
cut n k s = record { starts = take (n + 1) s.starts; lo = take k s.lo; hi = take k s.hi; local = take k s.local }

-- the kept side's, or the eliminated one's, of all that a plan leaves
abbrev pub lists_of : Bool → Buffers → Spread
lists_of e b = cond e b.elims b.kept

-- the lengths that 11 asks of them: one more start than chunks; hi and local as long as lo
pub record Lengths (chunks : ℕ) (s : Spread) : Type 0 where
  pub starts : length s.starts ≡ chunks + 1
  pub hi : length s.hi ≡ length s.lo
  pub local : length s.local ≡ length s.lo

-- ---- a work order

-- it serves each chunk as often as it has spans, and names no other
pub record Serves (chunks : ℕ) (s : Spread) (order : List ℕ) : Type 0 where
  pub each : (c : ℕ) → c < chunks → served order c (length order) ≡ span_count s c
  pub only : (i : ℕ) → i < length order → get_or order i 0 < chunks

-- ---- calls over a plan

-- what a call over one side's plan is lent of it: columns, both sides, chunk length, and the side's four lists
pub record OverPlan : Type 0 where
  pub columns : Columns
  pub kept : List ℕ
  pub elims : List ℕ
  pub len : ℕ
  pub lists : Spread

abbrev pub PlannedOver : Bool → OverPlan → Type 0
PlannedOver e l = SidePlanned l.columns l.kept l.elims e l.len l.lists

-- that side's blocks, how many chunks there are, and the terms of its undivided sweep with v
abbrev pub over_side : Bool → OverPlan → List ℕ
over_side e l = side_of e l.kept l.elims

abbrev pub over_chunks : OverPlan → ℕ
over_chunks l = chunk_count_of l.columns.nrows l.len

abbrev pub over_terms : Bool → OverPlan → List Float → List RowTerm
over_terms e l v = side_terms l.columns (over_side e l) v

-- an order serves each chunk as often as it has spans
abbrev pub ServesOver : OverPlan → List ℕ → Type 0
ServesOver l order = Serves (over_chunks l) l.lists order

-- terms ts were added to rows y, or on the eliminated side subtracted, and left these rows: each row got the same terms in the same order as by one
-- undivided sweep of the side over y, column by column in block order, and so the rows are that sweep's
pub record Undivided (e : Bool) (l : OverPlan) (v y : List Float) (ts : List RowTerm) (rows : List Float) : Type 0 where
  pub added : rows ≡ swept_on (sign_of e) y ts
  pub terms : (r : ℕ) → r < l.columns.nrows → own_terms r ts ≡ own_terms r (over_terms e l v)
  pub same_rows : rows ≡ swept_on (sign_of e) y (over_terms e l v)

-- v and the rows have the lengths that 11 asks
pub record VectorsFit (e : Bool) (l : OverPlan) (v y : List Float) : Type 0 where
  pub v-fits : length v ≡ side_dof (over_side e l)
  pub rows_fit : length y ≡ l.columns.nrows

-- all else that a sweep is lent has its length: the map has room, and v, rows and progress are as long as 11 asks
pub record SweepFits (m : Columns) (side : List ℕ) (len : ℕ) (map : List ℕ) (v rows : List Float) (progress : List ℕ) : Type 0 where
  pub map-fits : column_count m ≤ length map
  pub v-fits : length v ≡ side_dof side
  pub rows_fit : length rows ≡ m.nrows
  pub progress-fits : length progress ≡ chunk_count_of m.nrows len

-- and so of the operator: d is empty or as long as v
pub record OperatorFits (m : Columns) (kept elims map : List ℕ) (o : Operands) (w : Work) : Type 0 where
  pub map-fits : column_count m ≤ length map
  pub v-fits : length o.v ≡ side_dof kept
  pub inverses-fit : length o.inverses ≡ value_count elims
  pub d-fits : damp_length (length o.d) (side_dof kept) ≡ side_dof kept
  pub rows_fit : length w.rows ≡ m.nrows
  pub t-fits : length w.t ≡ side_dof elims
  pub u-fits : length w.u ≡ side_dof elims
  pub out-fits : length w.out ≡ side_dof kept
