-- The code's own. Refusal 13 as src/plan_check.rt finds it, and what its functions ask. Assumes nothing.
use Rattle.std.specs.Prelude.{◌≡◌, ℕ, ◌+◌, ◌-◌, ◌*◌, ◌<◌, ◌≤◌, Bool, true, cond, ◌&&◌, ◌||◌, List, [], length, nat_le}
use Rattle.std.specs.Prelude.{nat_lt, slice_index}
use Rattle.std.specs.Prelude.{Option, MatchOption}
use Rattle.ground.specs.First.{some, None}
use Rattle.columns.specs.Columns.{Columns, columns_of, first_in, end_in}
use Rattle.columns.specs.Unchecked.{RunThere}
use Rattle.plan.specs.Spans.{Spread}

-- columns of which the rows alone count
abbrev pub rows_only : List ℕ → Columns
rows_only rows = columns_of 0 [] rows []

-- the row at place p is below `from`, or `end` or more
unfoldable pub row_out : List ℕ → ℕ → ℕ → ℕ → Bool
row_out rows from end p = nat_lt (slice_index rows p) from || nat_le end (slice_index rows p)

-- so is the first or the last of places a up to b
unfoldable pub ends_out : List ℕ → ℕ → ℕ → ℕ → ℕ → Bool
ends_out rows from end a b = row_out rows from end a || row_out rows from end (b - 1)

-- places a up to b lie in column j
unfoldable pub in_column : List ℕ → ℕ → ℕ → ℕ → Bool
in_column ptrs j a b = nat_lt j (length ptrs - 1) && (nat_le (first_in ptrs j) a && nat_le b (end_in ptrs j))

-- a span from a to b with local number l is bad, in a chunk of rows `from` up to `end`; span k of a list is
unfoldable pub span_out : List ℕ → ℕ → ℕ → ℕ → ℕ → ℕ → ℕ → Bool
span_out rows from end dof a b l = nat_lt b a || (nat_lt (length rows) b || (nat_le dof l || some (row_out rows from end) a b))

unfoldable pub span_out_at : List ℕ → ℕ → ℕ → ℕ → List ℕ → List ℕ → List ℕ → ℕ → Bool
span_out_at rows from end dof lo hi local k = span_out rows from end dof (slice_index lo k) (slice_index hi k) (slice_index local k)

-- the part of it that the rows do not tell: it runs back, past n entries, or its local number is none below dof
unfoldable pub shape_out : ℕ → ℕ → ℕ → ℕ → ℕ → Bool
shape_out n dof a b l = nat_lt b a || (nat_lt n b || nat_le dof l)

unfoldable pub shape_out_at : ℕ → ℕ → List ℕ → List ℕ → List ℕ → ℕ → Bool
shape_out_at n dof lo hi local k = shape_out n dof (slice_index lo k) (slice_index hi k) (slice_index local k)

-- n, or the largest list number
unfoldable pub narrowed : ℕ → ℕ
narrowed n = cond (nat_lt 4_294_967_295 n) 4_294_967_295 n

-- the part that they tell: a row of span k is out
unfoldable pub rows_out_at : List ℕ → ℕ → ℕ → List ℕ → List ℕ → ℕ → Bool
rows_out_at rows from end lo hi k = some (row_out rows from end) (slice_index lo k) (slice_index hi k)

-- a span of chunk c has one
unfoldable pub chunk_rows_out : List ℕ → ℕ → Spread → ℕ → Bool
chunk_rows_out rows len s c =
    some (rows_out_at rows (c * len) (c * len + len) s.lo s.hi) (slice_index s.starts c) (slice_index s.starts (c + 1))

-- one is, or there are none, or more than six
unfoldable pub rows_stop : List ℕ → ℕ → ℕ → ℕ → ℕ → Bool
rows_stop rows from end a b = nat_le b a || (nat_lt 6 (b - a) || some (row_out rows from end) a b)

unfoldable pub rows_stop_at : List ℕ → ℕ → ℕ → List ℕ → List ℕ → ℕ → Bool
rows_stop_at rows from end lo hi k = rows_stop rows from end (slice_index lo k) (slice_index hi k)

-- the first of places `at` up to n where a test holds, or that there is none
abbrev pub Found : (ℕ → Bool) → ℕ → ℕ → Option ℕ → Type 0
Found bad at n r = MatchOption r (None bad at n) (λ k. (at ≤ k) × (k < n) × (bad k ≡ true) × None bad at k)

-- ---- what its functions ask

-- rows rise along each column, as those do of columns that have passed their check
pub record Risen (ptrs rows : List ℕ) : Type 0 where
  pub rise : (j p q : ℕ) → j < length ptrs - 1 → first_in ptrs j ≤ p → p < q → q < end_in ptrs j → slice_index rows p < slice_index rows q

-- places a up to b are there, and there is one
pub record SomeThere (n a b : ℕ) : Type 0 where
  pub some : a < b
  pub there : b ≤ n

-- places a up to b are a first and `more`, two to five
pub record FewThere (more a b : ℕ) : Type 0 where
  pub count : more + 1 ≡ b - a
  pub several : 1 < more
  pub few : more ≤ 5

-- n starts are one for each chunk, and one more
pub record StartsThere (n chunks : ℕ) : Type 0 where
  pub there : n ≡ chunks + 1

-- spans before `last` are there
pub record SpansThere (nlo nhi nlocal last : ℕ) : Type 0 where
  pub lo : last ≤ nlo
  pub hi : last ≤ nhi
  pub local : last ≤ nlocal

-- so are those from `first` on, and their entries among n
pub record EntriesThere (n : ℕ) (lo hi : List ℕ) (first last : ℕ) : Type 0 where
  pub lo-there : last ≤ length lo
  pub hi-there : last ≤ length hi
  pub each : (k : ℕ) → first ≤ k → k < last → RunThere n (slice_index lo k) (slice_index hi k)

-- so are those of chunk c, and its end is a list number
pub record ChunkThere (len : ℕ) (starts : List ℕ) (nlo nhi nlocal c : ℕ) : Type 0 where
  pub there : c + 1 < length starts
  pub small : c * len + len ≤ 4_294_967_295
  pub spans : SpansThere nlo nhi nlocal (slice_index starts (c + 1))

-- so are those of each chunk
pub record ChunksThere (len chunks : ℕ) (starts : List ℕ) (nlo nhi nlocal : ℕ) : Type 0 where
  pub each : (c : ℕ) → c < chunks → ChunkThere len starts nlo nhi nlocal c

-- a plan's lists have their lengths, and its chunks end at a list number
pub record PlanThere (len chunks nstarts nlo nhi nlocal : ℕ) : Type 0 where
  pub starts : nstarts ≡ chunks + 1
  pub hi : nhi ≡ nlo
  pub local : nlocal ≡ nlo
  pub small : chunks * len ≤ 4_294_967_295
