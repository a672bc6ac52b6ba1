-- To be believed. Columns, their places, and refusals 1 to 3. Assumes nothing.
use Rattle.std.specs.Prelude.{◌≡◌, Bool, not, ◌&&◌, ◌||◌, cond, List, [], ◌∷◌, ℕ, ◌+◌, ◌-◌, ◌≤◌, ◌<◌, ltb}
use Rattle.std.specs.Prelude.{leb, eqb, Float, length, get_or}
use Rattle.ground.specs.First.{first, some}
use Rattle.columns.specs.Refusals.{Told, tell, done}

-- columns as they are lent: the row count, the pointers, the row numbers and the values
pub record Columns : Type 0 where
  pub nrows : ℕ
  pub ptrs : List ℕ
  pub rows : List ℕ
  pub values : List Float

abbrev pub columns_of : ℕ → List ℕ → List ℕ → List Float → Columns
columns_of nrows ptrs rows values = record { nrows = nrows; ptrs = ptrs; rows = rows; values = values }

-- one fewer than the pointers; 0 where there are none
abbrev pub column_count : Columns → ℕ
column_count m = length m.ptrs - 1

-- the entries as lent; a column's used entries go by its first and end places below
abbrev pub entry_count : Columns → ℕ
entry_count m = length m.rows

-- where column j's entries begin, and one past its last
unfoldable pub first_in : List ℕ → ℕ → ℕ
first_in ptrs j = get_or ptrs j 0

unfoldable pub end_in : List ℕ → ℕ → ℕ
end_in ptrs j = get_or ptrs (j + 1) 0

abbrev pub first_place : Columns → ℕ → ℕ
first_place m j = first_in m.ptrs j

abbrev pub end_place : Columns → ℕ → ℕ
end_place m j = end_in m.ptrs j

-- 1: more than 1,048,576 rows, 65,536 columns or 16,777,216 entries
unfoldable pub too_big : ℕ → ℕ → ℕ → Bool
too_big nrows ncolumns entries = ltb 1_048_576 nrows || (ltb 65_536 ncolumns || ltb 16_777_216 entries)

-- the pointer after j is below that at j
unfoldable pub falls : List ℕ → ℕ → Bool
falls ptrs j = ltb (get_or ptrs (j + 1) 0) (get_or ptrs j 0)

-- 2: there are no pointers, they do not start at 0, one falls, they do not end at the entry count, or values and rows differ in count
unfoldable pub bad_shape : List ℕ → ℕ → ℕ → Bool
bad_shape ptrs entries nvalues =
    eqb (length ptrs) 0
    || (not (eqb (get_or ptrs 0 0) 0)
    || (some (falls ptrs) 0 (length ptrs - 1)
    || (not (eqb (get_or ptrs (length ptrs - 1) 0) entries) || not (eqb nvalues entries))))

-- the row at place p is not above the one before it
unfoldable pub row_falls : List ℕ → ℕ → Bool
row_falls rows p = leb (get_or rows p 0) (get_or rows (p - 1) 0)

-- the entry at place p, in a column that begins at `from`, has a row too large, or not above the one before it in its column
unfoldable pub row_bad : ℕ → List ℕ → ℕ → ℕ → Bool
row_bad nrows rows from p = leb nrows (get_or rows p 0) || (ltb from p && row_falls rows p)

-- the first such place of a column, or its end
abbrev pub bad_place : Columns → ℕ → ℕ
bad_place m j = first (row_bad m.nrows m.rows (first_place m j)) (first_place m j) (end_place m j)

unfoldable pub column_bad : Columns → ℕ → Bool
column_bad m j = some (row_bad m.nrows m.rows (first_place m j)) (first_place m j) (end_place m j)

-- the first column that has one, or the column count
abbrev pub bad_column : Columns → ℕ
bad_column m = first (column_bad m) 0 (column_count m)

-- 3: that column and that place
unfoldable pub bad_row : Columns → Told
bad_row m = cond (ltb (bad_column m) (column_count m)) (tell 3 (bad_column m ∷ bad_place m (bad_column m) ∷ [])) done

-- 1 to 3, in order
unfoldable pub checked : Columns → Told
checked m =
    cond (too_big m.nrows (column_count m) (entry_count m)) (tell 1 [])
    (cond (bad_shape m.ptrs (entry_count m) (length m.values)) (tell 2 [])
    (bad_row m))

-- ---- the rules that the check holds columns to

-- within the limits
pub record Small (m : Columns) : Type 0 where
  pub few-rows : m.nrows ≤ 1_048_576
  pub few-columns : column_count m ≤ 65_536
  pub few-entries : entry_count m ≤ 16_777_216

-- pointers start at 0, never fall, end at the entry count; as many values as rows
pub record Shaped (m : Columns) : Type 0 where
  pub pointed : length m.ptrs ≡ column_count m + 1
  pub starts : get_or m.ptrs 0 0 ≡ 0
  pub rises : (j : ℕ) → j < column_count m → get_or m.ptrs j 0 ≤ get_or m.ptrs (j + 1) 0
  pub ends : get_or m.ptrs (column_count m) 0 ≡ entry_count m
  pub paired : length m.values ≡ entry_count m

-- place p is one of column j's
pub record EntryOf (m : Columns) (j p : ℕ) : Type 0 where
  pub column : j < column_count m
  pub low : first_place m j ≤ p
  pub high : p < end_place m j

-- rows in a column are strictly ascending and below the row count
pub record Sorted (m : Columns) : Type 0 where
  pub below : (j p : ℕ) → EntryOf m j p → get_or m.rows p 0 < m.nrows
  pub ascends : (j p : ℕ) → EntryOf m j p → first_place m j < p → get_or m.rows (p - 1) 0 < get_or m.rows p 0

pub record Keeps (m : Columns) : Type 0 where
  pub small : Small m
  pub shaped : Shaped m
  pub sorted : Sorted m
