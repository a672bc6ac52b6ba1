-- The code's own. The quick test of all columns' rows at once, which finds no place: where it passes, no row is bad (proofs/RiseLaws.antt). Assumes
-- nothing.
use Rattle.std.specs.Prelude.{Bool, true, false, not, ◌&&◌, List, ℕ, zero, suc, ◌+◌, ◌-◌, ◌≤◌, ltb, leb, eqb, length, get_or}
use Rattle.ground.specs.First.{some}
use Rattle.columns.specs.Columns.{first_in, end_in, row_falls}
use Rattle.columns.specs.Unchecked.{RunsThere}

-- 1 where a test holds, 0 where not
unfoldable pub bit_of : Bool → ℕ
bit_of true = 1
bit_of false = 0

module _ (t : ℕ → Bool) where
  unfoldable pub count_n : ℕ → ℕ → ℕ
  count_n lo zero = 0
  count_n lo (suc n) = bit_of (t lo) + count_n (suc lo) n

  -- at how many k with lo ≤ k < hi a test holds
  unfoldable pub count : ℕ → ℕ → ℕ
  count lo hi = count_n lo (hi - lo)

-- the row at place p is above the one before it
unfoldable pub row_rises : List ℕ → ℕ → Bool
row_rises rows p = ltb (get_or rows (p - 1) 0) (get_or rows p 0)

-- the run of places from .. to has one, and the row at its first is not above the one before it (at place 0 none is before it)
unfoldable pub begins_low : List ℕ → ℕ → ℕ → Bool
begins_low rows from to = ltb from to && row_falls rows from

-- the run has a place, and the row at its last is too large
unfoldable pub ends_high : ℕ → List ℕ → ℕ → ℕ → Bool
ends_high nrows rows from to = ltb from to && leb nrows (get_or rows (to - 1) 0)

-- so of column j
unfoldable pub column_low : List ℕ → List ℕ → ℕ → Bool
column_low ptrs rows j = begins_low rows (first_in ptrs j) (end_in ptrs j)

unfoldable pub column_high : ℕ → List ℕ → List ℕ → ℕ → Bool
column_high nrows ptrs rows j = ends_high nrows rows (first_in ptrs j) (end_in ptrs j)

-- no column's last row is too large, and each row is above the one before it but for as many as begin a column and are not
unfoldable pub all_rise : ℕ → List ℕ → List ℕ → Bool
all_rise nrows ptrs rows =
    not (some (column_high nrows ptrs rows) 0 (length ptrs - 1))
    && eqb (count (row_rises rows) 1 (length rows) + count (column_low ptrs rows) 0 (length ptrs - 1)) (length rows)

-- the columns' places are among the rows, and both are few
pub record RisesFit (ptrs rows : List ℕ) : Type 0 where
  pub runs : RunsThere ptrs (length rows) (length ptrs - 1)
  pub few-columns : length ptrs - 1 ≤ 65_536
  pub few-entries : length rows ≤ 16_777_216
