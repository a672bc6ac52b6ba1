-- The code's own. What the functions that check nothing ask: what a passed check gives (proofs/CheckLaws.antt). Assumes nothing.
use Rattle.std.specs.Prelude.{◌≡◌, cond, List, ℕ, ◌+◌, ◌≤◌, ◌<◌, ltb, length, get_or, Float}
use Rattle.std.specs.Float.{nan, binary64}
use Rattle.std.specs.Float.Ieee.{add, mul}
use Rattle.columns.specs.declared.unchecked.Merge.{Merge}
use Rattle.columns.specs.Columns.{Columns, column_count, first_in, end_in, Keeps}

-- n pointers have one for column j and one after it
pub record ColumnThere (n j : ℕ) : Type 0 where
  pub there : j + 1 < n

-- places from up to to are among n
pub record RunThere (n from to : ℕ) : Type 0 where
  pub order : from ≤ to
  pub inside : to ≤ n

-- so is each of n columns, and its places are among the values
pub record RunsThere (ptrs : List ℕ) (nvalues n : ℕ) : Type 0 where
  pub column : (j : ℕ) → j < n → ColumnThere (length ptrs) j
  pub run : (j : ℕ) → j < n → RunThere nvalues (first_in ptrs j) (end_in ptrs j)

-- place p is there, with a value, and its row is below n
pub record EntryFits (rows : List ℕ) (nvalues n p : ℕ) : Type 0 where
  pub there : p < length rows
  pub paired : nvalues ≡ length rows
  pub below : get_or rows p 0 < n

-- so is each from lo up to hi
pub record EntriesFit (rows : List ℕ) (nvalues n lo hi : ℕ) : Type 0 where
  pub each : (p : ℕ) → lo ≤ p → p < hi → EntryFits rows nvalues n p

-- the columns keep the rules, and column j exists
pub record HasColumn (m : Columns) (j : ℕ) : Type 0 where
  pub keeps : Keeps m
  pub there : j < column_count m

-- so do columns a and b
pub record HasColumns (m : Columns) (a b : ℕ) : Type 0 where
  pub left : HasColumn m a
  pub right : HasColumn m b

-- both entries of a merge are there, with values
pub record MergeFits (n nvalues : ℕ) (at : Merge) : Type 0 where
  pub left : at.ia < n
  pub right : at.ib < n
  pub paired : nvalues ≡ n

-- a merge's step: past the entry with the lower row, or past both with their product added
unfoldable pub merge_step : List ℕ → List Float → Merge → Merge
merge_step rows values at =
    cond (ltb (get_or rows at.ia 0) (get_or rows at.ib 0)) (record { ia = at.ia + 1; ib = at.ib; acc = at.acc })
    (cond (ltb (get_or rows at.ib 0) (get_or rows at.ia 0)) (record { ia = at.ia; ib = at.ib + 1; acc = at.acc })
    (record {
      ia = at.ia + 1;
      ib = at.ib + 1;
      acc = add binary64 at.acc (mul binary64 (get_or values at.ia nan) (get_or values at.ib nan));
    }))

-- the columns keep the rules, and there is a place for each column's sum
pub record Gathers (m : Columns) (n : ℕ) : Type 0 where
  pub keeps : Keeps m
  pub places : n ≡ column_count m
