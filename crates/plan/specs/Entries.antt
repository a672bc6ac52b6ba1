-- The code's own. How many entries some columns have. Assumes nothing.
use Rattle.std.specs.Prelude.{List, ℕ, zero, suc, ◌+◌, ◌-◌, get_or}
use Rattle.columns.specs.Columns.{first_in, end_in}

-- the first n of the columns cs
unfoldable pub entries_in : List ℕ → List ℕ → ℕ → ℕ
entries_in ptrs cs zero = 0
entries_in ptrs cs (suc n) = entries_in ptrs cs n + (end_in ptrs (get_or cs n 0) - first_in ptrs (get_or cs n 0))
