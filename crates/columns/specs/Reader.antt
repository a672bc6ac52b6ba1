-- The code's own. One column's walk. Assumes nothing.
use Rattle.std.specs.Prelude.{Bool, true, ◌||◌, cond, List, ℕ, ◌+◌, ltb, leb, length, get_or, Option, Some, None}

-- what a reader of these rows comes to at a place: a row number, or past the last one nothing
abbrev pub step_at : List ℕ → ℕ → Option ℕ
step_at rows at = cond (ltb at (length rows)) (Some (get_or rows at 0)) None

-- a walk stops at a row that is too large or below the least that may stand there, and where there is none
unfoldable pub stops_at : ℕ → ℕ → Option ℕ → Bool
stops_at nrows least (Some row) = leb nrows row || ltb row least
stops_at nrows least None = true

-- the least row that may stand after this one; 0 after the end
unfoldable pub above_of : Option ℕ → ℕ
above_of (Some row) = row + 1
above_of None = 0
