-- To be believed. The undivided sweep of a side, its gathers, and the block inverses times a vector. Assumes nothing.
use Rattle.std.specs.Prelude.{ℕ, ◌+◌, List, [], ◌∷◌, slice_index, slice_index_or, Float}
use Rattle.std.specs.Float.{nan}
use Rattle.ground.specs.Gather.{gather, list_of}
use Rattle.columns.specs.Columns.{Columns}
use Rattle.columns.specs.Sums.{zero₊, Term, term, sum_from, RowTerm}
use Rattle.columns.specs.JacobianOps.{gather_terms, sweep_terms}
use Rattle.blocks.specs.Sides.{block_count, dof_of, cols, offset_of, side_dof}
use Rattle.blocks.specs.Access.{squares_before, entry_place}

-- the column with local number l
abbrev pub column_at : List ℕ → ℕ → ℕ
column_at side l = slice_index (cols side) l

-- the terms of an undivided sweep of a side, column by column in block order; v is the vector in local order
unfoldable pub side_terms : Columns → List ℕ → List Float → List RowTerm
side_terms m side v = gather (λ l. sweep_terms m (slice_index_or v l nan) (column_at side l)) 0 (side_dof side)

-- gathers of a side's columns from rows y, each from a start; no zero is skipped
unfoldable pub side_gather : Float → Columns → List ℕ → List Float → List Float
side_gather start m side y = list_of (λ l. sum_from start (gather_terms m y (column_at side l))) (side_dof side)

-- row r of block b's inverse times the block's entries of t, from +0.0: one term for each of the block's columns
unfoldable pub inverse_term : List ℕ → List Float → List Float → ℕ → ℕ → ℕ → List Term
inverse_term elims inverses t b r c =
    term (slice_index_or inverses (squares_before elims b + entry_place elims b r c) nan) (slice_index_or t (offset_of elims b + c) nan) ∷ []

unfoldable pub inverse_entry : List ℕ → List Float → List Float → ℕ → ℕ → Float
inverse_entry elims inverses t b r = sum_from zero₊ (gather (inverse_term elims inverses t b r) 0 (dof_of elims b))

unfoldable pub inverse_block : List ℕ → List Float → List Float → ℕ → List Float
inverse_block elims inverses t b = list_of (inverse_entry elims inverses t b) (dof_of elims b)

-- all blocks, in local order
abbrev pub inverse_times : List ℕ → List Float → List Float → List Float
inverse_times elims inverses t = gather (inverse_block elims inverses t) 0 (block_count elims)
