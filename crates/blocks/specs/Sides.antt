-- To be believed. A side's blocks, in the caller's order, and its columns in local order. Assumes nothing.
use Rattle.std.specs.Prelude.{◌≡◌, Bool, cond, List, ℕ, zero, suc, ◌+◌, ◌/◌, ◌<◌, length, get_or}
use Rattle.ground.specs.Gather.{gather, list_of}

-- a side is a flat list of pairs: first column, dof. Whole pairs are counted
abbrev pub block_count : List ℕ → ℕ
block_count side = length side / 2

abbrev pub first_of : List ℕ → ℕ → ℕ
first_of side b = get_or side (b + b) 0

abbrev pub dof_of : List ℕ → ℕ → ℕ
dof_of side b = get_or side (b + b + 1) 0

-- block b's columns, ascending
unfoldable pub block_columns : List ℕ → ℕ → List ℕ
block_columns side b = list_of (λ i. first_of side b + i) (dof_of side b)

-- the side's columns: the place of a column in this list is its local number
abbrev pub cols : List ℕ → List ℕ
cols side = gather (block_columns side) 0 (block_count side)

-- the dofs of the blocks before b: the local number of its first column
unfoldable pub offset_of : List ℕ → ℕ → ℕ
offset_of side zero = 0
offset_of side (suc b) = offset_of side b + dof_of side b

-- the side's dof
abbrev pub side_dof : List ℕ → ℕ
side_dof side = offset_of side (block_count side)

-- block b of the side has column c, at offset i
pub record HasAt (side : List ℕ) (b i c : ℕ) : Type 0 where
  pub block : b < block_count side
  pub offset : i < dof_of side b
  pub is : c ≡ first_of side b + i

-- the kept side, or the eliminated one
abbrev pub side_of : Bool → List ℕ → List ℕ → List ℕ
side_of eliminated kept elims = cond eliminated elims kept
