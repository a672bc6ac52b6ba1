-- The code's own. The lists of a side's columns and of their blocks, as src/lists.rt writes them. Assumes nothing.
use Rattle.std.specs.Prelude.{◌≡◌, List, ◌++◌, ℕ, ◌+◌, ◌≤◌, ◌<◌, drop}
use Rattle.ground.specs.Gather.{gather, list_of}
use Rattle.blocks.specs.Sides.{block_count, first_of, dof_of, cols, side_dof, HasAt}
use Rattle.plan.specs.Plan.{column_blocks}

-- a number for each of block b's columns: v b c for column c; and for all of a side's
abbrev pub block_numbers : (ℕ → ℕ → ℕ) → List ℕ → ℕ → List ℕ
block_numbers v side b = list_of (λ i. v b (first_of side b + i)) (dof_of side b)

abbrev pub side_numbers : (ℕ → ℕ → ℕ) → List ℕ → List ℕ
side_numbers v side = gather (block_numbers v side) 0 (block_count side)

-- how many are listed, and what is left
pub record Counted : Type 0 where
  pub count : ℕ
  pub list : List ℕ

unfoldable pub numbers_listed : (ℕ → ℕ → ℕ) → List ℕ → List ℕ → Counted
numbers_listed v side l = record { count = side_dof side; list = side_numbers v side ++ drop (side_dof side) l }

unfoldable pub columns_listed : List ℕ → List ℕ → Counted
columns_listed side l = record { count = side_dof side; list = cols side ++ drop (side_dof side) l }

unfoldable pub blocks_listed : List ℕ → List ℕ → Counted
blocks_listed side l = record { count = side_dof side; list = column_blocks side ++ drop (side_dof side) l }

-- ---- what its functions ask

-- calls of a closure give v of a block and a column: post says what a call may give
abbrev pub Gives : (ℕ → ℕ → ℕ → Type 0) → (ℕ → ℕ → ℕ) → Type 0
Gives post v = (b c r : ℕ) → post b c r → r ≡ v b c

-- the side's columns are few, and there are n places for them
pub record ColumnsFit (side : List ℕ) (n : ℕ) : Type 0 where
  pub few : block_count side ≤ 65_536
  pub below : (b i c : ℕ) → HasAt side b i c → c < 65_536
  pub dofs : side_dof side ≤ 65_536
  pub room : side_dof side ≤ n
