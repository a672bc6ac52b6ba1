-- The code's own. What the functions of src/side_sums.rt ask, and what their loops over one block come to. Assumes nothing.
use Rattle.std.specs.Prelude.{◌≡◌, ℕ, ◌+◌, ◌-◌, ◌*◌, ◌<◌, ◌≤◌, List, [], ◌∷◌, slice_index_or, slice_set, Float}
use Rattle.std.specs.Float.{nan}
use Rattle.ground.specs.Range.{range}
use Rattle.ground.specs.Gather.{gather}
use Rattle.columns.specs.Columns.{Columns, column_count, Keeps}
use Rattle.columns.specs.Sums.{zero₊, Term, term, sum_from, RowTerm}
use Rattle.columns.specs.JacobianOps.{gather_terms, sweep_terms}
use Rattle.blocks.specs.Sides.{block_count, first_of, dof_of, side_dof}
use Rattle.blocks.specs.BlockValues.{value_count}
use Rattle.products.specs.SideSums.{column_at}

-- ---- a side's columns

-- the terms of the column with local number l, and its gather
abbrev pub local_terms : Columns → List ℕ → List Float → ℕ → List RowTerm
local_terms m side v l = sweep_terms m (slice_index_or v l nan) (column_at side l)

abbrev pub local_sum : Float → Columns → List ℕ → List Float → ℕ → Float
local_sum start m side y l = sum_from start (gather_terms m y (column_at side l))

-- the same of the column of place l, in a block of which the columns begin at `first` and the places at `at`
abbrev pub placed_terms : Columns → ℕ → ℕ → List Float → ℕ → List RowTerm
placed_terms m first at v l = sweep_terms m (slice_index_or v l nan) (first + (l - at))

abbrev pub placed_sum : Float → Columns → ℕ → ℕ → List Float → ℕ → Float
placed_sum start m first at y l = sum_from start (gather_terms m y (first + (l - at)))

-- places lo up to hi of a vector, each with its own value
abbrev pub written : (ℕ → Float) → ℕ → ℕ → List Float → List Float
written g lo hi out = range (λ l z. slice_set z l (g l)) lo hi out

-- the columns keep the rules, each block's are there, and n entries are one for each of them
pub record SideFits (m : Columns) (side : List ℕ) (n : ℕ) : Type 0 where
  pub keeps : Keeps m
  pub inside : (b : ℕ) → b < block_count side → first_of side b + dof_of side b ≤ column_count m
  pub room : n ≡ side_dof side

-- the columns keep the rules, and a block's columns and its entries' places are there: the columns begin at `first`, the places at `at`
pub record PlacesFit (m : Columns) (first dof at n : ℕ) : Type 0 where
  pub keeps : Keeps m
  pub columns : first + dof ≤ column_count m
  pub places : at + dof ≤ n

-- a side's dofs are few
pub record DofsFit (side : List ℕ) : Type 0 where
  pub few : side_dof side ≤ 65_536

-- ---- the block inverses

-- of a block with that dof, whose inverse begins at place `from` and whose entries begin at place `at`: the term of a row with column c
unfoldable pub block_term : List Float → List Float → ℕ → ℕ → ℕ → ℕ → ℕ → List Term
block_term inverses t dof from at row c = term (slice_index_or inverses (from + (c * dof + row)) nan) (slice_index_or t (at + c) nan) ∷ []

-- the row's sum, from +0.0
unfoldable pub block_row : List Float → List Float → ℕ → ℕ → ℕ → ℕ → List Float
block_row inverses t dof from at row = sum_from zero₊ (gather (block_term inverses t dof from at row) 0 dof) ∷ []

-- the block's inverse and its entries are there
pub record InverseFits (inverses t dof from at : ℕ) : Type 0 where
  pub square : from + dof * dof ≤ inverses
  pub entries : at + dof ≤ t

-- so it is, and so is the row
pub record RowFits (inverses t dof from at row : ℕ) : Type 0 where
  pub fit : InverseFits inverses t dof from at
  pub there : row < dof

-- and the column
pub record TermFits (inverses t dof from at row c : ℕ) : Type 0 where
  pub fit : RowFits inverses t dof from at row
  pub column : c < dof

-- so it is, and out has places for the block
pub record RowsFit (inverses t dof from at out : ℕ) : Type 0 where
  pub fit : InverseFits inverses t dof from at
  pub room : at + dof ≤ out

-- as many inverse values, entries and places as the blocks have
pub record InversesFit (elims : List ℕ) (inverses t out : ℕ) : Type 0 where
  pub values : inverses ≡ value_count elims
  pub entries : t ≡ side_dof elims
  pub room : out ≡ side_dof elims
