-- To be believed. The values of the eliminated blocks, block after block and each by columns: gathered from the columns, and damped. Assumes nothing.
use Rattle.std.specs.Prelude.{◌≡◌, List, [], ◌∷◌, ℕ, ◌+◌, ◌*◌, ◌≤◌, ◌<◌, length, get_or, set, Float}
use Rattle.std.specs.Float.{nan, binary64}
use Rattle.std.specs.Float.Ieee.{add}
use Rattle.ground.specs.Range.{range}
use Rattle.ground.specs.Gather.{gather}
use Rattle.columns.specs.Refusals.{Told, done, on_pass, or_else}
use Rattle.columns.specs.Lengths.{wrong_length}
use Rattle.columns.specs.Columns.{Columns, column_count, Keeps}
use Rattle.columns.specs.JacobianOps.{dot_of}
use Rattle.blocks.specs.declared.damping.Damping.{Damping}
use Rattle.blocks.specs.Sides.{block_count, first_of, dof_of}
use Rattle.blocks.specs.Claims.{blocks_told, map_left, Mapped}
use Rattle.blocks.specs.Damping.{damping_told, term_of}
use Rattle.blocks.specs.Access.{squares_before}

-- how many values all blocks have
abbrev pub value_count : List ℕ → ℕ
value_count elims = squares_before elims (block_count elims)

-- ---- gathered

-- row r, column c of a block that begins at column `first`: the dot of its columns r and c
unfoldable pub dot_entry : Columns → ℕ → ℕ → ℕ → List Float
dot_entry m first c r = dot_of m (first + r) (first + c) ∷ []

-- a column's rows, ascending
unfoldable pub dot_column : Columns → ℕ → ℕ → ℕ → List Float
dot_column m first dof c = gather (dot_entry m first c) 0 dof

-- a block's columns, ascending
unfoldable pub dot_block : Columns → List ℕ → ℕ → List Float
dot_block m elims b = gather (dot_column m (first_of elims b) (dof_of elims b)) 0 (dof_of elims b)

abbrev pub dot_blocks : Columns → List ℕ → List Float
dot_blocks m elims = gather (dot_block m elims) 0 (block_count elims)

-- values that are written one after the other: the next place, and what is written
pub record Writing : Type 0 where
  pub at : ℕ
  pub out : List Float

abbrev pub writing : ℕ → List Float → Writing
writing at out = record { at = at; out = out }

unfoldable pub put : Writing → Float → Writing
put s x = record { at = s.at + 1; out = set s.out s.at x }

-- ---- damped

-- the value at place p with its term
unfoldable pub damp_place : Damping → ℕ → List Float → List Float
damp_place d p y = set y p (add binary64 (get_or y p nan) (term_of d (get_or y p nan)))

-- the diagonal value of column k, in a block whose values begin at `at`
unfoldable pub damp_column : Damping → ℕ → ℕ → ℕ → List Float → List Float
damp_column d dof at k y = damp_place d (at + (k * dof + k)) y

unfoldable pub damp_block : Damping → List ℕ → ℕ → List Float → List Float
damp_block d elims b y = range (damp_column d (dof_of elims b) (squares_before elims b)) 0 (dof_of elims b) y

abbrev pub damp_blocks : Damping → List ℕ → List Float → List Float
damp_blocks d elims y = range (damp_block d elims) 0 (block_count elims) y

-- ---- calls

-- 1 to 9, then 11, where n values are lent, and then what else the call checks
unfoldable pub values_told : Columns → List ℕ → List ℕ → List ℕ → ℕ → Told → Told
values_told m kept elims map n more = or_else (blocks_told m kept elims map) (or_else (wrong_length (n ∷ value_count elims ∷ [])) more)

-- what such a call tells, and what it leaves in the map
unfoldable pub check_values : Columns → List ℕ → List ℕ → List ℕ → ℕ → Told → Mapped
check_values m kept elims map n more = record {
  told = values_told m kept elims map n more;
  map = map_left (values_told m kept elims map n more) m kept elims map;
}

-- and in the block values, which a refused call does not change
pub record ValuesLeft : Type 0 where
  pub told : Told
  pub map : List ℕ
  pub values : List Float

abbrev pub values_left : Mapped → List Float → List Float → ValuesLeft
values_left o new old = record { told = o.told; map = o.map; values = on_pass o.told new old }

unfoldable pub gather_from_jacobian : Columns → List ℕ → List ℕ → List ℕ → List Float → ValuesLeft
gather_from_jacobian m kept elims map y = values_left (check_values m kept elims map (length y) done) (dot_blocks m elims) y

-- 12 comes after 11
unfoldable pub damp_values : Columns → List ℕ → List ℕ → List ℕ → Damping → List Float → ValuesLeft
damp_values m kept elims map d y = values_left (check_values m kept elims map (length y) (damping_told d)) (damp_blocks d elims y) y

-- ---- what the functions that check nothing ask: what a passed check gives

-- columns keep the rules, dof of them from `first` on are there, and n places hold a column of the block from `at` on
pub record ColumnFits (m : Columns) (first dof c at n : ℕ) : Type 0 where
  pub keeps : Keeps m
  pub inside : first + dof ≤ column_count m
  pub column : c < dof
  pub room : at + dof ≤ n

-- and the whole block
pub record BlockFits (m : Columns) (first dof at n : ℕ) : Type 0 where
  pub keeps : Keeps m
  pub inside : first + dof ≤ column_count m
  pub room : at + dof * dof ≤ n

-- n places hold a block of dof columns from `at` on
pub record ValuesFit (dof at n : ℕ) : Type 0 where
  pub room : at + dof * dof ≤ n

-- a side's blocks are within the limits
pub record Limited (elims : List ℕ) : Type 0 where
  pub few : block_count elims ≤ 65_536
  pub small : (b : ℕ) → b < block_count elims → dof_of elims b ≤ 65_536

-- columns keep the rules, each block's columns are there, and n places hold all blocks
pub record BlocksFit (m : Columns) (elims : List ℕ) (n : ℕ) : Type 0 where
  pub keeps : Keeps m
  pub inside : (b : ℕ) → b < block_count elims → first_of elims b + dof_of elims b ≤ column_count m
  pub room : n ≡ value_count elims
