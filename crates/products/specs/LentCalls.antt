-- The code's own. What the functions behind the calls of src/coupling.rt and src/update.rt ask and leave. Assumes nothing.
use Rattle.std.specs.Prelude.{ℕ, ◌+◌, ◌-◌, ◌<◌, cond, List, length, get_or, nat_lt, slice_index, slice_index_or, Float}
use Rattle.std.specs.Float.{nan}
use Rattle.columns.specs.Refusals.{on_pass}
use Rattle.columns.specs.Lengths.{wrong_length}
use Rattle.columns.specs.Columns.{Columns}
use Rattle.columns.specs.Sums.{zero₊}
use Rattle.blocks.specs.Claims.{marked, map_left, Mapped}
use Rattle.products.specs.SideSums.{side_gather}
use Rattle.products.specs.SideFits.{SideFits}
use Rattle.products.specs.Couplings.{lent_told, coupled_rows}

-- 11, in a call whose blocks have passed: the lengths as pairs, and a map that has n columns' places, which a refusal marks
unfoldable pub check_lengths : List ℕ → ℕ → List ℕ → Mapped
check_lengths pairs n map = record { told = wrong_length pairs; map = on_pass (wrong_length pairs) map (marked n map) }

-- 1 to 4, 6 to 9 and 11, and the map that they leave
abbrev pub lent : Columns → List ℕ → List ℕ → List ℕ → List ℕ → Mapped
lent m kept elims map pairs = record {
  told = lent_told m kept elims map pairs;
  map = map_left (lent_told m kept elims map pairs) m kept elims map;
}

-- a coupling product past its checks: the rows, and the result
pub record Pair : Type 0 where
  pub rows : List Float
  pub out : List Float

unfoldable pub coupled : Columns → List ℕ → List ℕ → List Float → Pair
coupled m from to v = record { rows = coupled_rows m from v; out = side_gather zero₊ m to (coupled_rows m from v) }

-- what it asks of both sides, with n entries of the vector and k places of the result
pub record CouplingFits (m : Columns) (from to : List ℕ) (n k : ℕ) : Type 0 where
  pub swept : SideFits m from n
  pub gathered : SideFits m to k

-- the update's entry at column c by the map: the kept update's where the map is below its length, else the eliminated one's
unfoldable pub update_by : List ℕ → List Float → List Float → ℕ → Float
update_by map xk xe c =
    cond (nat_lt (slice_index map c) (length xk)) (slice_index_or xk (slice_index map c) nan) (slice_index_or xe (slice_index map c - length xk) nan)

-- the map has a place for column c, and an update has the entry that it names
pub record UpdateFits (map : List ℕ) (xk xe c : ℕ) : Type 0 where
  pub there : c < length map
  pub entry : get_or map c 0 < xk + xe

-- so it is of each of n columns
pub record UpdatesFit (map : List ℕ) (xk xe n : ℕ) : Type 0 where
  pub each : (c : ℕ) → c < n → UpdateFits map xk xe c
