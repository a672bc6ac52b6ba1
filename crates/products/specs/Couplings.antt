-- To be believed. The calls that need no plan: `apply_eliminated_inverse`, `coupling_times`, `coupling_transpose_times` and `combine_updates`.
-- Assumes nothing.
use Rattle.std.specs.Prelude.{ℕ, ◌-◌, Bool, cond, not, List, [], ◌∷◌, length, replicate, nat_lt, slice_index_or, Float}
use Rattle.std.specs.Float.{nan}
use Rattle.ground.specs.Gather.{list_of}
use Rattle.columns.specs.declared.unchecked.Sign.TheVariants.{Plus}
use Rattle.columns.specs.Refusals.{Told, on_pass, or_else}
use Rattle.columns.specs.Lengths.{wrong_length}
use Rattle.columns.specs.Columns.{Columns, column_count}
use Rattle.columns.specs.Sums.{zero₊, swept_on}
use Rattle.blocks.specs.Sides.{side_dof, side_of}
use Rattle.blocks.specs.Claims.{claims, place_of, blocks_told, map_left}
use Rattle.blocks.specs.BlockValues.{value_count}
use Rattle.products.specs.SideSums.{side_terms, side_gather, inverse_times}

-- 1 to 4 and 6 to 9, then 11: the lengths of what is lent, as pairs, in order
unfoldable pub lent_told : Columns → List ℕ → List ℕ → List ℕ → List ℕ → Told
lent_told m kept elims map pairs = or_else (blocks_told m kept elims map) (wrong_length pairs)

-- what a call tells, and what it leaves in the map and in its result; a refused call does not change the result
pub record Made : Type 0 where
  pub told : Told
  pub map : List ℕ
  pub out : List Float

abbrev pub made : Columns → List ℕ → List ℕ → List ℕ → List ℕ → List Float → List Float → Made
made m kept elims map pairs new old =
    let t = lent_told m kept elims map pairs in
    record { told = t; map = map_left t m kept elims map; out = on_pass t new old }

-- ---- the block inverses times b

abbrev pub inverse_lengths : List ℕ → List Float → List Float → List Float → List ℕ
inverse_lengths elims b inverses out = length b ∷ side_dof elims ∷ length inverses ∷ value_count elims ∷ length out ∷ side_dof elims ∷ []

unfoldable pub apply_eliminated_inverse : Columns → List ℕ → List ℕ → List ℕ → List Float → List Float → List Float → Made
apply_eliminated_inverse m kept elims map b inverses out = made m kept elims map (inverse_lengths elims b inverses out) (inverse_times elims inverses b) out

-- ---- the coupling products: a sweep of one side, adding, from rows at +0.0, and gathers of the other, from +0.0

abbrev pub coupling_lengths : Columns → List ℕ → List ℕ → List Float → List Float → List Float → List ℕ
coupling_lengths m from to v rows out = length v ∷ side_dof from ∷ length rows ∷ m.nrows ∷ length out ∷ side_dof to ∷ []

abbrev pub coupled_rows : Columns → List ℕ → List Float → List Float
coupled_rows m from v = swept_on Plus (replicate m.nrows zero₊) (side_terms m from v)

-- with the rows, which end as the sweep leaves them
pub record Coupled : Type 0 where
  pub told : Told
  pub map : List ℕ
  pub rows : List Float
  pub out : List Float

abbrev pub coupled_told : Bool → Columns → List ℕ → List ℕ → List ℕ → List Float → List Float → List Float → Told
coupled_told e m kept elims map v rows out = lent_told m kept elims map (coupling_lengths m (side_of e kept elims) (side_of (not e) kept elims) v rows out)

-- from the eliminated side to the kept one where e holds, else from the kept side to the eliminated one
unfoldable pub coupling : Bool → Columns → List ℕ → List ℕ → List ℕ → List Float → List Float → List Float → Coupled
coupling e m kept elims map v rows out =
    let t = coupled_told e m kept elims map v rows out in
    let y = coupled_rows m (side_of e kept elims) v in
    record {
      told = t;
      map = map_left t m kept elims map;
      rows = on_pass t y rows;
      out = on_pass t (side_gather zero₊ m (side_of (not e) kept elims) y) out;
    }

-- ---- the update: kept and eliminated entries back at their columns

-- column c's place among the kept columns and then the eliminated ones says which entry is its own
unfoldable pub update_at : ℕ → List ℕ → List ℕ → List Float → List Float → ℕ → Float
update_at n kept elims xk xe c =
    cond (nat_lt (place_of (claims n kept elims) c) (side_dof kept)) (slice_index_or xk (place_of (claims n kept elims) c) nan)
    (slice_index_or xe (place_of (claims n kept elims) c - side_dof kept) nan)

abbrev pub update_lengths : Columns → List ℕ → List ℕ → List Float → List Float → List Float → List ℕ
update_lengths m kept elims xk xe out = length xk ∷ side_dof kept ∷ length xe ∷ side_dof elims ∷ length out ∷ column_count m ∷ []

unfoldable pub combine_updates : Columns → List ℕ → List ℕ → List ℕ → List Float → List Float → List Float → Made
combine_updates m kept elims map xk xe out =
    made m kept elims map (update_lengths m kept elims xk xe out) (list_of (update_at (column_count m) kept elims xk xe) (column_count m)) out
