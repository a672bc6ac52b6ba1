-- Worked cases of the check, computed from the definitions: they test that the definitions say what document 01 says. Three columns without an entry
-- serve them all; the map is lent with four places, or two, that hold 7. Assumes nothing.
use mathlib.Core.Path.{◌≡◌, refl}
use mathlib.Core.List.{List, [], ◌∷◌, map}
use Prim.Native.Nat.{ℕ}
use lib.ListN.{replicate}
use Rattle.ground.specs.First.{first_n, first}
use Rattle.ground.specs.Gather.{gather_n, gather}
use Rattle.columns.specs.Refusals.{Told, tell, done, on_pass}
use Rattle.columns.specs.Lengths.{misfits, pair_bad, pairs_told}
use Rattle.columns.specs.Columns.{Columns, columns_of, first_in, end_in, too_big, falls, bad_shape, row_bad, row_falls, column_bad, bad_row, checked}
use Rattle.blocks.specs.Sides.{block_columns}
use Rattle.blocks.specs.Claims.{
  too_many,
  is_odd,
  lists_told,
  empty_side,
  early_told,
  block_claims,
  place_of,
  claim_bad,
  walk_told,
  gap_told,
  blocks_told,
  mark,
  map_left,
  Mapped,
  check_blocks,
}

record Case : Type 0 where
  kept : List ℕ
  elims : List ℕ
  places : ℕ

abbrev case : List ℕ → List ℕ → ℕ → Case
case kept elims places = record { kept = kept; elims = elims; places = places }

abbrev three : Columns
three = columns_of 5 (0 ∷ 0 ∷ 0 ∷ 0 ∷ []) [] []

abbrev run : Case → Mapped
run c = check_blocks three c.kept c.elims (replicate c.places 7)

abbrev left : Told → List ℕ → Mapped
left t m = record { told = t; map = m }

abbrev all_marked : List ℕ
all_marked = mark ∷ mark ∷ mark ∷ 7 ∷ []

abbrev cases : List Case
cases =
    -- eliminated blocks in another order than their columns'
    case (0 ∷ 1 ∷ []) (2 ∷ 1 ∷ 1 ∷ 1 ∷ []) 4
    -- a kept block after the eliminated one
    ∷ case (1 ∷ 2 ∷ []) (0 ∷ 1 ∷ []) 4
    -- an odd list; no kept block, no eliminated one; too little room
    ∷ case (0 ∷ 1 ∷ 2 ∷ []) (1 ∷ 1 ∷ []) 4
    ∷ case [] [] 2
    ∷ case (0 ∷ 1 ∷ []) [] 2
    ∷ case (0 ∷ 1 ∷ []) (1 ∷ 1 ∷ []) 2
    -- a block of no column that starts past the columns; one that reaches past them
    ∷ case (0 ∷ 1 ∷ 5 ∷ 0 ∷ []) (1 ∷ 2 ∷ []) 4
    ∷ case (0 ∷ 1 ∷ []) (1 ∷ 3 ∷ []) 4
    -- a column claimed twice, also where a later block starts past the columns; one that none claims
    ∷ case (0 ∷ 2 ∷ []) (1 ∷ 1 ∷ 9 ∷ 1 ∷ []) 4
    ∷ case (0 ∷ 1 ∷ []) (2 ∷ 1 ∷ []) 4
    -- a block of no column among the columns
    ∷ case (0 ∷ 1 ∷ 0 ∷ 0 ∷ []) (1 ∷ 2 ∷ []) 4
    ∷ []

pub worked : map run cases
    ≡ left done (0 ∷ 2 ∷ 1 ∷ 7 ∷ [])
    ∷ left done (2 ∷ 0 ∷ 1 ∷ 7 ∷ [])
    ∷ left (tell 2 []) (7 ∷ 7 ∷ 7 ∷ 7 ∷ [])
    ∷ left (tell 4 (0 ∷ [])) (7 ∷ 7 ∷ [])
    ∷ left (tell 4 (1 ∷ [])) (7 ∷ 7 ∷ [])
    ∷ left (tell 6 (0 ∷ 3 ∷ [])) (7 ∷ 7 ∷ [])
    ∷ left (tell 7 (5 ∷ [])) all_marked
    ∷ left (tell 7 (3 ∷ [])) all_marked
    ∷ left (tell 8 (1 ∷ [])) all_marked
    ∷ left (tell 9 (1 ∷ [])) all_marked
    ∷ left done (0 ∷ 1 ∷ 2 ∷ 7 ∷ [])
    ∷ []
unfolding first_n first gather_n gather on_pass pair_bad misfits pairs_told first_in end_in too_big falls bad_shape row_bad row_falls column_bad bad_row checked block_columns too_many is_odd lists_told empty_side early_told block_claims place_of claim_bad walk_told gap_told blocks_told map_left check_blocks
worked = refl
