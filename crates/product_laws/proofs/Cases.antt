-- Worked cases, computed from the definitions, of two calls that no case of the built-in hall makes: on its columns, block inverses times 6, 20, and an
-- update. The map is lent with four places, which hold 7, and each result with its own length. Assumes nothing.
use mathlib.Core.Path.{◌≡◌, refl}
use mathlib.Core.List.{List, [], ◌∷◌}
use Prim.Native.Nat.{ℕ}
use lib.IntN.{pos}
use lib.ListN.{replicate}
use lib.Ieee.{Float, binary64, of_int, of_bits, add, mul, eq}
use Rattle.ground.specs.First.{first_n, first}
use Rattle.ground.specs.Gather.{gather_n, gather}
use Rattle.ground.specs.Fold.{folded}
use Rattle.columns.specs.Refusals.{done, on_pass}
use Rattle.columns.specs.Lengths.{misfits, pair_bad, pairs_told}
use Rattle.columns.specs.Columns.{Columns, columns_of, first_in, end_in, too_big, falls, bad_shape, row_falls, row_bad, column_bad, bad_row, checked}
use Rattle.columns.specs.Sums.{add_term}
use Rattle.blocks.specs.Sides.{block_columns, offset_of}
use Rattle.blocks.specs.Claims.{too_many, is_odd, lists_told, empty_side, early_told, block_claims, place_of, claim_bad, walk_told, gap_told, blocks_told, map_left}
use Rattle.blocks.specs.Access.{square_of, squares_before, entry_place}
use Rattle.products.specs.SideSums.{inverse_term, inverse_entry, inverse_block}
use Rattle.products.specs.Couplings.{lent_told, apply_eliminated_inverse, update_at, combine_updates}

abbrev f : ℕ → Float
f n = of_int binary64 (pos n)

abbrev hall : Columns
hall = columns_of 5 (0 ∷ 4 ∷ 6 ∷ 8 ∷ []) (0 ∷ 1 ∷ 3 ∷ 4 ∷ 0 ∷ 1 ∷ 3 ∷ 4 ∷ []) (f 1 ∷ f 2 ∷ f 3 ∷ f 4 ∷ f 1 ∷ f 1 ∷ f 2 ∷ f 1 ∷ [])

abbrev kept : List ℕ
kept = 0 ∷ 1 ∷ []

abbrev elims : List ℕ
elims = 1 ∷ 1 ∷ 2 ∷ 1 ∷ []

-- 0.5 and 0.25
abbrev inverses : List Float
inverses = of_bits binary64 0x3FE0_0000_0000_0000 ∷ of_bits binary64 0x3FD0_0000_0000_0000 ∷ []

pub hall_inverse : apply_eliminated_inverse hall kept elims (replicate 4 7) (f 6 ∷ f 20 ∷ []) inverses (replicate 2 (f 7))
    ≡ record { told = done; map = 0 ∷ 1 ∷ 2 ∷ 7 ∷ []; out = f 3 ∷ f 5 ∷ [] }
unfolding of_int of_bits add mul eq first_n first gather_n gather folded on_pass pair_bad misfits pairs_told first_in end_in too_big falls bad_shape row_falls row_bad column_bad bad_row checked add_term block_columns offset_of too_many is_odd lists_told empty_side early_told block_claims place_of claim_bad walk_told gap_told blocks_told map_left square_of squares_before entry_place inverse_term inverse_entry inverse_block lent_told apply_eliminated_inverse
hall_inverse = refl

-- with the eliminated blocks in the other order, so that local numbers are not the columns' own
pub hall_update : combine_updates hall kept (2 ∷ 1 ∷ 1 ∷ 1 ∷ []) (replicate 4 7) (f 1 ∷ []) (f 2 ∷ f 3 ∷ []) (replicate 3 (f 7))
    ≡ record { told = done; map = 0 ∷ 2 ∷ 1 ∷ 7 ∷ []; out = f 1 ∷ f 3 ∷ f 2 ∷ [] }
unfolding of_int first_n first gather_n gather on_pass pair_bad misfits pairs_told first_in end_in too_big falls bad_shape row_falls row_bad column_bad bad_row checked block_columns offset_of too_many is_odd lists_told empty_side early_told block_claims place_of claim_bad walk_told gap_told blocks_told map_left lent_told update_at combine_updates
hall_update = refl
