-- Worked cases of spans and chunk lengths, computed from the definitions: no rows at all, and a chunk as long as the rows, whose spans stand by local
-- number and not by lo. The lists are lent with more places than they need, all of which hold 7. Assumes nothing.
use mathlib.Core.Path.{◌≡◌, refl}
use mathlib.Core.List.{[], ◌∷◌, map}
use lib.ListN.{replicate}
use Rattle.ground.specs.First.{first_n, first}
use Rattle.ground.specs.Gather.{gather_n, gather}
use Rattle.columns.specs.Refusals.{tell, done}
use Rattle.columns.specs.Columns.{Columns, first_in, end_in}
use Rattle.plan.specs.Owners.{pattern_of}
use Rattle.plan.specs.Spans.{chunk_told, chunk_count_of, in_chunk, place_in, past_last, Spread, column_span, local_spans, spread, spanned}

-- column 0 has rows 0, 1, 3, 4, column 1 rows 0, 1, column 2 rows 3, 4
abbrev three : Columns
three = pattern_of 5 (0 ∷ 4 ∷ 6 ∷ 8 ∷ []) (0 ∷ 1 ∷ 3 ∷ 4 ∷ 0 ∷ 1 ∷ 3 ∷ 4 ∷ [])

-- a side's four lists as lent
abbrev lent : Spread
lent = record { starts = replicate 5 7; lo = replicate 8 7; hi = replicate 8 7; local = replicate 8 7 }

-- no row gives no chunk
pub empty_spans : spanned (pattern_of 0 (0 ∷ 0 ∷ []) []) (0 ∷ []) 1 2 lent ≡ record { count = 0; left = record { starts = 0 ∷ 7 ∷ 7 ∷ 7 ∷ 7 ∷ []; lo = replicate 8 7; hi = replicate 8 7; local = replicate 8 7 } }
unfolding first first_n gather gather_n first_in end_in chunk_count_of in_chunk place_in past_last column_span local_spans spread spanned
empty_spans = refl

-- a chunk as long as the rows is the only one; column 2, of a block before column 1's, has local number 0 and stands first
pub whole-spans : spanned three (2 ∷ 1 ∷ []) 2 5 lent
    ≡ record {
      count = 2;
      left = record {
        starts = 0 ∷ 2 ∷ 7 ∷ 7 ∷ 7 ∷ [];
        lo = 6 ∷ 4 ∷ 7 ∷ 7 ∷ 7 ∷ 7 ∷ 7 ∷ 7 ∷ [];
        hi = 8 ∷ 6 ∷ 7 ∷ 7 ∷ 7 ∷ 7 ∷ 7 ∷ 7 ∷ [];
        local = 0 ∷ 1 ∷ 7 ∷ 7 ∷ 7 ∷ 7 ∷ 7 ∷ 7 ∷ [];
      };
    }
unfolding first first_n gather gather_n first_in end_in chunk_count_of in_chunk place_in past_last column_span local_spans spread spanned
whole-spans = refl

-- the lengths of a chunk that are refused
pub chunk_lengths : map chunk_told (0 ∷ 1 ∷ 1_048_576 ∷ 1_048_577 ∷ []) ≡ tell 5 [] ∷ done ∷ done ∷ tell 5 [] ∷ []
unfolding chunk_told
chunk_lengths = refl
