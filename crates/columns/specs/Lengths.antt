-- To be believed. Refusals 6 and 11: what a call is lent, in order, as a flat list of pairs: length, need. Assumes nothing.
use Rattle.std.specs.Prelude.{Bool, ◌&&◌, ◌||◌, true, false, cond, List, [], ◌∷◌, ℕ, ◌+◌, ◌/◌, ltb, length, get_or, Option, Some, None}
use Rattle.ground.specs.First.{first}
use Rattle.columns.specs.Refusals.{Told, tell, done}

abbrev pub length_of : List ℕ → ℕ → ℕ
length_of pairs k = get_or pairs (k + k) 0

abbrev pub need_of : List ℕ → ℕ → ℕ
need_of pairs k = get_or pairs (k + k + 1) 0

-- a length falls short of its need, or where it has to be exact passes it
unfoldable pub misfits : Bool → ℕ → ℕ → Bool
misfits exact length need = ltb length need || (exact && ltb need length)

-- pair k does
unfoldable pub pair_bad : Bool → List ℕ → ℕ → Bool
pair_bad exact pairs k = misfits exact (length_of pairs k) (need_of pairs k)

-- the first that does, or how many whole pairs there are
abbrev pub bad_pair : Bool → List ℕ → ℕ
bad_pair exact pairs = first (pair_bad exact pairs) 0 (length pairs / 2)

-- refusal n with its place and its need
unfoldable pub pairs_told : ℕ → Bool → List ℕ → Told
pairs_told n exact pairs =
    cond (ltb (bad_pair exact pairs) (length pairs / 2)) (tell n (bad_pair exact pairs ∷ need_of pairs (bad_pair exact pairs) ∷ [])) done

-- 6: a buffer shorter than its need; longer is fine
abbrev pub no_room_of : List ℕ → Told
no_room_of pairs = pairs_told 6 false pairs

-- 11: a vector, plan list or work buffer of other length
abbrev pub wrong_length : List ℕ → Told
wrong_length pairs = pairs_told 11 true pairs

-- its place and its need, if there is one
unfoldable pub bad_pair_in : Bool → List ℕ → Option (ℕ × ℕ)
bad_pair_in exact pairs = cond (ltb (bad_pair exact pairs) (length pairs / 2)) (Some (bad_pair exact pairs, need_of pairs (bad_pair exact pairs))) None
