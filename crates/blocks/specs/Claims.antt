-- To be believed. Refusals 1, 2, 4 and 6 to 9, over columns and both sides, and the column map. Assumes nothing.
use Rattle.std.specs.Prelude.{◌≡◌, Bool, not, ◌||◌, cond, List, [], ◌∷◌, ◌++◌, ℕ, ◌%◌, ◌≤◌, ◌<◌, eqb, leb, ltb}
use Rattle.std.specs.Prelude.{length, get_or, take, drop, replicate}
use Rattle.ground.specs.First.{first}
use Rattle.ground.specs.Gather.{gather, list_of}
use Rattle.columns.specs.Refusals.{Told, tell, done, on_pass, or_else, sooner}
use Rattle.columns.specs.Lengths.{no_room_of}
use Rattle.columns.specs.Columns.{Columns, column_count, checked, Keeps}
use Rattle.blocks.specs.Sides.{block_count, first_of, block_columns, HasAt, side_of}

-- ---- the block lists

-- 1: more than 65,536 blocks a side
unfoldable pub too_many : List ℕ → Bool
too_many side = ltb 65_536 (block_count side)

-- 2: a list of odd length
unfoldable pub is_odd : List ℕ → Bool
is_odd side = not (eqb (length side % 2) 0)

unfoldable pub lists_told : List ℕ → List ℕ → Told
lists_told kept elims = cond (too_many kept || too_many elims) (tell 1 []) (cond (is_odd kept || is_odd elims) (tell 2 []) done)

-- 4: a side has no block; kept first
unfoldable pub empty_side : List ℕ → List ℕ → Told
empty_side kept elims = cond (eqb (block_count kept) 0) (tell 4 (0 ∷ [])) (cond (eqb (block_count elims) 0) (tell 4 (1 ∷ [])) done)

-- 1 to 4, the columns' checks and the lists' side by side, and then what else is looked at before a byte changes
abbrev pub parts_told : Columns → List ℕ → List ℕ → Told → Told
parts_told m kept elims rest = or_else (sooner (checked m) (lists_told kept elims)) (or_else (empty_side kept elims) rest)

-- 1 to 6, after which no byte changes: last, room for the map
unfoldable pub early_told : Columns → List ℕ → List ℕ → List ℕ → Told
early_told m kept elims map = parts_told m kept elims (no_room_of (length map ∷ column_count m ∷ []))

-- ---- claims

-- The columns that a block claims, ascending. One that starts past the n columns is refused at its first column, whatever its dof
unfoldable pub block_claims : ℕ → List ℕ → ℕ → List ℕ
block_claims n side b = cond (leb n (first_of side b)) (first_of side b ∷ []) (block_columns side b)

abbrev pub side_claims : ℕ → List ℕ → List ℕ
side_claims n side = gather (block_claims n side) 0 (block_count side)

-- the kept blocks first, then the eliminated ones
abbrev pub claims : ℕ → List ℕ → List ℕ → List ℕ
claims n kept elims = side_claims n kept ++ side_claims n elims

-- where column c stands among the claims, or how many there are
unfoldable pub place_of : List ℕ → ℕ → ℕ
place_of cs c = first (λ i. eqb (get_or cs i 0) c) 0 (length cs)

-- claim k names a column that does not exist, or one claimed before
unfoldable pub claim_bad : ℕ → List ℕ → ℕ → Bool
claim_bad n cs k = leb n (get_or cs k 0) || ltb (place_of cs (get_or cs k 0)) k

abbrev pub bad_claim : ℕ → List ℕ → ℕ
bad_claim n cs = first (claim_bad n cs) 0 (length cs)

-- 7 or 8, with the column of the first such claim
unfoldable pub walk_told : ℕ → List ℕ → Told
walk_told n cs =
    cond (ltb (bad_claim n cs) (length cs)) (tell (cond (leb n (get_or cs (bad_claim n cs) 0)) 7 8) (get_or cs (bad_claim n cs) 0 ∷ [])) done

-- the lowest column that no block claims
abbrev pub unclaimed : ℕ → List ℕ → ℕ
unclaimed n cs = first (λ c. leb (length cs) (place_of cs c)) 0 n

-- 9
unfoldable pub gap_told : ℕ → List ℕ → Told
gap_told n cs = cond (ltb (unclaimed n cs) n) (tell 9 (unclaimed n cs ∷ [])) done

-- 7 to 9, of claims cs on n columns
abbrev pub late_told : ℕ → List ℕ → Told
late_told n cs = or_else (walk_told n cs) (gap_told n cs)

abbrev pub late_blocks : Columns → List ℕ → List ℕ → Told
late_blocks m kept elims = late_told (column_count m) (claims (column_count m) kept elims)

-- 1 to 9
unfoldable pub blocks_told : Columns → List ℕ → List ℕ → List ℕ → Told
blocks_told m kept elims map = or_else (early_told m kept elims map) (late_blocks m kept elims)

-- ---- the column map

abbrev pub mark : ℕ
mark = 4_294_967_295

-- the mark in the first n places, or in all where there are fewer
unfoldable pub marked : ℕ → List ℕ → List ℕ
marked n map = replicate (length (take n map)) mark ++ drop n map

-- What a call that tells t leaves in the map of n columns, whose checks of 1 to 6 told `early`, where the blocks claim cs. After 1 to 6 no byte changes.
-- After a later refusal the first columns places hold the mark. On success they hold the kept local number, or kept dof plus the eliminated
-- local number: the column's place among the claims. Places past the columns hold what they held.
abbrev pub map_after : Told → Told → ℕ → List ℕ → List ℕ → List ℕ
map_after early t n cs map = on_pass early (on_pass t (list_of (place_of cs) n) (replicate n mark) ++ drop n map) map

unfoldable pub map_left : Told → Columns → List ℕ → List ℕ → List ℕ → List ℕ
map_left t m kept elims map = map_after (early_told m kept elims map) t (column_count m) (claims (column_count m) kept elims) map

-- what a call tells, and what it leaves in the map
pub record Mapped : Type 0 where
  pub told : Told
  pub map : List ℕ

unfoldable pub check_blocks : Columns → List ℕ → List ℕ → List ℕ → Mapped
check_blocks m kept elims map = record {
  told = blocks_told m kept elims map;
  map = map_left (blocks_told m kept elims map) m kept elims map;
}

-- ---- the rules that the check holds blocks to

-- within the limit, whole pairs, not empty; each block starts below the n columns, and each column of it exists
pub record SideRight (n : ℕ) (side : List ℕ) : Type 0 where
  pub few : block_count side ≤ 65_536
  pub whole : length side % 2 ≡ 0
  pub some : 0 < block_count side
  pub starts : (b : ℕ) → b < block_count side → first_of side b < n
  pub inside : (b i c : ℕ) → HasAt side b i c → c < n

-- a block that has column c
pub record Claimed (kept elims : List ℕ) (c : ℕ) : Type 0 where
  pub eliminated : Bool
  pub block : ℕ
  pub offset : ℕ
  pub there : HasAt (side_of eliminated kept elims) block offset c

-- both sides are so, and each column belongs to exactly one block
pub record Parted (n : ℕ) (kept elims : List ℕ) : Type 0 where
  pub right : (e : Bool) → SideRight n (side_of e kept elims)
  pub claimed : (c : ℕ) → c < n → Claimed kept elims c
  pub once : (e f : Bool) (a b i j c : ℕ) → HasAt (side_of e kept elims) a i c → HasAt (side_of f kept elims) b j c → (e ≡ f) × (a ≡ b)

-- columns and blocks keep the rules, and the map has room
pub record BlocksKeep (m : Columns) (kept elims map : List ℕ) : Type 0 where
  pub keeps : Keeps m
  pub parted : Parted (column_count m) kept elims
  pub room : column_count m ≤ length map
