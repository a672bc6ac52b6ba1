-- To be believed. The owner of a row, and refusal 10. Assumes nothing.
use Rattle.std.specs.Prelude.{◌≡◌, Bool, true, not, ◌&&◌, cond, List, [], ◌∷◌, ◌++◌, ℕ, ◌+◌, ◌<◌, eqb, ltb, length}
use Rattle.std.specs.Prelude.{get_or, replicate, drop}
use Rattle.ground.specs.First.{first, some}
use Rattle.ground.specs.Gather.{gather, list_of}
use Rattle.columns.specs.Refusals.{Told, tell, done, on_pass}
use Rattle.columns.specs.Columns.{Columns, columns_of, first_in, end_in, first_place, end_place}
use Rattle.blocks.specs.Sides.{block_count, first_of, dof_of}
use Rattle.blocks.specs.Claims.{mark}

-- column j has an entry in row r
unfoldable pub in_column : Columns → ℕ → ℕ → Bool
in_column m r j = some (λ p. eqb (get_or m.rows p 0) r) (first_place m j) (end_place m j)

-- block b of a side has one
unfoldable pub in_block : Columns → List ℕ → ℕ → ℕ → Bool
in_block m side r b = some (λ i. in_column m r (first_of side b + i)) 0 (dof_of side b)

-- the eliminated block with an entry in row r, or the mark
unfoldable pub owner_of : Columns → List ℕ → ℕ → ℕ
owner_of m elims r = cond (some (in_block m elims r) 0 (block_count elims)) (first (in_block m elims r) 0 (block_count elims)) mark

-- ---- 10

-- an entry of an eliminated block: its row and its block
pub record Entry : Type 0 where
  pub row : ℕ
  pub block : ℕ

abbrev pub entry : ℕ → ℕ → Entry
entry r b = record { row = r; block = b }

-- that at place p, of block b
unfoldable pub entry_at : List ℕ → ℕ → ℕ → List Entry
entry_at rows b p = entry (get_or rows p 0) b ∷ []

unfoldable pub column_entries : List ℕ → List ℕ → ℕ → ℕ → List Entry
column_entries ptrs rows b j = gather (entry_at rows b) (first_in ptrs j) (end_in ptrs j)

unfoldable pub block_entries : List ℕ → List ℕ → List ℕ → ℕ → List Entry
block_entries ptrs rows side b = gather (λ i. column_entries ptrs rows b (first_of side b + i)) 0 (dof_of side b)

-- blocks, columns and entries in order
abbrev pub side_entries : Columns → List ℕ → List Entry
side_entries m side = gather (block_entries m.ptrs m.rows side) 0 (block_count side)

abbrev pub entry_in_of : List Entry → ℕ → Entry
entry_in_of es k = get_or es k (entry 0 0)

-- the first entry in the row of entry k
unfoldable pub holder : List Entry → ℕ → ℕ
holder es k = first (λ i. eqb (entry_in_of es i).row (entry_in_of es k).row) 0 k

-- entry k lies in a row that an earlier block holds
unfoldable pub clashes : List Entry → ℕ → Bool
clashes es k = ltb (holder es k) k && not (eqb (entry_in_of es (holder es k)).block (entry_in_of es k).block)

abbrev pub first_clash : List Entry → ℕ
first_clash es = first (clashes es) 0 (length es)

-- that entry's block now, and the earlier one
unfoldable pub connected_told : List Entry → Told
connected_told es =
    cond (ltb (first_clash es) (length es))
    (tell 10 ((entry_in_of es (first_clash es)).block ∷ (entry_in_of es (holder es (first_clash es))).block ∷ [])) done

-- what it comes to: some row has entries of two different eliminated blocks
pub record Connects (m : Columns) (elims : List ℕ) : Type 0 where
  pub row : ℕ
  pub one : ℕ
  pub other : ℕ
  pub one-there : one < block_count elims
  pub other-there : other < block_count elims
  pub one_in : in_block m elims row one ≡ true
  pub other_in : in_block m elims row other ≡ true
  pub differ : one ≡ other → ⊥

-- the owners of the rows
abbrev pub owner_list : Columns → List ℕ → List ℕ
owner_list m elims = list_of (owner_of m elims) m.nrows

-- ---- the call

-- columns without their values, which no owner looks at
abbrev pub pattern_of : ℕ → List ℕ → List ℕ → Columns
pattern_of nrows ptrs rows = columns_of nrows ptrs rows []

-- what a call tells, and what it leaves in the owners
pub record Owned : Type 0 where
  pub told : Told
  pub owners : List ℕ

-- the rows' owners, or after 10 the mark for each row; places past the rows hold what they held
unfoldable pub owners_of : Columns → List ℕ → List ℕ → Owned
owners_of m elims owners = record {
  told = connected_told (side_entries m elims);
  owners = on_pass (connected_told (side_entries m elims)) (owner_list m elims) (replicate m.nrows mark) ++ drop m.nrows owners;
}
