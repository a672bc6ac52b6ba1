-- To be believed. Lookups, on lists that nobody has checked. An odd last number is ignored, since whole pairs are counted. Assumes nothing.
use Rattle.std.specs.Prelude.{◌≡◌, Bool, true, ◌&&◌, cond, List, ℕ, ◌+◌, ◌-◌, ◌≤◌, ◌<◌, leb, ltb, length}
use Rattle.ground.specs.First.{first}
use Rattle.blocks.specs.Sides.{block_count, first_of, dof_of, offset_of}
use Rattle.blocks.specs.Claims.{too_many}
use Rattle.std.specs.Prelude.{Option, Some, None}
use Rattle.blocks.specs.declared.partition.ColSlot.{ColSlot}
use Rattle.blocks.specs.declared.partition.ColSlot.TheVariants as slot

-- how many blocks are asked: none of a list past the limit
unfoldable pub asked : List ℕ → ℕ
asked side = cond (too_many side) 0 (block_count side)

-- the column is one of block b's
unfoldable pub holds : List ℕ → ℕ → ℕ → Bool
holds side column b = leb (first_of side b) column && ltb column (first_of side b + dof_of side b)

-- the first block that holds it, or how many are asked
abbrev pub holder : List ℕ → ℕ → ℕ
holder side column = first (holds side column) 0 (asked side)

-- how far it is from that block's first column
abbrev pub in_block : List ℕ → ℕ → ℕ
in_block side column = column - first_of side (holder side column)

-- its local number, or nothing
unfoldable pub local_in : List ℕ → ℕ → Option ℕ
local_in side column =
    cond (ltb (holder side column) (asked side)) (Some (offset_of side (holder side column) + in_block side column)) None

-- its block and its offset there, or nothing
unfoldable pub within_in : List ℕ → ℕ → Option (ℕ × ℕ)
within_in side column = cond (ltb (holder side column) (asked side)) (Some (holder side column, in_block side column)) None

-- kept first
abbrev pub eliminated_slot : Option (ℕ × ℕ) → Option ColSlot
eliminated_slot (Some (block, offset)) = Some (slot.Eliminated block offset)
eliminated_slot None = None

abbrev pub kept_slot : Option ℕ → Option (ℕ × ℕ) → Option ColSlot
kept_slot (Some local) w = Some (slot.Kept local)
kept_slot None w = eliminated_slot w

unfoldable pub slot_of : List ℕ → List ℕ → ℕ → Option ColSlot
slot_of kept elims column = kept_slot (local_in kept column) (within_in elims column)

-- the local number of block b's first column, or nothing where there is no block b
unfoldable pub offset_in : List ℕ → ℕ → Option ℕ
offset_in side b = cond (ltb b (asked side)) (Some (offset_of side b)) None

-- ---- what the functions that ask no more need

-- block b is one of n numbers' whole pairs
pub record BlockThere (n b : ℕ) : Type 0 where
  pub there : b + b + 1 < n

-- so it is, and it holds the column
pub record HeldBy (side : List ℕ) (column b : ℕ) : Type 0 where
  pub there : b + b + 1 < length side
  pub held : holds side column b ≡ true

-- so is each before b, and they are within the limit
pub record BlocksThere (n b : ℕ) : Type 0 where
  pub before : b + b ≤ n
  pub few : b ≤ 65_536
