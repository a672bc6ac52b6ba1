-- To be believed. A block's values: a part of the values lent, which hold each eliminated block by columns, one block after the other. Assumes
-- nothing.
use Rattle.std.specs.Prelude.{Bool, ◌&&◌, cond, List, ℕ, zero, suc, ◌+◌, ◌*◌, leb, ltb, length, get_or, take, drop, Float}
use Rattle.std.specs.Float.{nan}
use Rattle.blocks.specs.Sides.{dof_of}
use Rattle.blocks.specs.Lookups.{asked}
use Rattle.std.specs.Prelude.{Option, Some, None}
use Rattle.blocks.specs.declared.eliminated_blocks.Place.{Place}

-- how many values block b has
unfoldable pub square_of : List ℕ → ℕ → ℕ
square_of elims b = dof_of elims b * dof_of elims b

-- where they begin: the sum of the squares of the dofs before b
unfoldable pub squares_before : List ℕ → ℕ → ℕ
squares_before elims zero = 0
squares_before elims (suc b) = squares_before elims b + square_of elims b

-- a sum, where it is no more than `most`
unfoldable pub up_to : ℕ → ℕ → Option ℕ
up_to most sum = cond (leb sum most) (Some sum) None

-- there is a block b, and n values are enough to hold it
unfoldable pub reaches : ℕ → List ℕ → ℕ → Bool
reaches n elims b = ltb b (asked elims) && leb (squares_before elims b + square_of elims b) n

-- block b's part of n values; an empty part for a number past the list or values too short
unfoldable pub block_place : ℕ → List ℕ → ℕ → Place
block_place n elims b =
    cond (reaches n elims b) (record { start = squares_before elims b; length = square_of elims b }) (record { start = 0; length = 0 })

abbrev pub part_at : Place → List Float → List Float
part_at p values = take p.length (drop p.start values)

unfoldable pub block_part : List Float → List ℕ → ℕ → List Float
block_part values elims b = part_at (block_place (length values) elims b) values

-- the block's dof, or nothing where there is no block b
unfoldable pub dof_in : List ℕ → ℕ → Option ℕ
dof_in elims b = cond (ltb b (asked elims)) (Some (dof_of elims b)) None

-- row r, column c of block b is place c·dof + r of its part
unfoldable pub entry_place : List ℕ → ℕ → ℕ → ℕ → ℕ
entry_place elims b r c = c * dof_of elims b + r

-- that entry, or nothing where there is none
unfoldable pub entry_in_of : List Float → List ℕ → ℕ → ℕ → ℕ → Option Float
entry_in_of values elims b r c =
    cond (reaches (length values) elims b && (ltb r (dof_of elims b) && ltb c (dof_of elims b)))
    (Some (get_or values (squares_before elims b + entry_place elims b r c) nan))
    None
