-- To be believed. A side's blocks as a list. Assumes nothing.
use Rattle.std.specs.Prelude.{List, [], ◌∷◌, ℕ}
use Rattle.blocks.specs.declared.sides.Block.{Block}

-- each whole pair of a flat list, in order
abbrev pub blocks_of : List ℕ → List Block
blocks_of [] = []
blocks_of (first ∷ []) = []
blocks_of (first ∷ dof ∷ side) = record { first = first; dof = dof } ∷ blocks_of side
