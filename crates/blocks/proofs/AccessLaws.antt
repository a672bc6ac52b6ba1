-- Block access: where there is a block and the values reach it, its part is its values, and an entry is that part read by columns; else the
-- part is empty. Assumes nothing.
use mathlib.Core.Path.{◌≡◌}
use mathlib.Core.Bool.{true, false}
use mathlib.Core.List.{List, []}
use Prim.Native.Nat.{ℕ, ◌+◌, ◌≤◌, ◌<◌}
use native.Mathlib.Omega.{arith}
use lib.ListN.{length, get_or, length-take, length-drop}
use lib.Seq.{get_or-take, get_or-drop}
use lib.Dec.{ltb}
use borrow.Author.Tests.{lt-ltb, leb-true}
use lib.Ieee.{Float, nan}
use Rattle.ground.proofs.TestLaws.{and_true}
use Rattle.std.specs.Prelude.{Some}
use Rattle.blocks.specs.Sides.{dof_of}
use Rattle.blocks.specs.Lookups.{asked}
use Rattle.blocks.specs.Access.{square_of, squares_before, reaches, block_place, block_part, entry_place, entry_in_of}
use Rattle.blocks.proofs.AccessRules.{in_square}

-- an entry is one of its block's values
pub entry-inside : (elims : List ℕ) (b r c : ℕ) → r < dof_of elims b → c < dof_of elims b → entry_place elims b r c < square_of elims b
unfolding entry_place square_of
entry-inside elims b r c h l = in_square (dof_of elims b) r c h l

module _ (values : List Float) (elims : List ℕ) (b : ℕ) where
  module _ (full : reaches (length values) elims b ≡ true) where
    pub reached : squares_before elims b + square_of elims b ≤ length values
    unfolding reaches
    reached = leb-true _ _ (and_true (ltb b (asked elims)) _ full).1

    pub part_length : length (block_part values elims b) ≡ square_of elims b
    unfolding block_part block_place
    part_length = rw full (simp (length-take, length-drop) (omega (arith, reached)))

    pub part_at_lem : (i : ℕ) → i < square_of elims b → get_or (block_part values elims b) i nan ≡ get_or values (squares_before elims b + i) nan
    unfolding block_part block_place
    part_at_lem i h = rw (full, get_or-take, get_or-drop)

    pub entry-part : (r c : ℕ) → r < dof_of elims b → c < dof_of elims b → entry_in_of values elims b r c ≡ Some (get_or (block_part values elims b) (entry_place elims b r c) nan)
    unfolding entry_in_of
    entry-part r c h l = rw (full, lt-ltb r (dof_of elims b) h, lt-ltb c (dof_of elims b) l, part_at_lem (entry_place elims b r c) (entry-inside elims b r c h l))

  pub part_none : reaches (length values) elims b ≡ false → block_part values elims b ≡ []
  unfolding block_part block_place
  part_none e = rw e
