-- Lookups and block access on small and on wild lists, computed: what the definitions say, case by case. Assumes nothing.
use mathlib.Core.Path.{◌≡◌, refl}
use mathlib.Core.List.{[], ◌∷◌, map}
use Prim.Native.Nat.{ℕ}
use Rattle.ground.specs.First.{first, first_n}
use Rattle.std.specs.Prelude.{Some, None}
use Rattle.blocks.specs.declared.partition.ColSlot.TheVariants as slot
use Rattle.blocks.specs.declared.eliminated_blocks.Place.{Place}
use Rattle.blocks.specs.Sides.{offset_of}
use Rattle.blocks.specs.Claims.{too_many}
use Rattle.blocks.specs.Lookups.{asked, holds, local_in, within_in, slot_of, offset_in}
use Rattle.blocks.specs.Access.{square_of, squares_before, reaches, block_place}

-- kept (0, 1) and (4, 2), with an odd last number; eliminated (1, 2) and (2, 2), which overlap: the first holds column 2
pub slots : map (slot_of (0 ∷ 1 ∷ 4 ∷ 2 ∷ 9 ∷ []) (1 ∷ 2 ∷ 2 ∷ 2 ∷ [])) (0 ∷ 2 ∷ 3 ∷ 5 ∷ 6 ∷ 9 ∷ [])
    ≡ Some (slot.Kept 0) ∷ Some (slot.Eliminated 0 1) ∷ Some (slot.Eliminated 1 1) ∷ Some (slot.Kept 2) ∷ None ∷ None ∷ []
unfolding slot_of local_in within_in asked too_many holds first first_n offset_of
slots = refl

-- a block whose last columns pass 32 bits, after one of dof 0
pub past_words : map (local_in (7 ∷ 0 ∷ 4_294_967_295 ∷ 4_294_967_295 ∷ [])) (7 ∷ 4_294_967_294 ∷ 4_294_967_296 ∷ 8_589_934_589 ∷ 8_589_934_590 ∷ [])
    ≡ None ∷ None ∷ Some 1 ∷ Some 4_294_967_294 ∷ None ∷ []
unfolding local_in asked too_many holds first first_n offset_of
past_words = refl

pub offsets : map (offset_in (5 ∷ 2 ∷ 0 ∷ 3 ∷ 8 ∷ [])) (0 ∷ 1 ∷ 2 ∷ []) ≡ Some 0 ∷ Some 2 ∷ None ∷ []
unfolding offset_in asked too_many offset_of
offsets = refl

abbrev placed : ℕ → ℕ → Place
placed start length = record { start = start; length = length }

-- dofs 2, 0 and 3: with 13 values all are reached, with 12 the last is not; there is no fourth
pub places : map (block_place 13 (0 ∷ 2 ∷ 2 ∷ 0 ∷ 2 ∷ 3 ∷ [])) (0 ∷ 1 ∷ 2 ∷ 3 ∷ []) ≡ placed 0 4 ∷ placed 4 0 ∷ placed 4 9 ∷ placed 0 0 ∷ []
unfolding block_place reaches asked too_many squares_before square_of
places = refl

pub places-short : map (block_place 12 (0 ∷ 2 ∷ 2 ∷ 0 ∷ 2 ∷ 3 ∷ [])) (0 ∷ 1 ∷ 2 ∷ 3 ∷ []) ≡ placed 0 4 ∷ placed 4 0 ∷ placed 0 0 ∷ placed 0 0 ∷ []
unfolding block_place reaches asked too_many squares_before square_of
places-short = refl

-- two squares that pass 64 bits together
pub places_wild : map (block_place 18_446_744_065_119_617_025 (0 ∷ 4_294_967_295 ∷ 0 ∷ 4_294_967_295 ∷ [])) (0 ∷ 1 ∷ [])
    ≡ placed 0 18_446_744_065_119_617_025 ∷ placed 0 0 ∷ []
unfolding block_place reaches asked too_many squares_before square_of
places_wild = refl
