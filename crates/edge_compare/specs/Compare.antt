-- To be believed. What the exports give that are there for comparison only. Assumes nothing.
use Rattle.std.specs.Prelude.{Bool, not, List, ℕ, eqb, get_or, Float, Option, Some, None}
use Rattle.columns.specs.JacobianOps.{Dotted, Left, LeftRows}
use Rattle.blocks.specs.Claims.{Mapped}
use Rattle.blocks.specs.BlockValues.{ValuesLeft}
use Rattle.blocks.specs.Damping.{Termed}
use Rattle.blocks.specs.declared.partition.ColSlot.{ColSlot}
use Rattle.blocks.specs.declared.partition.ColSlot.TheVariants as slot
use Rattle.blocks.specs.declared.eliminated_blocks.Place.{Place}
use Rattle.products.specs.Couplings.{Made, Coupled}
use Rattle.products.specs.Orders.{Swept}
use Rattle.edge.specs.Edge.{Export, export}

-- a sum or a term comes through a lent number, which stays as it was after a refusal
abbrev pub dot_export : Dotted → Float → Export Float
dot_export o x = export o.told (get_or o.sums 0 x)

abbrev pub term_export : Termed → Float → Export Float
term_export o x = export o.told (get_or o.terms 0 x)

-- the buffers of each call, in the order in which it takes them
abbrev pub left_export : Left → Export (List Float)
left_export o = export o.told o.out

abbrev pub rows_export : LeftRows → Export (List Float × List Float)
rows_export o = export o.told (o.jv, o.out)

abbrev pub map_export : Mapped → Export (List ℕ)
map_export o = export o.told o.map

abbrev pub values_export : ValuesLeft → Export (List ℕ × List Float)
values_export o = export o.told (o.map, o.values)

abbrev pub made_export : Made → Export (List ℕ × List Float)
made_export o = export o.told (o.map, o.out)

abbrev pub coupled_export : Coupled → Export (List ℕ × List Float × List Float)
coupled_export o = export o.told (o.map, o.rows, o.out)

abbrev pub swept_export : Swept → Export (List ℕ × List Float × List ℕ)
swept_export o = export o.told (o.map, o.rows, o.progress)

-- a side by its number: 0 is kept, any other eliminated
abbrev pub by_number : ℕ → Bool
by_number n = not (eqb n 0)

-- what a lookup gives: which of its answers it is, and that answer's numbers, 0 where there is none. A kind is no number of document 01's, which
-- has none for lookups
pub record Looked : Type 0 where
  pub kind : ℕ
  pub first : ℕ
  pub second : ℕ

abbrev pub looked : ℕ → ℕ → ℕ → Looked
looked kind first second = record { kind = kind; first = first; second = second }

-- 0 nothing; 1 and a local number; 2, a block and an offset
abbrev pub number_looked : Option ℕ → Looked
number_looked (Some local) = looked 1 local 0
number_looked None = looked 0 0 0

abbrev pub within_looked : Option (ℕ × ℕ) → Looked
within_looked (Some (block, offset)) = looked 2 block offset
within_looked None = looked 0 0 0

abbrev pub slot_looked : Option ColSlot → Looked
slot_looked (Some (slot.Kept local)) = looked 1 local 0
slot_looked (Some (slot.Eliminated block offset)) = looked 2 block offset
slot_looked None = looked 0 0 0

-- a part of a slice, of which there is one kind, 0: its start and its length
abbrev pub place_looked : Place → Looked
place_looked p = looked 0 p.start p.length
