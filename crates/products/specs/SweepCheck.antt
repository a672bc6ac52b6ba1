-- The code's own. The checks that steps and sweeps have in common, as src/sweep_check.rt makes them. Assumes nothing.
use Rattle.std.specs.Prelude.{ℕ, Bool, List}
use Rattle.columns.specs.Refusals.{Told, or_else}
use Rattle.columns.specs.Lengths.{wrong_length}
use Rattle.columns.specs.Columns.{Columns, column_count}
use Rattle.blocks.specs.Sides.{side_dof, side_of}
use Rattle.blocks.specs.Claims.{late_blocks, claims, map_after, Mapped}
use Rattle.plan.specs.Spans.{chunk_count_of, Spread}
use Rattle.products.specs.Orders.{spans_told, bad_plan, early_chunked, lent_lengths}
use Rattle.products.specs.SideFits.{DofsFit}

-- 1 to 9 of a call with a chunk length, and the map that they leave
abbrev pub chunked_told : Columns → List ℕ → List ℕ → ℕ → List ℕ → Told
chunked_told m kept elims len map = or_else (early_chunked m kept elims len map) (late_blocks m kept elims)

-- the map after a call that tells t
abbrev pub chunked_left : Told → Columns → List ℕ → List ℕ → ℕ → List ℕ → List ℕ
chunked_left t m kept elims len map = map_after (early_chunked m kept elims len map) t (column_count m) (claims (column_count m) kept elims) map

unfoldable pub check_chunked : Columns → List ℕ → List ℕ → ℕ → List ℕ → Mapped
check_chunked m kept elims len map = record {
  told = chunked_told m kept elims len map;
  map = chunked_left (chunked_told m kept elims len map) m kept elims len map;
}

-- 11 and 13
unfoldable pub lent_sweep : Bool → ℕ → Columns → ℕ → ℕ → ℕ → Spread → ℕ → ℕ → Told
lent_sweep e n m dof len nv s ny np = or_else (wrong_length (lent_lengths n dof len nv s ny np)) (spans_told e m dof len (chunk_count_of n len) s)

-- 1 to 9, 11 and 13, and the map that they leave
abbrev pub checks_told : Bool → Columns → List ℕ → List ℕ → ℕ → List ℕ → ℕ → Spread → ℕ → ℕ → Told
checks_told e m kept elims len map nv s ny np =
    or_else (early_chunked m kept elims len map)
    (or_else (late_blocks m kept elims)
    (or_else (wrong_length (lent_lengths m.nrows (side_dof (side_of e kept elims)) len nv s ny np)) (bad_plan e m (side_of e kept elims) len s)))

unfoldable pub check_sweep : Bool → Columns → List ℕ → List ℕ → ℕ → List ℕ → ℕ → Spread → ℕ → ℕ → Mapped
check_sweep e m kept elims len map nv s ny np = record {
  told = checks_told e m kept elims len map nv s ny np;
  map = chunked_left (checks_told e m kept elims len map nv s ny np) m kept elims len map;
}

-- ---- what its functions ask

-- both sides' dofs are few
pub record FewSides (kept elims : List ℕ) : Type 0 where
  pub kept-few : DofsFit kept
  pub elims-few : DofsFit elims
