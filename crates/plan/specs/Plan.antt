-- To be believed. The plan: room, refusals 1 to 10, and what a call leaves in its seventeen buffers. Assumes nothing.
use Rattle.std.specs.Prelude.{List, [], ◌∷◌, ◌++◌, ℕ, ◌+◌, length, drop, replicate}
use Rattle.ground.specs.Gather.{gather, list_of}
use Rattle.columns.specs.Refusals.{Told, tell, refused, on_pass, or_else}
use Rattle.columns.specs.Lengths.{no_room_of}
use Rattle.columns.specs.Columns.{Columns, column_count, entry_count}
use Rattle.blocks.specs.Sides.{block_count, dof_of, cols, side_dof}
use Rattle.blocks.specs.Claims.{late_blocks, mark, claims, place_of, parts_told}
use Rattle.std.specs.Prelude.{Result, Ok, Err}
use Rattle.columns.specs.declared.refusal.Refusal.{Refusal}
use Rattle.plan.specs.declared.structure.SpanCounts.{SpanCounts}
use Rattle.plan.specs.Owners.{side_entries, connected_told, owner_list}
use Rattle.plan.specs.Lists.{Listed, listed, rows_of, visible_of}
use Rattle.plan.specs.Spans.{chunk_told, chunk_count_of, chunk_spans, side_spans, Spread, spread}

-- ---- what is lent

-- the buffers in the order of the room list: the column map; kept columns, eliminated columns, block of each eliminated column; row owners; row
-- lists, visible lists, each with starts; kept and eliminated spans, each with chunk starts
pub record Buffers : Type 0 where
  pub map : List ℕ
  pub kept_cols : List ℕ
  pub elims_cols : List ℕ
  pub elims_blocks : List ℕ
  pub owners : List ℕ
  pub row_lists : Listed
  pub visible : Listed
  pub kept : Spread
  pub elims : Spread

abbrev pub buffers : List ℕ → List ℕ → List ℕ → List ℕ → List ℕ → List ℕ → List ℕ → List ℕ → List ℕ
    → List ℕ → List ℕ → List ℕ → List ℕ → List ℕ → List ℕ → List ℕ → List ℕ → Buffers
buffers
    map kept_cols elims_cols elims_blocks owners row_list row_starts visible visible_starts
    kept_starts kept_lo kept_hi kept_local elims_starts elims_lo elims_hi elims_local = record {
      map = map;
      kept_cols = kept_cols;
      elims_cols = elims_cols;
      elims_blocks = elims_blocks;
      owners = owners;
      row_lists = record { list = row_list; starts = row_starts };
      visible = record { list = visible; starts = visible_starts };
      kept = record { starts = kept_starts; lo = kept_lo; hi = kept_hi; local = kept_local };
      elims = record { starts = elims_starts; lo = elims_lo; hi = elims_hi; local = elims_local };
    }

-- each buffer's length and its need, for n columns, that many rows, entries, kept and eliminated blocks, and chunks
abbrev pub room_list : ℕ → ℕ → ℕ → ℕ → ℕ → ℕ
    → ℕ → ℕ → ℕ → ℕ → ℕ → ℕ → ℕ → ℕ → ℕ → ℕ → ℕ → ℕ → ℕ → ℕ → ℕ → ℕ → ℕ → List ℕ
room_list
    n nrows entries kept elims chunks map kept_cols elims_cols elims_blocks owners row_list row_starts visible visible_starts
    kept_starts kept_lo kept_hi kept_local elims_starts elims_lo elims_hi elims_local =
    map ∷ n
    ∷ kept_cols ∷ n
    ∷ elims_cols ∷ n
    ∷ elims_blocks ∷ n
    ∷ owners ∷ nrows
    ∷ row_list ∷ nrows
    ∷ row_starts ∷ (elims + 1)
    ∷ visible ∷ entries
    ∷ visible_starts ∷ (kept + 1)
    ∷ kept_starts ∷ (chunks + 1)
    ∷ kept_lo ∷ entries
    ∷ kept_hi ∷ entries
    ∷ kept_local ∷ entries
    ∷ elims_starts ∷ (chunks + 1)
    ∷ elims_lo ∷ entries
    ∷ elims_hi ∷ entries
    ∷ elims_local ∷ entries
    ∷ []

abbrev pub room_of : ℕ → ℕ → ℕ → ℕ → ℕ → ℕ → Buffers → List ℕ
room_of n nrows entries kept elims chunks b =
    room_list n nrows entries kept elims chunks (length b.map) (length b.kept_cols) (length b.elims_cols) (length b.elims_blocks) (length b.owners)
    (length b.row_lists.list) (length b.row_lists.starts) (length b.visible.list) (length b.visible.starts)
    (length b.kept.starts) (length b.kept.lo) (length b.kept.hi) (length b.kept.local)
    (length b.elims.starts) (length b.elims.lo) (length b.elims.hi) (length b.elims.local)

unfoldable pub room : Columns → List ℕ → List ℕ → ℕ → Buffers → List ℕ
room m kept elims len b = room_of (column_count m) m.nrows (entry_count m) (block_count kept) (block_count elims) (chunk_count_of m.nrows len) b

-- ---- what is told

-- what a call answers: 0 with the kept and the eliminated span count, or a refusal
abbrev pub told_plan : Result SpanCounts Refusal → Told
told_plan (Ok spans) = tell 0 (spans.kept ∷ spans.eliminated ∷ [])
told_plan (Err r) = refused r

-- 1 to 6, after which no byte changes
abbrev pub plan_early : Columns → List ℕ → List ℕ → ℕ → Buffers → Told
plan_early m kept elims len b = or_else (parts_told m kept elims (chunk_told len)) (no_room_of (room m kept elims len b))

-- 10
abbrev pub plan_connected : Columns → List ℕ → Told
plan_connected m elims = connected_told (side_entries m elims)

unfoldable pub plan_told : Columns → List ℕ → List ℕ → ℕ → Buffers → Told
plan_told m kept elims len b =
    or_else (plan_early m kept elims len b)
    (or_else (late_blocks m kept elims)
    (or_else (plan_connected m elims)
    (tell 0 (length (side_spans m kept len) ∷ length (side_spans m elims len) ∷ []))))

-- ---- what is left

-- the block of each of a side's columns, in local order
unfoldable pub column_blocks : List ℕ → List ℕ
column_blocks side = gather (λ b. list_of (λ _. b) (dof_of side b)) 0 (block_count side)

-- on success each buffer's used part holds what it is for, and every place past it what it held
unfoldable pub plan_of : Columns → List ℕ → List ℕ → ℕ → Buffers → Buffers
plan_of m kept elims len b = record {
  map = list_of (place_of (claims (column_count m) kept elims)) (column_count m) ++ drop (column_count m) b.map;
  kept_cols = cols kept ++ drop (side_dof kept) b.kept_cols;
  elims_cols = cols elims ++ drop (side_dof elims) b.elims_cols;
  elims_blocks = column_blocks elims ++ drop (side_dof elims) b.elims_blocks;
  owners = owner_list m elims ++ drop m.nrows b.owners;
  row_lists = listed (rows_of m elims) (block_count elims) b.row_lists.list b.row_lists.starts;
  visible = listed (visible_of m kept elims) (block_count kept) b.visible.list b.visible.starts;
  kept = spread (chunk_spans m kept len) (chunk_count_of m.nrows len) b.kept;
  elims = spread (chunk_spans m elims len) (chunk_count_of m.nrows len) b.elims;
}

-- the mark in the first n places
abbrev pub marks : ℕ → List ℕ → List ℕ
marks n l = replicate n mark ++ drop n l

-- the buffers with another map and other owners
abbrev pub lent : List ℕ → List ℕ → Buffers → Buffers
lent map owners b = record {
  map = map;
  kept_cols = b.kept_cols;
  elims_cols = b.elims_cols;
  elims_blocks = b.elims_blocks;
  owners = owners;
  row_lists = b.row_lists;
  visible = b.visible;
  kept = b.kept;
  elims = b.elims;
}

-- after 1 to 6 nothing changes; after 7 to 9 the map's first columns places hold the mark; after 10 the owners' first rows places too
unfoldable pub plan_left : Columns → List ℕ → List ℕ → ℕ → Buffers → Buffers
plan_left m kept elims len b =
    on_pass (plan_early m kept elims len b)
    (on_pass (late_blocks m kept elims)
    (on_pass (plan_connected m elims) (plan_of m kept elims len b) (lent (marks (column_count m) b.map) (marks m.nrows b.owners) b))
    (lent (marks (column_count m) b.map) b.owners b))
    b

-- what a call tells, and what it leaves
pub record Outcome : Type 0 where
  pub told : Told
  pub left : Buffers

unfoldable pub planned : Columns → List ℕ → List ℕ → ℕ → Buffers → Outcome
planned m kept elims len b = record { told = plan_told m kept elims len b; left = plan_left m kept elims len b }
