-- Each entry of a side lies in exactly one of the side's spans, for columns and blocks that passed their checks. Assumes nothing.
use mathlib.Core.Path.{◌≡◌}
use mathlib.Core.Bool.{Bool}
use mathlib.Core.List.{List}
use Prim.Native.Nat.{ℕ, ◌/◌, ◌≤◌, ◌<◌}
use native.Mathlib.Omega.{arith}
use native.Mathlib.Decide.{dec_lt}
use lib.ListN.{length, get_or}
use Rattle.ground.specs.Fold.{All}
use Rattle.columns.specs.Columns.{Columns, column_count, entry_count, Keeps}
use Rattle.columns.proofs.CheckLaws.{columns_apart}
use Rattle.blocks.specs.Sides.{side_of, cols, side_dof}
use Rattle.blocks.specs.Claims.{Parted}
use Rattle.blocks.proofs.MapLaws.{cols-once, cols_in}
use Rattle.plan.specs.Spans.{chunk_spans, side_spans, EntryIn, SpanIs, InOne}
use Rattle.plan.specs.SpanWalk.{Chunked, ColumnRises}
use Rattle.plan.proofs.EntryLaws.{side-entries}
use Rattle.plan_laws.proofs.SpanLaws.{spans_are, spans-few, in_one}
use Rattle.plan.proofs.SpanCalls.{side-rises}

module _ (m : Columns) (kept elims : List ℕ) (k : Keeps m) (d : Parted (column_count m) kept elims) (e : Bool) where
  abbrev side : List ℕ
  side = side_of e kept elims

  abbrev local_column : ℕ → ℕ
  local_column l = get_or (cols side) l 0

  abbrev rises : (l : ℕ) → l < side_dof side → ColumnRises m.ptrs m.rows m.nrows (local_column l)
  rises = side-rises m kept elims k d e

  -- no entry is two columns'
  pub side_apart : (p i l : ℕ) → EntryIn m (cols side) (side_dof side) i p → EntryIn m (cols side) (side_dof side) l p → i ≡ l
  side_apart p i l x y = cols-once (column_count m) kept elims d e i l x.column y.column (go (dec_lt (local_column i) (local_column l)) (dec_lt (local_column l) (local_column i)))
    where
      go : Dec (local_column i < local_column l) → Dec (local_column l < local_column i) → local_column i ≡ local_column l
      go (yes u) _ = absurd (omega (arith, columns_apart k.shaped (local_column i) (local_column l) u (cols_in (column_count m) kept elims d e l y.column), x.high, y.low))
      go (no u) (yes v) = absurd (omega (arith, columns_apart k.shaped (local_column l) (local_column i) v (cols_in (column_count m) kept elims d e i x.column), y.high, x.low))
      go (no u) (no v) = omega arith

  module _ (len : ℕ) (h : Chunked m.nrows len) where
    -- each span of a chunk has an entry, and has just its column's entries in the chunk
    pub side_are : (c : ℕ) → All (SpanIs m (cols side) (side_dof side) len c) (chunk_spans m side len c)
    side_are c = spans_are m (cols side) (side_dof side) len h rises c

    -- each entry of the side lies in exactly one of its spans, that of its chunk and local number
    pub side_in_one : (l p : ℕ) → EntryIn m (cols side) (side_dof side) l p → InOne m (cols side) (side_dof side) len (get_or m.rows p 0 / len) l p
    side_in_one l p x = in_one m (cols side) (side_dof side) len h rises p (side_apart p) l x

    -- no more spans than the columns have entries
    pub side-few : length (side_spans m side len) ≤ entry_count m
    side-few = omega (arith, spans-few m (cols side) (side_dof side) len h rises, side-entries m kept elims k d e)
