-- Columns and blocks that passed their checks give what `spans` asks. Assumes nothing.
use mathlib.Core.Path.{◌≡◌, refl, ap}
use mathlib.Core.Bool.{Bool, true, false}
use mathlib.Core.List.{List}
use Prim.Native.Nat.{ℕ, ◌+◌, ◌≤◌, ◌<◌}
use native.Mathlib.Omega.{arith}
use lib.ListN.{length, get_or}
use Rattle.ground.proofs.GatherLaws.{gather_same}
use Rattle.columns.specs.Columns.{Columns, column_count, entry_count, Keeps}
use Rattle.columns.proofs.CheckLaws.{column-run, column-there}
use Rattle.blocks.specs.Sides.{side_of, cols, side_dof}
use Rattle.blocks.specs.Claims.{Parted}
use Rattle.blocks.proofs.PartLaws.{parted-dofs}
use Rattle.blocks.proofs.MapLaws.{cols_in}
use Rattle.plan.specs.Owners.{pattern_of}
use Rattle.plan.specs.Entries.{entries_in}
use Rattle.plan.specs.Spans.{chunk_count_of, place_in, column_span, local_spans, Spread, spread, spanned}
use Rattle.plan.specs.SpanWalk.{Chunked, ColumnRises, SpansFit}
use Rattle.plan.proofs.EntryLaws.{entries_same, side-entries}
use Rattle.plan.proofs.FlatLaws.{flat_same, spread_same}

-- no span looks at a value
pub pattern_spans : (m : Columns) (cs : List ℕ) (n len : ℕ) (s : Spread) → spanned (pattern_of m.nrows m.ptrs m.rows) cs n len s ≡ spanned m cs n len s
unfolding spanned spread local_spans column_span place_in
pattern_spans m cs n len s = refl

-- nor at a column past the first n
module _ (m : Columns) (cs ds : List ℕ) (n len : ℕ) (same : (l : ℕ) → l < n → get_or cs l 0 ≡ get_or ds l 0) where
  local_same : (c : ℕ) → local_spans m cs n len c ≡ local_spans m ds n len c
  unfolding local_spans
  local_same c = gather_same _ _ 0 n (λ l _ h. ap (λ (j : ℕ). column_span m len c l j) (same l h))

  pub spanned_same : (s : Spread) → spanned m cs n len s ≡ spanned m ds n len s
  unfolding spanned
  spanned_same s =
      let k : ℕ = chunk_count_of m.nrows len in
      rw (flat_same _ _ k (λ c _. local_same c), spread_same _ _ k (λ c _. local_same c) s)

module _ (m : Columns) (kept elims : List ℕ) (k : Keeps m) (d : Parted (column_count m) kept elims) (e : Bool) where
  abbrev side : List ℕ
  side = side_of e kept elims

  abbrev local_column : ℕ → ℕ
  local_column l = get_or (cols side) l 0

  pub side-rises : (l : ℕ) → l < side_dof side → ColumnRises m.ptrs m.rows m.nrows (local_column l)
  side-rises l h =
      let g : local_column l < column_count m = cols_in (column_count m) kept elims d e l h in
      let r = column-run k.shaped (local_column l) g in
      record {
        inside = record {
          column = column-there k.shaped (local_column l) g;
          inside = record { each = λ p u v. record { there = omega (arith, r.inside); below = k.sorted.below (local_column l) p (record { column = g; low = u; high = v }) } };
        };
        few = omega (arith, r.inside, k.small.few-entries);
        ascends = λ p u v. k.sorted.ascends (local_column l) p (record { column = g; low = omega arith; high = v }) u;
      }

  pub side_dof_lem : side_dof side ≤ 65_536
  side_dof_lem = go e
    where
      sum : side_dof kept + side_dof elims ≡ column_count m
      sum = parted-dofs (column_count m) kept elims d k.small.few-columns

      go : (e : Bool) → side_dof (side_of e kept elims) ≤ 65_536
      go true = omega (arith, sum, k.small.few-columns)
      go false = omega (arith, sum, k.small.few-columns)

  module _ (len : ℕ) (h : Chunked m.nrows len) where
    -- what `spans` asks, where the side's columns are the first in a list of columns
    pub side-fit : (cs : List ℕ) (nstarts nlo nhi nlocal : ℕ) → side_dof side ≤ length cs → ((l : ℕ) → l < side_dof side → get_or cs l 0 ≡ local_column l)
        → chunk_count_of m.nrows len < nstarts → entry_count m ≤ nlo → entry_count m ≤ nhi → entry_count m ≤ nlocal
        → SpansFit (pattern_of m.nrows m.ptrs m.rows) cs (side_dof side) len nstarts nlo nhi nlocal
    side-fit cs nstarts nlo nhi nlocal there same starts a b c =
        let sum : entries_in m.ptrs cs (side_dof side) ≡ entries_in m.ptrs (cols side) (side_dof side) = entries_same m.ptrs cs (cols side) (side_dof side) same in
        record {
          chunked = h;
          listed = there;
          few-columns = side_dof_lem;
          columns = λ l g. rw (same l g) (side-rises l g);
          few-entries = omega (arith, side-entries m kept elims k d e, k.small.few-entries);
          started = starts;
          room-lo = omega (arith, side-entries m kept elims k d e);
          room-hi = omega (arith, side-entries m kept elims k d e);
          room-local = omega (arith, side-entries m kept elims k d e);
        }
