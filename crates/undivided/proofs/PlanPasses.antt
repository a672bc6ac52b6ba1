-- What the planner leaves in a side's four lists, cut to their used parts, is the side's plan; and such lists pass 13 and have the lengths that 11
-- asks. Assumes nothing.
use mathlib.Core.Path.{◌≡◌, sym, ap, ◌∙◌}
use mathlib.Core.Bool.{Bool, true, false}
use mathlib.Core.List.{List, map}
use Prim.Native.Nat.{ℕ, ◌+◌, ◌-◌, ◌<◌}
use native.Mathlib.Omega.{arith}
use lib.ListN.{length, get_or, length-map}
use lib.Seq.{take_at}
use borrow.Author.Tests.{eq-eqb, le-ltb, lt-leb}
use Rattle.ground.proofs.FirstLaws.{none_past}
use Rattle.ground.proofs.GatherLaws.{gather_none, length-list_of}
use Rattle.columns.specs.Refusals.{done}
use Rattle.columns.specs.Columns.{Columns, entry_count, falls}
use Rattle.blocks.specs.Sides.{cols, side_dof, side_of}
use Rattle.plan.specs.Lists.{flat, starts_of}
use Rattle.plan.specs.Spans.{chunk_count_of, place_in, chunk_spans, side_spans, Spread, spread, SpanIs}
use Rattle.plan.specs.SpanWalk.{Chunked, ColumnRises}
use Rattle.plan.specs.Plan.{Buffers, plan_of}
use Rattle.products.specs.Orders.{entry_out, span_bad, chunk_bad, starts_bad, plan_bad, bad_plan}
use Rattle.undivided.specs.Undivided.{PlanLists, cut, lists_of, Lengths}
use Rattle.undivided.proofs.PlanTerms.{start_at, starts-rise, starts-length, lo-length, hi-length, local-length, span_of, among}

-- ---- what the planner leaves

-- lists that begin with a side's spans, cut
pub spread-planned : (m : Columns) (side : List ℕ) (len : ℕ) (b : Spread)
    → PlanLists m side len (cut (chunk_count_of m.nrows len) (length (side_spans m side len)) (spread (chunk_spans m side len) (chunk_count_of m.nrows len) b))
unfolding spread
spread-planned m side len b = record {
  starts_are = take_at (starts_of (chunk_spans m side len) (chunk_count_of m.nrows len)) _ (chunk_count_of m.nrows len + 1) (length-list_of (λ c. length (flat (chunk_spans m side len) c)) 0 (chunk_count_of m.nrows len + 1));
  lo_are = take_at (map (λ x. x.lo) (side_spans m side len)) _ (length (side_spans m side len)) (length-map (side_spans m side len) (λ x. x.lo));
  hi_are = take_at (map (λ x. x.hi) (side_spans m side len)) _ (length (side_spans m side len)) (length-map (side_spans m side len) (λ x. x.hi));
  local_are = take_at (map (λ x. x.local) (side_spans m side len)) _ (length (side_spans m side len)) (length-map (side_spans m side len) (λ x. x.local));
}

-- so are each side's of a plan
pub plan-planned : (m : Columns) (kept elims : List ℕ) (len : ℕ) (b : Buffers) (e : Bool)
    → PlanLists m (side_of e kept elims) len
    (cut (chunk_count_of m.nrows len) (length (side_spans m (side_of e kept elims) len)) (lists_of e (plan_of m kept elims len b)))
unfolding plan_of
plan-planned m kept elims len b true = spread-planned m elims len b.elims
plan-planned m kept elims len b false = spread-planned m kept len b.kept

-- ---- 11 and 13

pub planned_lengths : (m : Columns) (side : List ℕ) (len : ℕ) (s : Spread) → PlanLists m side len s → Lengths (chunk_count_of m.nrows len) s
planned_lengths m side len s g = record {
  starts = starts-length m side len s g;
  hi = hi-length m side len s g ∙ sym (lo-length m side len s g);
  local = local-length m side len s g ∙ sym (lo-length m side len s g);
}

module _ (m : Columns) (side : List ℕ) (len : ℕ) (h : Chunked m.nrows len) (f : (l : ℕ) → l < side_dof side → ColumnRises m.ptrs m.rows m.nrows (get_or (cols side) l 0)) (s : Spread) (g : PlanLists m side len s) where
  abbrev chunks : ℕ
  chunks = chunk_count_of m.nrows len

  starts-good : starts_bad chunks s.starts (length s.lo) ≡ false
  unfolding starts_bad falls
  starts-good =
      let z : get_or s.starts 0 0 ≡ 0 = start_at m side len s g 0 (omega arith) ∙ ap length (gather_none (chunk_spans m side len) 0 0 (omega arith)) in
      rw (
        eq-eqb (get_or s.starts 0 0) 0 z,
        none_past (falls s.starts) 0 chunks (λ c _ l. le-ltb (get_or s.starts (c + 1) 0) (get_or s.starts c 0) (starts-rise m side len s g c l)),
        eq-eqb (get_or s.starts chunks 0) (length s.lo) (start_at m side len s g chunks (omega arith) ∙ sym (lo-length m side len s g)),
      )

  -- a span of chunk c
  entry_in : (c p : ℕ) → place_in m len c p ≡ true → entry_out m len c p ≡ false
  unfolding place_in entry_out
  entry_in c p e = rw e

  span_good : (c k : ℕ) → SpanIs m (cols side) (side_dof side) len c (span_of s k) → span_bad m (side_dof side) len s c k ≡ false
  unfolding span_bad
  span_good c k i =
      let last = (i.inside (get_or s.hi k 0 - 1) (omega (arith, i.some)) (omega (arith, i.some))).0 in
      let there = ((f (get_or s.local k 0) last.column).inside.inside.each (get_or s.hi k 0 - 1) last.low last.high).there in
      rw (
        le-ltb (get_or s.hi k 0) (get_or s.lo k 0) (omega (arith, i.some)),
        le-ltb (entry_count m) (get_or s.hi k 0) (omega (arith, there)),
        lt-leb (side_dof side) (get_or s.local k 0) last.column,
        none_past (entry_out m len c) (get_or s.lo k 0) (get_or s.hi k 0) (λ p u w. entry_in c p (i.inside p u w).1),
      )

  chunk_good : (c : ℕ) → c < chunks → chunk_bad m (side_dof side) len s c ≡ false
  unfolding chunk_bad
  chunk_good c l =
      none_past (span_bad m (side_dof side) len s c) (get_or s.starts c 0) (get_or s.starts (c + 1) 0) (λ k u w. span_good c k (among m side len h f s g c k l u w))

  -- they pass 13
  pub planned_passes : (e : Bool) → bad_plan e m side len s ≡ done
  unfolding bad_plan plan_bad
  planned_passes e = rw (starts-good, none_past (chunk_bad m (side_dof side) len s) 0 chunks (λ c _ l. chunk_good c l))
