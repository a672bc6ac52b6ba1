-- The terms of a planned side, row by row: those of a row's chunk are those of the undivided sweep, and no other chunk has one. Assumes nothing.
use mathlib.Core.Path.{◌≡◌, sym, ap, ◌∙◌}
use mathlib.Core.List.{List, []}
use Prim.Native.Nat.{ℕ, ◌+◌, ◌-◌, ◌/◌, ◌≤◌, ◌<◌}
use native.Mathlib.Omega.{arith}
use native.Mathlib.Nat.{zero-add}
use lib.ListN.{length, get_or, length-map, length-append, get_or-map}
use lib.Ieee.{Float}
use Rattle.ground.specs.Gather.{gather}
use Rattle.ground.proofs.EachLaws.{all_at}
use Rattle.ground.proofs.ItemLaws.{each, each-gather, gather_items, gather-only}
use Rattle.ground.proofs.GatherLaws.{gather_last, length-list_of, get_or-list_of}
use Rattle.ground.proofs.ListLaws.{gather-at}
use Rattle.ground.proofs.BucketLaws.{bucket-gather}
use Rattle.columns.specs.Columns.{Columns}
use Rattle.blocks.specs.Sides.{cols, side_dof}
use Rattle.plan.specs.Lists.{flat}
use Rattle.plan.specs.Spans.{chunk_count_of, Span, span_in, chunk_spans, side_spans, Spread, SpanIs}
use Rattle.plan.specs.SpanWalk.{Chunked, ColumnRises}
use Rattle.plan.proofs.ChunkLaws.{chunk_there}
use Rattle.plan_laws.proofs.SpanLaws.{spans_are}
use Rattle.products.specs.Orders.{span_terms, plan_terms}
use Rattle.products.specs.SideSums.{side_terms}
use Rattle.undivided.specs.Undivided.{row_of, own_terms, chunk_terms, PlanLists}
use Rattle.undivided.proofs.SpanTerms.{terms_of, span_quiet, chunk_quiet, chunk_own}

-- ---- the lists

module _ (m : Columns) (side : List ℕ) (len : ℕ) (s : Spread) (g : PlanLists m side len s) where
  abbrev chunks : ℕ
  chunks = chunk_count_of m.nrows len

  abbrev start_of : ℕ → ℕ
  start_of c = length (flat (chunk_spans m side len) c)

  abbrev nowhere : Span
  nowhere = record { lo = 0; hi = 0; local = 0 }

  pub start_at : (c : ℕ) → c ≤ chunks → get_or s.starts c 0 ≡ start_of c
  start_at c h = rw g.starts_are (get_or-list_of start_of 0 (chunks + 1) c (omega arith))

  start_next : (c : ℕ) → start_of (c + 1) ≡ start_of c + length (chunk_spans m side len c)
  start_next c = ap length (gather_last (chunk_spans m side len) 0 c (omega arith)) ∙ length-append (flat (chunk_spans m side len) c) (chunk_spans m side len c)

  pub starts-rise : (c : ℕ) → c < chunks → get_or s.starts c 0 ≤ get_or s.starts (c + 1) 0
  starts-rise c h = omega (arith, start_at c (omega arith), start_at (c + 1) (omega arith), start_next c)

  pub starts-length : length s.starts ≡ chunks + 1
  starts-length = rw g.starts_are (length-list_of start_of 0 (chunks + 1))

  pub lo-length : length s.lo ≡ start_of chunks
  lo-length = rw g.lo_are (length-map (side_spans m side len) (λ x. x.lo))

  pub hi-length : length s.hi ≡ start_of chunks
  hi-length = rw g.hi_are (length-map (side_spans m side len) (λ x. x.hi))

  pub local-length : length s.local ≡ start_of chunks
  local-length = rw g.local_are (length-map (side_spans m side len) (λ x. x.local))

  -- the k-th places of three lists are the k-th span
  pub lo_at : (k : ℕ) → get_or s.lo k 0 ≡ (span_in (side_spans m side len) k).lo
  lo_at k = rw g.lo_are (get_or-map (λ x. x.lo) (side_spans m side len) k nowhere)

  pub hi_at : (k : ℕ) → get_or s.hi k 0 ≡ (span_in (side_spans m side len) k).hi
  hi_at k = rw g.hi_are (get_or-map (λ x. x.hi) (side_spans m side len) k nowhere)

  pub local_at : (k : ℕ) → get_or s.local k 0 ≡ (span_in (side_spans m side len) k).local
  local_at k = rw g.local_are (get_or-map (λ x. x.local) (side_spans m side len) k nowhere)

  -- the i-th span of chunk c
  pub chunk_at_lem : (c i : ℕ) → c < chunks → i < length (chunk_spans m side len c) → span_in (side_spans m side len) (start_of c + i) ≡ span_in (chunk_spans m side len c) i
  chunk_at_lem c i h l = gather-at nowhere (chunk_spans m side len) c chunks i h l

  module _ (v : List Float) where
    span_at_lem : (k : ℕ) → span_terms m s v k ≡ terms_of m v (span_in (side_spans m side len) k)
    unfolding span_terms
    span_at_lem k = rw (lo_at k, hi_at k, local_at k)

    chunk_items : (c : ℕ) → c < chunks → chunk_terms m s v c ≡ each (terms_of m v) (chunk_spans m side len c)
    chunk_items c h =
        rw (start_at c (omega arith), start_at (c + 1) (omega arith), start_next c)
        (gather_items (terms_of m v) nowhere (span_terms m s v) (chunk_spans m side len c) (start_of c) (λ i l. span_at_lem (start_of c + i) ∙ ap (terms_of m v) (chunk_at_lem c i h l)))

    plan_items : plan_terms m s v ≡ gather (λ c. each (terms_of m v) (chunk_spans m side len c)) 0 chunks
    plan_items =
        ap (λ (k : ℕ). gather (span_terms m s v) 0 k) (lo-length ∙ sym (zero-add (start_of chunks)))
        ∙ gather_items (terms_of m v) nowhere (span_terms m s v) (side_spans m side len) 0 (λ i l. rw (zero-add i) (span_at_lem i))
        ∙ each-gather (terms_of m v) (chunk_spans m side len) 0 chunks

-- ---- a chunk's spans, as they stand in the lists

-- the span that three lists have at place k
abbrev pub span_of : Spread → ℕ → Span
span_of s k = record { lo = get_or s.lo k 0; hi = get_or s.hi k 0; local = get_or s.local k 0 }

-- between two starts it is one of chunk c's spans
pub among : (m : Columns) (side : List ℕ) (len : ℕ) → Chunked m.nrows len → ((l : ℕ) → l < side_dof side → ColumnRises m.ptrs m.rows m.nrows (get_or (cols side) l 0))
    → (s : Spread) → PlanLists m side len s → (c k : ℕ) → c < chunk_count_of m.nrows len → get_or s.starts c 0 ≤ k → k < get_or s.starts (c + 1) 0 → SpanIs m (cols side) (side_dof side) len c (span_of s k)
among m side len h f s g c k q a b =
    rw (lo_at m side len s g k, hi_at m side len s g k, local_at m side len s g k, here)
    (all_at (SpanIs m (cols side) (side_dof side) len c) _ (chunk_spans m side len c) i (spans_are m (cols side) (side_dof side) len h f c) below)
  where
    i : ℕ
    i = k - get_or s.starts c 0

    below : i < length (chunk_spans m side len c)
    below = omega (arith, start_at m side len s g c (omega arith), start_at m side len s g (c + 1) (omega arith), start_next m side len s g c)

    here : span_in (side_spans m side len) k ≡ span_in (chunk_spans m side len c) i
    here =
        let e : k ≡ length (flat (chunk_spans m side len) c) + i = omega (arith, start_at m side len s g c (omega arith)) in
        ap (λ (j : ℕ). span_in (side_spans m side len) j) e ∙ chunk_at_lem m side len s g c i q below

-- ---- row by row

module _ (m : Columns) (side : List ℕ) (len : ℕ) (h : Chunked m.nrows len) (f : (l : ℕ) → l < side_dof side → ColumnRises m.ptrs m.rows m.nrows (get_or (cols side) l 0)) (s : Spread) (g : PlanLists m side len s) (v : List Float) (r : ℕ) where
  side_own : own_terms r (each (terms_of m v) (chunk_spans m side len (r / len))) ≡ own_terms r (side_terms m side v)
  unfolding side_terms
  side_own = chunk_own m (cols side) (side_dof side) len h f v r

  -- the terms of row r in its chunk's spans are those of the undivided sweep
  pub chunk_terms_lem : r < m.nrows → own_terms r (chunk_terms m s v (r / len)) ≡ own_terms r (side_terms m side v)
  chunk_terms_lem l = ap (own_terms r) (chunk_items m side len s g v (r / len) (chunk_there len h.some-len m.nrows r l)) ∙ side_own

  -- so are those in all spans
  pub plan-terms : r < m.nrows → own_terms r (plan_terms m s v) ≡ own_terms r (side_terms m side v)
  plan-terms l =
      ap (own_terms r) (plan_items m side len s g v)
      ∙ bucket-gather row_of r (λ c. each (terms_of m v) (chunk_spans m side len c)) 0 (chunk_count_of m.nrows len)
      ∙ gather-only (λ c. own_terms r (each (terms_of m v) (chunk_spans m side len c))) 0 (chunk_count_of m.nrows len) (r / len) (omega arith) (chunk_there len h.some-len m.nrows r l)
      (λ c _ _ ne. chunk_quiet m (cols side) (side_dof side) len h f v r c (λ e. ne (sym e)))
      ∙ side_own

  -- and no span of another chunk has any
  pub other_span : (c k : ℕ) → c < chunk_count_of m.nrows len → (r / len ≡ c → ⊥) → get_or s.starts c 0 ≤ k → k < get_or s.starts (c + 1) 0 → own_terms r (span_terms m s v k) ≡ []
  unfolding span_terms
  other_span c k q ne a b = span_quiet m (cols side) (side_dof side) len v h.some-len r c (span_of s k) (among m side len h f s g c k q a b) ne
