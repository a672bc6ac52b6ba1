-- Along an accepted work order a row's own terms are those of the undivided sweep: the places that name the row's chunk do its spans one after the
-- other, and no other chunk's span has a term of the row. Assumes nothing.
use mathlib.Core.Path.{◌≡◌, sym, ap, ◌∙◌}
use mathlib.Core.List.{List, [], ◌++◌, append-nil}
use Prim.Native.Nat.{ℕ, zero, suc, ◌+◌, ◌/◌, ◌≤◌, ◌<◌}
use native.Mathlib.Omega.{arith}
use native.Mathlib.Decide.{ℕ_discrete}
use native.Mathlib.Numerals.{add-one}
use lib.ListN.{length, get_or}
use lib.Ieee.{Float}
use Rattle.ground.specs.Gather.{gather}
use Rattle.ground.proofs.GatherLaws.{gather_none, gather_last}
use Rattle.ground.proofs.BucketLaws.{bucket-gather}
use Rattle.columns.specs.Refusals.{Passes}
use Rattle.columns.specs.Columns.{Columns}
use Rattle.columns.specs.Sums.{RowTerm}
use Rattle.blocks.specs.Sides.{cols, side_dof}
use Rattle.plan.specs.Spans.{chunk_count_of, Spread}
use Rattle.plan.specs.SpanWalk.{Chunked, ColumnRises}
use Rattle.plan.proofs.ChunkLaws.{chunk_there}
use Rattle.products.specs.Orders.{span_terms, span_count, served, bad_order, order_terms}
use Rattle.products.specs.SideSums.{side_terms}
use Rattle.undivided.specs.Undivided.{row_of, own_terms, PlanLists}
use Rattle.undivided.proofs.PlanTerms.{starts-rise, chunk_terms_lem, other_span}
use Rattle.undivided.proofs.OrderLaws.{Next, served_none, served_same, served-other, accepted-next, accepted_serves}

module _ (m : Columns) (side : List ℕ) (len : ℕ) (h : Chunked m.nrows len) (f : (l : ℕ) → l < side_dof side → ColumnRises m.ptrs m.rows m.nrows (get_or (cols side) l 0)) (s : Spread) (g : PlanLists m side len s) (v : List Float) (r : ℕ) where
  abbrev chunks : ℕ
  chunks = chunk_count_of m.nrows len

  -- row r's own terms of span k
  abbrev own_span : ℕ → List RowTerm
  own_span k = own_terms r (span_terms m s v k)

  module _ (order : List ℕ) (ok : Passes (bad_order chunks s order)) where
    -- the span that place i does
    abbrev span_at_of : ℕ → ℕ
    span_at_of i = get_or s.starts (get_or order i 0) 0 + served order (get_or order i 0) i

    abbrev start : ℕ
    start = get_or s.starts (r / len) 0

    next-below : (k : ℕ) → Next chunks s order k → span_at_of k < get_or s.starts (get_or order k 0 + 1) 0
    unfolding span_count
    next-below k x = omega (arith, x.left)

    all_served : r / len < chunks → start + served order (r / len) (length order) ≡ get_or s.starts (r / len + 1) 0
    unfolding span_count
    all_served c = omega (arith, (accepted_serves chunks s order ok).each (r / len) c, starts-rise m side len s g (r / len) c)

    -- up to place k it is what the first spans of the row's chunk are, as many as that chunk was named
    order_walk : (k : ℕ) → k ≤ length order → gather (λ i. own_span (span_at_of i)) 0 k ≡ gather own_span start (start + served order (r / len) k)
    order_walk zero l = gather_none (λ i. own_span (span_at_of i)) 0 0 (omega arith) ∙ sym (gather_none own_span start _ (omega (arith, served_none order (r / len))))
    order_walk (suc k) l =
        rw (← (add-one k))
        (gather_last (λ i. own_span (span_at_of i)) 0 k (omega arith)
        ∙ ap (λ zs. zs ++ own_span (span_at_of k)) (order_walk k (omega arith))
        ∙ go (ℕ_discrete (get_or order k 0) (r / len)))
      where
        go : Dec (get_or order k 0 ≡ r / len)
            → gather own_span start (start + served order (r / len) k) ++ own_span (span_at_of k) ≡ gather own_span start (start + served order (r / len) (k + 1))
        go (yes e) =
            let u : start + (served order (r / len) k + 1) ≡ start + served order (r / len) k + 1 = omega arith in
            rw (e, served_same order (r / len) k e, u) (sym (gather_last own_span start (start + served order (r / len) k) (omega arith)))
        go (no e) =
            let x : Next chunks s order k = accepted-next chunks s order ok k l in
            let z : own_span (span_at_of k) ≡ [] = other_span m side len h f s g v r (get_or order k 0) (span_at_of k) x.there (λ q. e (sym q)) (omega arith) (next-below k x) in
            rw (served-other order (r / len) k e, z) (append-nil _)

    -- along the whole order they are those of the undivided sweep
    pub order-terms : r < m.nrows → own_terms r (order_terms m s v order) ≡ own_terms r (side_terms m side v)
    unfolding order_terms
    order-terms l =
        let c : r / len < chunks = chunk_there len h.some-len m.nrows r l in
        let e : start + served order (r / len) (length order) ≡ get_or s.starts (r / len + 1) 0 = all_served c in
        bucket-gather row_of r (λ i. span_terms m s v (span_at_of i)) 0 (length order)
        ∙ order_walk (length order) (omega arith)
        ∙ ap (λ (k : ℕ). gather own_span start k) e
        ∙ sym (bucket-gather row_of r (span_terms m s v) start (get_or s.starts (r / len + 1) 0))
        ∙ chunk_terms_lem m side len h f s g v r l
