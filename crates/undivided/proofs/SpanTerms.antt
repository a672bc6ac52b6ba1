-- A row's own terms are in the spans of its chunk alone, and there they are those of the columns in local order. Assumes nothing.
use mathlib.Core.Path.{◌≡◌, refl, sym, ap, ◌∙◌}
use mathlib.Core.Bool.{Bool, true, false, cond}
use mathlib.Core.List.{List, [], ◌∷◌}
use Prim.Native.Nat.{ℕ, ◌-◌, ◌/◌, ◌≤◌, ◌<◌}
use native.Mathlib.Omega.{arith}
use lib.ListN.{get_or}
use lib.Ieee.{Float, nan, eq}
use borrow.Author.Tests.{eq-eqb, ne_eqb, eqb-true}
use Rattle.ground.specs.First.{first, some}
use Rattle.ground.specs.Gather.{gather}
use Rattle.ground.specs.Fold.{All}
use Rattle.ground.specs.Buckets.{bucket}
use Rattle.ground.proofs.EachLaws.{all_part}
use Rattle.ground.proofs.FirstLaws.{past_none}
use Rattle.ground.proofs.ItemLaws.{each, each_none, each-one, each-gather, gather-part}
use Rattle.ground.proofs.GatherLaws.{gather_same, gather_empty}
use Rattle.ground.proofs.BucketLaws.{bucket_nil, bucket_append, bucket-gather}
use Rattle.columns.specs.Columns.{Columns, first_place, end_place}
use Rattle.columns.specs.Sums.{RowTerm, zero₊}
use Rattle.columns.specs.JacobianOps.{landing, landings, sweep_terms}
use Rattle.plan.specs.Spans.{place_in, past_last, Span, column_span, local_spans, SpanIs}
use Rattle.plan.specs.SpanWalk.{Chunked, ColumnRises}
use Rattle.plan.proofs.ChunkLaws.{in_chunk_lem}
use Rattle.plan_laws.proofs.SpanLaws.{spans_are}
use Rattle.undivided.specs.Undivided.{row_of, own_terms}

-- ---- places

module _ (rows : List ℕ) (values : List Float) (x : Float) (r : ℕ) where
  -- row r's own of what place p hands on
  abbrev own_at : ℕ → List RowTerm
  own_at p = own_terms r (landing rows values x p)

  own_none : (p : ℕ) → (get_or rows p 0 ≡ r → ⊥) → own_at p ≡ []
  unfolding landing bucket
  own_none p e = rw (ne_eqb (get_or rows p 0) r e)

  own_landings : (lo hi : ℕ) → own_terms r (landings rows values x lo hi) ≡ cond (eq x zero₊) [] (gather own_at lo hi)
  unfolding landings
  own_landings lo hi = go (eq x zero₊)
    where
      go : (t : Bool) → own_terms r (cond t [] (gather (landing rows values x) lo hi)) ≡ cond t [] (gather own_at lo hi)
      go true = bucket_nil row_of r
      go false = bucket-gather row_of r (landing rows values x) lo hi

  -- none of the places has row r
  own_quiet : (lo hi : ℕ) → ((p : ℕ) → lo ≤ p → p < hi → get_or rows p 0 ≡ r → ⊥) → own_terms r (landings rows values x lo hi) ≡ []
  own_quiet lo hi e = own_landings lo hi ∙ rw (gather_empty own_at lo hi (λ p u w. own_none p (e p u w))) (both (eq x zero₊))
    where
      both : (t : Bool) → ◌≡◌ {A = List RowTerm} (cond t [] []) []
      both true = refl
      both false = refl

  -- those that have it are all in a part of the places
  own_part : (a lo hi b : ℕ) → a ≤ lo → lo ≤ hi → hi ≤ b → ((p : ℕ) → a ≤ p → p < b → get_or rows p 0 ≡ r → (lo ≤ p) × (p < hi))
      → own_terms r (landings rows values x lo hi) ≡ own_terms r (landings rows values x a b)
  own_part a lo hi b u w z e =
      own_landings lo hi
      ∙ ap (λ zs. cond (eq x zero₊) [] zs) (sym (gather-part own_at a lo hi b u w z
      (λ p k l. own_none p (λ q. (let g = e p k (omega arith) q in omega (arith, g.0))))
      (λ p k l. own_none p (λ q. (let g = e p (omega arith) l q in omega (arith, g.1))))))
      ∙ sym (own_landings a b)

-- ---- spans

-- a span's terms
abbrev pub terms_of : Columns → List Float → Span → List RowTerm
terms_of m v x = landings m.rows m.values (get_or v x.local nan) x.lo x.hi

module _ (m : Columns) (cs : List ℕ) (n len : ℕ) (v : List Float) (s : 0 < len) (r : ℕ) where
  place-row : (c p : ℕ) → place_in m len c p ≡ true → get_or m.rows p 0 ≡ r → r / len ≡ c
  unfolding place_in
  place-row c p t e = eqb-true (r / len) c (sym (in_chunk_lem len s c r) ∙ rw e at t)

  row-place : (p : ℕ) → get_or m.rows p 0 ≡ r → place_in m len (r / len) p ≡ true
  unfolding place_in
  row-place p e = rw e (in_chunk_lem len s (r / len) r ∙ eq-eqb (r / len) (r / len) refl)

  -- a span of another chunk has no term of row r
  pub span_quiet : (c : ℕ) (x : Span) → SpanIs m cs n len c x → (r / len ≡ c → ⊥) → own_terms r (terms_of m v x) ≡ []
  span_quiet c x i ne = own_quiet m.rows m.values (get_or v x.local nan) r x.lo x.hi (λ p u w e. ne (place-row c p (i.inside p u w).1 e))

  -- one of row r's chunk has all those of its column
  span_own : (x : Span) → SpanIs m cs n len (r / len) x
      → own_terms r (terms_of m v x) ≡ own_terms r (sweep_terms m (get_or v x.local nan) (get_or cs x.local 0))
  span_own x i =
      let low = (i.inside x.lo (omega arith) i.some).0 in
      let high = (i.inside (x.hi - 1) (omega (arith, i.some)) (omega (arith, i.some))).0 in
      own_part m.rows m.values (get_or v x.local nan) r (first_place m (get_or cs x.local 0)) x.lo x.hi (end_place m (get_or cs x.local 0))
      low.low (omega (arith, i.some)) (omega (arith, high.high, i.some))
      (λ p u w e. i.whole p (record { column = low.column; low = u; high = w }) (row-place p e))

  -- a column that has no entry in row r's chunk has no term of row r
  column_quiet : (l j : ℕ) → some (place_in m len (r / len)) (first_place m j) (end_place m j) ≡ false → own_terms r (sweep_terms m (get_or v l nan) j) ≡ []
  column_quiet l j t =
      own_quiet m.rows m.values (get_or v l nan) r (first_place m j) (end_place m j) (λ p u w e.
      let z : ◌≡◌ {A = ℕ} 0 1 = cc (past_none (place_in m len (r / len)) (first_place m j) (end_place m j) t p u w, row-place p e) in
      omega arith)

  -- what a column gives to row r's chunk has its terms of row r
  column_own : (l : ℕ) → All (SpanIs m cs n len (r / len)) (column_span m len (r / len) l (get_or cs l 0))
      → own_terms r (each (terms_of m v) (column_span m len (r / len) l (get_or cs l 0))) ≡ own_terms r (sweep_terms m (get_or v l nan) (get_or cs l 0))
  unfolding column_span
  column_own l a = go (some (place_in m len (r / len)) (first_place m (get_or cs l 0)) (end_place m (get_or cs l 0))) refl a
    where
      x : Span
      x = record {
        lo = first (place_in m len (r / len)) (first_place m (get_or cs l 0)) (end_place m (get_or cs l 0));
        hi = past_last (place_in m len (r / len)) (first_place m (get_or cs l 0)) (end_place m (get_or cs l 0) - first_place m (get_or cs l 0));
        local = l;
      }

      go : (t : Bool) → some (place_in m len (r / len)) (first_place m (get_or cs l 0)) (end_place m (get_or cs l 0)) ≡ t → All (SpanIs m cs n len (r / len)) (cond t (x ∷ []) [])
          → own_terms r (each (terms_of m v) (cond t (x ∷ []) [])) ≡ own_terms r (sweep_terms m (get_or v l nan) (get_or cs l 0))
      go true t a = ap (own_terms r) (each-one (terms_of m v) x) ∙ span_own x a.0
      go false t a = ap (own_terms r) (each_none (terms_of m v)) ∙ bucket_nil row_of r ∙ sym (column_quiet l (get_or cs l 0) t)

-- ---- chunks

local-is : (m : Columns) (cs : List ℕ) (n len c : ℕ) → local_spans m cs n len c ≡ gather (λ l. column_span m len c l (get_or cs l 0)) 0 n
unfolding local_spans
local-is m cs n len c = refl

-- items none of which has a term of row r
items_quiet : {X : Type 0} (P : X → Type 0) (g : X → List RowTerm) (r : ℕ) → ((x : X) → P x → own_terms r (g x) ≡ []) → (xs : List X) → All P xs → own_terms r (each g xs) ≡ []
unfolding each
items_quiet P g r e [] a = bucket_nil row_of r
items_quiet P g r e (x ∷ xs) a = bucket_append row_of r (g x) (each g xs) ∙ rw (e x a.0, items_quiet P g r e xs a.1)

module _ (m : Columns) (cs : List ℕ) (n len : ℕ) (h : Chunked m.nrows len) (f : (l : ℕ) → l < n → ColumnRises m.ptrs m.rows m.nrows (get_or cs l 0)) (v : List Float) (r : ℕ) where
  pub chunk_quiet : (c : ℕ) → (r / len ≡ c → ⊥) → own_terms r (each (terms_of m v) (local_spans m cs n len c)) ≡ []
  chunk_quiet c ne =
      items_quiet (SpanIs m cs n len c) (terms_of m v) r (λ x i. span_quiet m cs n len v h.some-len r c x i ne) (local_spans m cs n len c) (spans_are m cs n len h f c)

  -- the terms of row r in its chunk's spans are those in the columns, one after the other in local order
  pub chunk_own : own_terms r (each (terms_of m v) (local_spans m cs n len (r / len))) ≡ own_terms r (gather (λ l. sweep_terms m (get_or v l nan) (get_or cs l 0)) 0 n)
  chunk_own = parts (spans_are m cs n len h f (r / len))
    where
      parts_are : local_spans m cs n len (r / len) ≡ gather (λ l. column_span m len (r / len) l (get_or cs l 0)) 0 n
      parts_are = local-is m cs n len (r / len)

      parts : All (SpanIs m cs n len (r / len)) (local_spans m cs n len (r / len))
          → own_terms r (each (terms_of m v) (local_spans m cs n len (r / len))) ≡ own_terms r (gather (λ l. sweep_terms m (get_or v l nan) (get_or cs l 0)) 0 n)
      parts a =
          ap (λ xs. own_terms r (each (terms_of m v) xs)) parts_are
          ∙ ap (own_terms r) (each-gather (terms_of m v) (λ l. column_span m len (r / len) l (get_or cs l 0)) 0 n)
          ∙ bucket-gather row_of r _ 0 n
          ∙ gather_same _ _ 0 n (λ l u w. column_own m cs n len v h.some-len r l (all_part (SpanIs m cs n len (r / len)) (λ l. column_span m len (r / len) l (get_or cs l 0)) 0 n l u w (rw parts_are at a)))
          ∙ sym (bucket-gather row_of r (λ l. sweep_terms m (get_or v l nan) (get_or cs l 0)) 0 n)
