-- The spans of a side are what document 01 asks: none is empty, each has just its column's entries in its chunk, each entry lies in one span and in
-- no other, they stand by chunk and then by local number, and they are no more than the entries. Assumes nothing.
use mathlib.Core.Path.{◌≡◌, refl, sym, ap, ◌∙◌}
use mathlib.Core.Bool.{Bool, true, false, cond}
use mathlib.Core.Logic.{◌⊎◌, inl, inr}
use mathlib.Core.List.{List, [], ◌∷◌}
use Prim.Native.Nat.{ℕ, zero, suc, ◌+◌, ◌-◌, ◌/◌, ◌≤◌, ◌<◌}
use native.Mathlib.Nat.{le_refl}
use native.Mathlib.Omega.{arith}
use native.Mathlib.Decide.{ℕ_discrete, dec_lt}
use lib.ListN.{length, get_or}
use borrow.Author.Tests.{ltb-true}
use Rattle.ground.specs.First.{first, some}
use Rattle.ground.specs.Gather.{gather}
use Rattle.ground.specs.Fold.{All}
use Rattle.ground.specs.Buckets.{bucketed}
use Rattle.ground.proofs.EachLaws.{all_gather}
use Rattle.ground.proofs.FirstLaws.{first-low, first_bad, first-before, some_at}
use Rattle.ground.proofs.ListLaws.{Handed, gather_less, gather-at, gather_from}
use Rattle.ground.proofs.BucketLaws.{bucketed-flat, length-bucketed}
use Rattle.columns.specs.Columns.{Columns, first_place, end_place}
use Rattle.plan.specs.Lists.{flat}
use Rattle.plan.specs.Entries.{entries_in}
use Rattle.plan.specs.Spans.{chunk_count_of, place_in, past_last, Span, column_span, local_spans, EntryIn, SpanIs, all_spans, span_in, HasPlace, InOne}
use Rattle.plan.specs.SpanWalk.{chunk_at, chunk_of, side_runs, Chunked, ColumnRises, RunsIn}
use Rattle.plan.proofs.ChunkLaws.{chunk_there}
use Rattle.plan.proofs.RunLaws.{place-rises}
use Rattle.plan.proofs.SpanBridge.{rises-runs, place_chunk, chunk_place, side-bucket, side_keyed, side-few}

-- ---- one past the last place where a test holds

module _ (f : ℕ → Bool) (lo : ℕ) where
  past-high : (n : ℕ) → past_last f lo n ≤ lo + n
  unfolding past_last
  past-high zero = omega arith
  past-high (suc n) = go (f (lo + n)) (past-high n)
    where
      go : (t : Bool) → past_last f lo n ≤ lo + n → cond t (lo + n + 1) (past_last f lo n) ≤ lo + suc n
      go true h = omega arith
      go false h = omega arith

  past_after : (n k : ℕ) → lo ≤ k → k < lo + n → f k ≡ true → k < past_last f lo n
  unfolding past_last
  past_after zero k l h e = absurd (omega arith)
  past_after (suc n) k l h e = go (f (lo + n)) refl (past_after n k l)
    where
      go : (t : Bool) → f (lo + n) ≡ t → (k < lo + n → f k ≡ true → k < past_last f lo n) → k < cond t (lo + n + 1) (past_last f lo n)
      go true q ih = omega arith
      go false q ih = at (ℕ_discrete k (lo + n))
        where
          at : Dec (k ≡ lo + n) → k < past_last f lo n
          at (yes w) = absurd (let z : ◌≡◌ {A = ℕ} 0 1 = cc (q, e, w) in omega arith)
          at (no w) = ih (omega arith) e

  past-holds : (n : ℕ) → lo < past_last f lo n → f (past_last f lo n - 1) ≡ true
  unfolding past_last
  past-holds zero h = absurd (omega arith)
  past-holds (suc n) h = go (f (lo + n)) refl h (past-holds n)
    where
      go : (t : Bool) → f (lo + n) ≡ t → lo < cond t (lo + n + 1) (past_last f lo n) → (lo < past_last f lo n → f (past_last f lo n - 1) ≡ true) → f (cond t (lo + n + 1) (past_last f lo n) - 1) ≡ true
      go true q h ih = let w : lo + n + 1 - 1 ≡ lo + n = omega arith in rw w q
      go false q h ih = ih h

-- ---- one column

module _ (m : Columns) (len c l j : ℕ) where
  -- its span in chunk c, where it has one
  abbrev span_of : Span
  span_of = record {
    lo = first (place_in m len c) (first_place m j) (end_place m j);
    hi = past_last (place_in m len c) (first_place m j) (end_place m j - first_place m j);
    local = l;
  }

  column-one : some (place_in m len c) (first_place m j) (end_place m j) ≡ true → column_span m len c l j ≡ span_of ∷ []
  unfolding column_span
  column-one e = rw e

  column_none : some (place_in m len c) (first_place m j) (end_place m j) ≡ false → column_span m len c l j ≡ []
  unfolding column_span
  column_none e = rw e

module _ (m : Columns) (cs : List ℕ) (n len : ℕ) (h : Chunked m.nrows len) (f : (l : ℕ) → l < n → ColumnRises m.ptrs m.rows m.nrows (get_or cs l 0)) where
  -- of the l-th column
  column-is : (c l : ℕ) → l < n → some (place_in m len c) (first_place m (get_or cs l 0)) (end_place m (get_or cs l 0)) ≡ true → SpanIs m cs n len c (span_of m len c l (get_or cs l 0))
  column-is c l g t =
      record {
        some = past_after (place_in m len c) a (b - a) s low (omega (arith, low, before)) here;
        inside = λ p u v. (record { column = g; low = omega (arith, low); high = omega (arith, top) }, between p u v);
        whole = λ p e q. (first_of_lem p e q, past_after (place_in m len c) a (b - a) p e.low (omega (arith, e.high)) q);
      }
    where
      a : ℕ
      a = first_place m (get_or cs l 0)

      b : ℕ
      b = end_place m (get_or cs l 0)

      s : ℕ
      s = first (place_in m len c) a b

      r : RunsIn m.rows len a b
      r = rises-runs m.ptrs m.rows m.nrows len (get_or cs l 0) h (f l g)

      before : s < b
      before = ltb-true s b t

      low : a ≤ s
      low = first-low (place_in m len c) a b

      here : place_in m len c s ≡ true
      here = first_bad (place_in m len c) a b before

      top : past_last (place_in m len c) a (b - a) ≤ b
      top = omega (arith, past-high (place_in m len c) a (b - a), low, before)

      between : (p : ℕ) → s ≤ p → p < past_last (place_in m len c) a (b - a) → place_in m len c p ≡ true
      between p u v =
          let e : ℕ = past_last (place_in m len c) a (b - a) in
          let last : place_in m len c (e - 1) ≡ true = past-holds (place_in m len c) a (b - a) (omega (arith, low)) in
          chunk_place m len l (get_or cs l 0) c r p (omega (
            arith,
            place_chunk m len l (get_or cs l 0) c r s here,
            place_chunk m len l (get_or cs l 0) c r (e - 1) last,
            place-rises m.rows len a b r s p low u (omega (arith, top)),
            place-rises m.rows len a b r p (e - 1) (omega (arith, low)) (omega arith) (omega (arith, top)),
          ))

      first_of_lem : (p : ℕ) → EntryIn m cs n l p → place_in m len c p ≡ true → s ≤ p
      first_of_lem p e q = go (dec_lt p s)
        where
          go : Dec (p < s) → s ≤ p
          go (yes w) = absurd (let z : ◌≡◌ {A = ℕ} 0 1 = cc (first-before (place_in m len c) a b p e.low w, q) in omega arith)
          go (no w) = omega arith

  -- a chunk's spans: each has an entry, and has just its column's entries in the chunk
  pub spans_are : (c : ℕ) → All (SpanIs m cs n len c) (local_spans m cs n len c)
  unfolding local_spans
  spans_are c = all_gather (SpanIs m cs n len c) (λ l. column_span m len c l (get_or cs l 0)) 0 n (λ l _ g. go l g (some (place_in m len c) (first_place m (get_or cs l 0)) (end_place m (get_or cs l 0))) refl)
    where
      go : (l : ℕ) → l < n → (t : Bool) → some (place_in m len c) (first_place m (get_or cs l 0)) (end_place m (get_or cs l 0)) ≡ t → All (SpanIs m cs n len c) (column_span m len c l (get_or cs l 0))
      go l g true e = rw (column-one m len c l (get_or cs l 0) e) (column-is c l g e, tt)
      go l g false e = rw (column_none m len c l (get_or cs l 0) e) tt

  -- no more spans than entries
  pub spans-few : length (all_spans m cs n len) ≤ entries_in m.ptrs cs n
  spans-few =
      let e : bucketed (chunk_of m.rows len) (chunk_count_of m.nrows len) (side_runs m.ptrs m.rows cs len n) ≡ all_spans m cs n len =
      bucketed-flat (chunk_of m.rows len) (side_runs m.ptrs m.rows cs len n) (local_spans m cs n len) (chunk_count_of m.nrows len) (λ c _. side-bucket m cs n len h f c) in
      omega (arith, ap length e, length-bucketed (chunk_of m.rows len) (chunk_count_of m.nrows len) (side_runs m.ptrs m.rows cs len n) (side_keyed m cs n len h f), side-few m.ptrs m.rows cs len n)

-- ---- where each stands

module _ (m : Columns) (cs : List ℕ) (n len : ℕ) where
  -- what the l-th column gives to chunk c
  abbrev part : ℕ → ℕ → List Span
  part c l = column_span m len c l (get_or cs l 0)

  abbrev Meets : ℕ → ℕ → Type 0
  Meets c l = some (place_in m len c) (first_place m (get_or cs l 0)) (end_place m (get_or cs l 0)) ≡ true

  part-one : (c l : ℕ) → Meets c l → part c l ≡ span_of m len c l (get_or cs l 0) ∷ []
  part-one c l t = column-one m len c l (get_or cs l 0) t

  part_meets : (c l i : ℕ) → i < length (part c l) → (i ≡ 0) × Meets c l
  part_meets c l i h = go (some (place_in m len c) (first_place m (get_or cs l 0)) (end_place m (get_or cs l 0))) refl
    where
      go : (t : Bool) → some (place_in m len c) (first_place m (get_or cs l 0)) (end_place m (get_or cs l 0)) ≡ t → (i ≡ 0) × Meets c l
      go true t = let e : length (part c l) ≡ 1 = ap length (part-one c l t) in (omega arith, t)
      go false t = absurd (let e : length (part c l) ≡ 0 = ap length (column_none m len c l (get_or cs l 0) t) in omega arith)

  chunk_is : (c : ℕ) → local_spans m cs n len c ≡ gather (part c) 0 n
  unfolding local_spans
  chunk_is c = refl

  part-before : (c l l' : ℕ) → l ≤ l' → length (gather (part c) 0 l) ≤ length (gather (part c) 0 l')
  part-before c l l' h = go (ℕ_discrete l l')
    where
      go : Dec (l ≡ l') → length (gather (part c) 0 l) ≤ length (gather (part c) 0 l')
      go (yes e) = rw e (le_refl _)
      go (no e) = omega (arith, gather_less (span_of m len c l l) (part c) l l' (omega arith))

  -- the i-th span of chunk c is that of local number l
  record LocalAt (c i : ℕ) : Type 0 where
    local : ℕ
    listed : local < n
    meets : Meets c local
    at : i ≡ length (gather (part c) 0 local)
    is : span_in (local_spans m cs n len c) i ≡ span_of m len c local (get_or cs local 0)

  local_at : (c i : ℕ) → i < length (local_spans m cs n len c) → LocalAt c i
  local_at c i h =
      let r : Handed (part c) n i = gather_from (part c) n i (rw (chunk_is c) at h) in
      let w = part_meets c r.block r.offset r.inside in
      let e : i ≡ length (gather (part c) 0 r.block) = omega (arith, r.is, w.0) in
      record {
        local = r.block;
        listed = r.below;
        meets = w.1;
        at = e;
        is = rw (chunk_is c) (ap (λ (k : ℕ). span_in (gather (part c) 0 n) k) r.is ∙ gather-at _ (part c) r.block n r.offset r.below r.inside ∙ rw (w.0, part-one c r.block w.1));
      }

  -- in a chunk local numbers strictly ascend
  pub locals_rise : (c i k : ℕ) → i < k → k < length (local_spans m cs n len c) → (span_in (local_spans m cs n len c) i).local < (span_in (local_spans m cs n len c) k).local
  locals_rise c i k h g =
      let x = local_at c i (omega arith) in
      let y = local_at c k g in
      rw (x.is, y.is) (go x y (dec_lt x.local y.local))
    where
      go : (x : LocalAt c i) (y : LocalAt c k) → Dec (x.local < y.local) → x.local < y.local
      go x y (yes p) = p
      go x y (no p) = absurd (omega (arith, x.at, y.at, part-before c y.local x.local (omega arith)))

  abbrev chunks : ℕ
  chunks = chunk_count_of m.nrows len

  abbrev start_of : ℕ → ℕ
  start_of c = length (flat (local_spans m cs n len) c)

  -- the k-th of all is that of chunk c and local number l
  record Stands (k : ℕ) : Type 0 where
    chunk : ℕ
    local : ℕ
    below : chunk < chunks
    listed : local < n
    meets : Meets chunk local
    at : k ≡ start_of chunk + length (gather (part chunk) 0 local)
    is : span_in (all_spans m cs n len) k ≡ span_of m len chunk local (get_or cs local 0)

  stands : (k : ℕ) → k < length (all_spans m cs n len) → Stands k
  stands k h =
      let r : Handed (local_spans m cs n len) chunks k = gather_from (local_spans m cs n len) chunks k h in
      let x : LocalAt r.block r.offset = local_at r.block r.offset r.inside in
      record {
        chunk = r.block;
        local = x.local;
        below = r.below;
        listed = x.listed;
        meets = x.meets;
        at = omega (arith, r.is, x.at);
        is = ap (λ (i : ℕ). span_in (all_spans m cs n len) i) r.is ∙ gather-at _ (local_spans m cs n len) r.block chunks r.offset r.below r.inside ∙ x.is;
      }

  -- and where a column meets a chunk there is one
  module _ (c l : ℕ) (h : c < chunks) (g : l < n) (t : Meets c l) where
    abbrev place_of : ℕ
    place_of = start_of c + length (gather (part c) 0 l)

    inside_chunk : length (gather (part c) 0 l) < length (local_spans m cs n len c)
    inside_chunk =
        let e : length (part c l) ≡ 1 = ap length (part-one c l t) in
        rw (chunk_is c) (omega (arith, gather_less (span_of m len c l l) (part c) l n g))

    place-high : place_of < start_of (c + 1)
    place-high = omega (arith, inside_chunk, gather_less (span_of m len c l l) (local_spans m cs n len) c (c + 1) (omega arith))

    place-there : place_of < length (all_spans m cs n len)
    place-there = omega (arith, inside_chunk, gather_less (span_of m len c l l) (local_spans m cs n len) c chunks h)

    place_is : span_in (all_spans m cs n len) place_of ≡ span_of m len c l (get_or cs l 0)
    place_is =
        let z : length (gather (part c) 0 l) + 0 ≡ length (gather (part c) 0 l) = omega arith in
        let e : length (part c l) ≡ 1 = ap length (part-one c l t) in
        gather-at _ (local_spans m cs n len) c chunks (length (gather (part c) 0 l)) h inside_chunk
        ∙ rw (chunk_is c) (ap (λ (i : ℕ). span_in (gather (part c) 0 n) i) (sym z) ∙ gather-at _ (part c) l n 0 g (omega arith) ∙ rw (part-one c l t))

module _ (m : Columns) (cs : List ℕ) (n len : ℕ) (h : Chunked m.nrows len) (f : (l : ℕ) → l < n → ColumnRises m.ptrs m.rows m.nrows (get_or cs l 0)) where
  -- a place's chunk, of the l-th column
  entry_chunk : (c l p : ℕ) → l < n → place_in m len c p ≡ true → chunk_at m.rows len p ≡ c
  entry_chunk c l p g e = place_chunk m len l (get_or cs l 0) c (rises-runs m.ptrs m.rows m.nrows len (get_or cs l 0) h (f l g)) p e

  -- they stand by chunk, and then by local number
  pub spans-order : (i k : ℕ) → i < k → k < length (all_spans m cs n len)
      → (chunk_of m.rows len (span_in (all_spans m cs n len) i) < chunk_of m.rows len (span_in (all_spans m cs n len) k))
      ⊎ ((chunk_of m.rows len (span_in (all_spans m cs n len) i) ≡ chunk_of m.rows len (span_in (all_spans m cs n len) k))
      × ((span_in (all_spans m cs n len) i).local < (span_in (all_spans m cs n len) k).local))
  spans-order i k g w =
      let x = stands m cs n len i (omega arith) in
      let y = stands m cs n len k w in
      rw (x.is, y.is, first_chunk x.chunk x.local x.listed x.meets, first_chunk y.chunk y.local y.listed y.meets)
      (go x y (dec_lt x.chunk y.chunk) (dec_lt y.chunk x.chunk) (dec_lt x.local y.local))
    where
      first_chunk : (c l : ℕ) → l < n → Meets m cs n len c l → chunk_of m.rows len (span_of m len c l (get_or cs l 0)) ≡ c
      first_chunk c l u t =
          entry_chunk c l (first (place_in m len c) (first_place m (get_or cs l 0)) (end_place m (get_or cs l 0))) u
          (first_bad (place_in m len c) (first_place m (get_or cs l 0)) (end_place m (get_or cs l 0)) (ltb-true _ _ t))

      go : (x : Stands m cs n len i) (y : Stands m cs n len k) → Dec (x.chunk < y.chunk) → Dec (y.chunk < x.chunk) → Dec (x.local < y.local)
          → (x.chunk < y.chunk) ⊎ ((x.chunk ≡ y.chunk) × (x.local < y.local))
      go x y (yes p) _ _ = inl p
      go x y (no p) (yes q) _ =
          absurd (omega (
            arith,
            x.at,
            y.at,
            inside_chunk m cs n len y.chunk y.local y.below y.listed y.meets,
            gather_less (span_of m len 0 0 0) (local_spans m cs n len) y.chunk x.chunk q,
          ))
      go x y (no p) (no q) (yes r) = inr (omega arith, r)
      go x y (no p) (no q) (no r) =
          let e : x.chunk ≡ y.chunk = omega arith in
          let u : i ≡ start_of m cs n len y.chunk + length (gather (part m cs n len y.chunk) 0 x.local) = rw e at x.at in
          absurd (omega (arith, y.at, part-before m cs n len y.chunk y.local x.local (omega arith)))

  -- where no entry is two columns', each lies in exactly one span: that of its chunk and local number
  module _ (p : ℕ) (apart : (k l : ℕ) → EntryIn m cs n k p → EntryIn m cs n l p → k ≡ l) where
    pub in_one : (l : ℕ) → EntryIn m cs n l p → InOne m cs n len (get_or m.rows p 0 / len) l p
    in_one l e = record {
      place = place_of m cs n len c l below e.column meets;
      has = record { there = place-there m cs n len c l below e.column meets; low = rw is here.0; high = rw is here.1 };
      local-is = rw is;
      low = omega arith;
      high = place-high m cs n len c l below e.column meets;
      once = λ k q. once k q (stands m cs n len k q.there);
    }
      where
        c : ℕ
        c = get_or m.rows p 0 / len

        below : c < chunk_count_of m.nrows len
        below = chunk_there len h.some-len m.nrows (get_or m.rows p 0) ((f l e.column).inside.inside.each p e.low e.high).below

        held : place_in m len c p ≡ true
        held = chunk_place m len l (get_or cs l 0) c (rises-runs m.ptrs m.rows m.nrows len (get_or cs l 0) h (f l e.column)) p refl

        meets : Meets m cs n len c l
        meets = some_at (place_in m len c) (first_place m (get_or cs l 0)) (end_place m (get_or cs l 0)) p e.low e.high held

        is : span_in (all_spans m cs n len) (place_of m cs n len c l below e.column meets) ≡ span_of m len c l (get_or cs l 0)
        is = place_is m cs n len c l below e.column meets

        here : ((span_of m len c l (get_or cs l 0)).lo ≤ p) × (p < (span_of m len c l (get_or cs l 0)).hi)
        here = (column-is m cs n len h f c l e.column meets).whole p e held

        once : (k : ℕ) → HasPlace (all_spans m cs n len) k p → Stands m cs n len k → k ≡ place_of m cs n len c l below e.column meets
        once k q x =
            let w = (column-is m cs n len h f x.chunk x.local x.listed x.meets).inside p (rw x.is at q.low) (rw x.is at q.high) in
            let u : x.chunk ≡ c = sym (entry_chunk x.chunk x.local p x.listed w.1) in
            let v : x.local ≡ l = apart x.local l w.0 e in
            rw (← u, ← v) x.at
