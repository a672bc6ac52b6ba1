-- What the functions of src/plan_check.rt show: a lemma for each way that they return, and that looking at each chunk's spans by its first row
-- and its end is what the definitions say. Assumes nothing.
use Rattle.std.proofs.Common.{◌≡◌, ℕ, zero, suc, ◌+◌, ◌-◌, ◌*◌, ◌%◌, ◌^◌, ◌<◌, ◌≤◌, Bool, true, false, cond, not, ◌&&◌, ◌||◌, eqb, ltb, leb, List, [], ◌∷◌, length, get_or, take, drop, sym, refl, ap, ◌∙◌, le_trans, le_of_eq, le_refl, mul-le-mul, zero-add, add-zero, length-take, length-drop, arith, rules, ltb-false, ltb-true, le-ltb, lt-ltb, eq-eqb, ne_eqb, eqb-true, le-leb, leb-false, leb-true}
use native.Mathlib.Decide.{dec_lt}
use borrow.Author.Tests.{lt-leb, not-false}
use Rattle.std.proofs.lemmas.List.{get_or-take, get_or-drop}
use Rattle.ground.specs.First.{first, some, None}
use Rattle.ground.proofs.FirstLaws.{by_call, first_turn, first_stop, first_none, first-low, first-before, first_bad, past_none, none_past, first_same, some_at, some_none, some_first, some_turn, some-done, some_goes, some_stops, some-ends}
use Rattle.ground.proofs.TestLaws.{and_true, or_of, rises_by}
use Rattle.columns.specs.Refusals.{tell, done}
use Rattle.columns.specs.Columns.{Columns, first_in, end_in, falls}
use Rattle.columns.specs.Unchecked.{RunThere}
use Rattle.columns.proofs.CheckLaws.{or_false}
use Rattle.plan.specs.Spans.{in_chunk, Spread}
use Rattle.products.specs.Orders.{spans_told, entry_out, span_bad, chunk_bad, starts_bad, plan_bad}
use Rattle.columns.specs.declared.refusal.Side.{Side}
use Rattle.columns.specs.declared.refusal.Side.TheVariants.{Kept, Eliminated}
use Rattle.columns.specs.Refusals as refusals
use Rattle.products.specs.Side.{eliminated, side_number}
use Rattle.products.specs.PlanCheck.{rows_only, chunk_rows_out, row_out, ends_out, in_column, narrowed, shape_out, shape_out_at, rows_out_at, rows_stop, rows_stop_at, span_out, span_out_at, Risen, SomeThere, FewThere, EntriesThere, StartsThere, SpansThere, ChunkThere, ChunksThere, PlanThere}

or_none : (b : Bool) → (b || false) ≡ b
or_none true = refl
or_none false = refl

or_true : (b : Bool) → (b || true) ≡ true
or_true true = refl
or_true false = refl

-- ---- places

part-at : (l : List ℕ) (a n k : ℕ) → k < n → get_or (take n (drop a l)) k 0 ≡ get_or l (a + k) 0
part-at l a n k h = get_or-take n (drop a l) k 0 h ∙ get_or-drop a l k 0

length-part : (l : List ℕ) (a n : ℕ) → a + n ≤ length l → length (take n (drop a l)) ≡ n
length-part l a n h = simp (length-take, length-drop) (omega arith)

module _ (bad : ℕ → Bool) where
  -- places before k, where the test holds at none, may be left out
  some_from : (lo k hi : ℕ) → lo ≤ k → None bad lo k → some bad k hi ≡ some bad lo hi
  some_from lo k hi l none = go (some bad k hi) refl
    where
      go : (b : Bool) → some bad k hi ≡ b → some bad k hi ≡ some bad lo hi
      go true e =
          let h = ltb-true (first bad k hi) hi e in
          e ∙ sym (some_at bad lo hi (first bad k hi) (le_trans l (first-low bad k hi)) h (first_bad bad k hi h))
      go false e = e ∙ sym (none_past bad lo hi (λ i p q. at i (dec_lt i k) p q))
        where
          at : (i : ℕ) → Dec (i < k) → lo ≤ i → i < hi → bad i ≡ false
          at i (yes h) p q = none i p h
          at i (no h) p q = past_none bad k hi e i (omega arith) q

  -- what holds in the first part holds in the whole, and what does not is left out
  pub some_part : (lo k hi : ℕ) → k ≤ hi → some bad lo k ≡ true → some bad lo hi ≡ true
  some_part lo k hi l e = let h = ltb-true (first bad lo k) k e in some_at bad lo hi (first bad lo k) (first-low bad lo k) (omega (arith, h, l)) (first_bad bad lo k h)

  pub some_past : (lo k hi : ℕ) → lo ≤ k → some bad lo k ≡ false → some bad k hi ≡ some bad lo hi
  some_past lo k hi l e = some_from lo k hi l (past_none bad lo k e)

  -- the first and the last place, and those between them
  some-ends_of : (a b : ℕ) → a < b → some bad a b ≡ ((bad a || bad (b - 1)) || some bad (a + 1) (b - 1))
  some-ends_of a b h = go (bad a) refl (bad (b - 1)) refl (some bad (a + 1) (b - 1)) refl
    where
      go : (s : Bool) → bad a ≡ s → (t : Bool) → bad (b - 1) ≡ t → (u : Bool) → some bad (a + 1) (b - 1) ≡ u → some bad a b ≡ ((s || t) || u)
      go true e t f u g = some_at bad a b a (omega arith) h e
      go false e true f u g = some_at bad a b (b - 1) (omega arith) (omega arith) f
      go false e false f true g =
          let q = ltb-true (first bad (a + 1) (b - 1)) (b - 1) g in
          some_at bad a b (first bad (a + 1) (b - 1)) (omega (arith, first-low bad (a + 1) (b - 1))) (omega arith) (first_bad bad (a + 1) (b - 1) q)
      go false e false f false g = none_past bad a b (λ i p q. at i (dec_lt a i) (dec_lt i (b - 1)) p q)
        where
          at : (i : ℕ) → Dec (a < i) → Dec (i < b - 1) → a ≤ i → i < b → bad i ≡ false
          at i (yes l) (yes m) p q = past_none bad (a + 1) (b - 1) g i (omega arith) m
          at i (yes l) (no m) p q = let z : i ≡ b - 1 = omega arith in rw z f
          at i (no l) m p q = let z : i ≡ a = omega arith in rw z e

-- ---- entries and spans

-- x is what the code subtracted of row r, which wraps where the row is below `from`
pub row-is-out : (from size r x : ℕ) → from + size ≤ 4_294_967_295 → x < 2 ^ 32 → (x + from) % 2 ^ 32 ≡ r → leb size x ≡ (ltb r from || leb (from + size) r)
row-is-out from size r x w h e = go (dec_lt (x + from) (2 ^ 32))
  where
    go : Dec (x + from < 2 ^ 32) → leb size x ≡ (ltb r from || leb (from + size) r)
    go (yes q) =
        let z : r ≡ x + from = omega (arith, e) in
        rw (le-ltb r from (omega arith)) (at (dec_lt x size) z)
      where
        at : Dec (x < size) → r ≡ x + from → leb size x ≡ leb (from + size) r
        at (yes g) z = rw (lt-leb size x g, lt-leb (from + size) r (omega arith))
        at (no g) z = rw (le-leb size x (omega arith), le-leb (from + size) r (omega arith))
    go (no q) =
        let z : r + 2 ^ 32 ≡ x + from = omega (arith, e) in
        rw (lt-ltb r from (omega arith)) (le-leb size x (omega arith))

pub row_told : (rows : List ℕ) (from end p : ℕ) (t : Bool) → t ≡ (ltb (get_or rows p 0) from || leb end (get_or rows p 0)) → t ≡ row_out rows from end p
unfolding row_out
row_told rows from end p t e = e

-- t is what the code was told of the row at place i of the part from lo up to hi
pub part_turn : (rows : List ℕ) (from end lo hi i : ℕ) (b t z : Bool) → RunThere (length rows) lo hi → i < length (take (hi - lo) (drop lo rows))
    → t ≡ (ltb (get_or (take (hi - lo) (drop lo rows)) i 0) from || leb end (get_or (take (hi - lo) (drop lo rows)) i 0))
    → (b || some (row_out rows from end) (lo + i) hi) ≡ z → ((b || t) || some (row_out rows from end) (lo + (i + 1)) hi) ≡ z
part_turn rows from end lo hi i b t z there h e inv =
    let n : i < hi - lo = omega (arith, h, length-part rows lo (hi - lo) (omega (arith, there.order, there.inside))) in
    let q : t ≡ row_out rows from end (lo + i) = row_told rows from end (lo + i) t (rw (part-at rows lo (hi - lo) i n) at e) in
    let k : lo + (i + 1) ≡ lo + i + 1 = omega arith in
    rw k (some_turn (row_out rows from end) b (b || t) (omega arith) inv (ap (λ (u : Bool). b || u) q))

pub ends_are_out : (rows : List ℕ) (from end a b : ℕ) (t : Bool) → t ≡ row_out rows from end a → t ≡ true → true ≡ ends_out rows from end a b
unfolding ends_out
ends_are_out rows from end a b t e q = rw (← e, q)

pub last_is-out : (rows : List ℕ) (from end a b : ℕ) (t u : Bool) → t ≡ row_out rows from end a → t ≡ false → u ≡ row_out rows from end (b - 1) → u ≡ ends_out rows from end a b
unfolding ends_out
last_is-out rows from end a b t u e q f = rw (← e, q) f

-- of a few places, `more` after the first, the first and the last pair by pair: t, u and v are what `ends_out` answered
module _ (rows : List ℕ) (from end more a b : ℕ) (there : SomeThere (length rows) a b) (c : FewThere more a b) (t : Bool) (e : t ≡ ends_out rows from end a b) where
  ends_of : some (row_out rows from end) a b ≡ (t || some (row_out rows from end) (a + 1) (b - 1))
  unfolding ends_out
  ends_of = rw e (some-ends_of (row_out rows from end) a b there.some)

  pub few-first : t ≡ true → true ≡ some (row_out rows from end) a b
  few-first q = rw (ends_of, q)

  module _ (q : t ≡ false) (u : Bool) (f : u ≡ ends_out rows from end (a + 1) (b - 1)) where
    second_of : some (row_out rows from end) a b ≡ (u || some (row_out rows from end) (a + 2) (b - 2))
    unfolding ends_out
    second_of =
        let x : a + 1 + 1 ≡ a + 2 = omega arith in
        let y : b - 1 - 1 ≡ b - 2 = omega arith in
        rw (ends_of, q) (some-ends_of (row_out rows from end) (a + 1) (b - 1) (omega (arith, c.count, c.several)) ∙ rw (f, x, y))

    pub few-second : u ≡ true → true ≡ some (row_out rows from end) a b
    few-second p = rw (second_of, p)

    module _ (p : u ≡ false) where
      pub few_four : more ≤ 3 → false ≡ some (row_out rows from end) a b
      few_four l = rw (second_of, p) (sym (some_none (row_out rows from end) (a + 2) (b - 2) (omega (arith, c.count))))

      pub few_six : (v : Bool) → 3 < more → v ≡ ends_out rows from end (a + 2) (b - 2) → v ≡ some (row_out rows from end) a b
      unfolding ends_out
      few_six v l g =
          rw (second_of, p, some-ends_of (row_out rows from end) (a + 2) (b - 2) (omega (arith, c.count)), some_none (row_out rows from end) (a + 2 + 1) (b - 2 - 1) (omega (arith, c.count, c.few)), ← g) (sym (or_none v))

module _ (ptrs : List ℕ) (j a b : ℕ) where
  -- n is how many columns there are, first where column j begins, and end where it ends, as the code read them
  module _ (n : ℕ) (count : n ≡ length ptrs - 1) where
    pub column_none : n ≤ j → false ≡ in_column ptrs j a b
    unfolding in_column
    column_none h = rw (le-ltb j (length ptrs - 1) (rw count at h))

    module _ (first : ℕ) (there : j < n) (e : first ≡ first_in ptrs j) where
      pub column-low : a < first → false ≡ in_column ptrs j a b
      unfolding in_column
      column-low h = rw (lt-ltb j (length ptrs - 1) (rw count at there), lt-leb (first_in ptrs j) a (rw e at h))

      pub column-high : (end : ℕ) → first ≤ a → end ≡ end_in ptrs j → leb b end ≡ in_column ptrs j a b
      unfolding in_column
      column-high end h q = rw (lt-ltb j (length ptrs - 1) (rw count at there), le-leb (first_in ptrs j) a (rw e at h), q)

  record Within : Type 0 where
    column : j < length ptrs - 1
    low : first_in ptrs j ≤ a
    high : b ≤ end_in ptrs j

  within_of : in_column ptrs j a b ≡ true → Within
  unfolding in_column
  within_of e =
      let p = and_true (ltb j (length ptrs - 1)) (leb (first_in ptrs j) a && leb b (end_in ptrs j)) e in
      let q = and_true (leb (first_in ptrs j) a) (leb b (end_in ptrs j)) p.1 in
      record { column = ltb-true _ _ p.0; low = leb-true _ _ q.0; high = leb-true _ _ q.1 }

-- where rows rise, the first and the last of a run in a column tell of all
module _ (ptrs rows : List ℕ) (from end j a b : ℕ) (risen : Risen ptrs rows) (there : SomeThere (length rows) a b) (w : Within ptrs j a b) where
  above : (p : ℕ) → a ≤ p → p < b → get_or rows a 0 ≤ get_or rows p 0
  above p l h = go (dec_lt a p)
    where
      go : Dec (a < p) → get_or rows a 0 ≤ get_or rows p 0
      go (yes q) = omega (arith, risen.rise j a p w.column w.low q (omega (arith, w.high)))
      go (no q) = let e : a ≡ p = omega arith in le_of_eq (ap (λ (k : ℕ). get_or rows k 0) e)

  below : (p : ℕ) → a ≤ p → p < b → get_or rows p 0 ≤ get_or rows (b - 1) 0
  below p l h = go (dec_lt p (b - 1))
    where
      go : Dec (p < b - 1) → get_or rows p 0 ≤ get_or rows (b - 1) 0
      go (yes q) = omega (arith, risen.rise j p (b - 1) w.column (omega (arith, w.low)) q (omega (arith, w.high)))
      go (no q) = let e : p ≡ b - 1 = omega arith in le_of_eq (ap (λ (k : ℕ). get_or rows k 0) e)

  first_out : ltb (get_or rows a 0) from ≡ true → some (row_out rows from end) a b ≡ true
  unfolding row_out
  first_out e = some_at (row_out rows from end) a b a (omega arith) there.some (rw e)

  last_out : leb end (get_or rows (b - 1) 0) ≡ true → some (row_out rows from end) a b ≡ true
  unfolding row_out
  last_out e = some_at (row_out rows from end) a b (b - 1) (omega (arith, there.some)) (omega (arith, there.some)) (rw e (or_true (ltb (get_or rows (b - 1) 0) from)))

  none_out : ltb (get_or rows a 0) from ≡ false → leb end (get_or rows (b - 1) 0) ≡ false → some (row_out rows from end) a b ≡ false
  unfolding row_out
  none_out e q =
      none_past (row_out rows from end) a b (λ p l h. rw (le-ltb (get_or rows p 0) from (omega (arith, ltb-false (get_or rows a 0) from e, above p l h)), lt-leb end (get_or rows p 0) (omega (arith, leb-false end (get_or rows (b - 1) 0) q, below p l h))))

  ends_by : (t u : Bool) → ltb (get_or rows a 0) from ≡ t → leb end (get_or rows (b - 1) 0) ≡ u → (t || u) ≡ some (row_out rows from end) a b
  ends_by true u e q = sym (first_out e)
  ends_by false true e q = sym (last_out q)
  ends_by false false e q = sym (none_out e q)

-- t is what `in_column` answered
pub ends-out : (ptrs rows : List ℕ) (from end j a b : ℕ) (t : Bool) → Risen ptrs rows → RunThere (length rows) a b → a < b → t ≡ in_column ptrs j a b → t ≡ true
    → (ltb (get_or rows a 0) from || leb end (get_or rows (b - 1) 0)) ≡ some (row_out rows from end) a b
ends-out ptrs rows from end j a b t risen there h e q = ends_by ptrs rows from end j a b risen (record { some = h; there = there.inside }) (within_of ptrs j a b (sym e ∙ q)) (ltb (get_or rows a 0) from) (leb end (get_or rows (b - 1) 0)) refl refl

pub no_rows-out : (rows : List ℕ) (from end a b : ℕ) → b ≤ a → false ≡ some (row_out rows from end) a b
no_rows-out rows from end a b h = sym (some_none (row_out rows from end) a b h)

-- ---- spans of a few entries

-- more is what the code subtracted, which wraps where there is no entry
module _ (rows : List ℕ) (from end a b more : ℕ) (small : more < 2 ^ 32) (e : (more + 1) % 2 ^ 32 ≡ b - a) where
  stops_by : a < b → b - a ≤ 6 → some (row_out rows from end) a b ≡ rows_stop rows from end a b
  unfolding rows_stop
  stops_by h m = rw (lt-leb b a h, le-ltb 6 (b - a) m)

  pub stops_many : 5 < more → true ≡ rows_stop rows from end a b
  unfolding rows_stop
  stops_many m = go (dec_lt a b)
    where
      go : Dec (a < b) → true ≡ (leb b a || (ltb 6 (b - a) || some (row_out rows from end) a b))
      go (yes h) = rw (lt-leb b a h, lt-ltb 6 (b - a) (omega (arith, small, e)))
      go (no h) = rw (le-leb b a (omega arith))

  module _ (x y : ℕ) (i : x ≡ a) (j : y ≡ b) where
    pub more_some : (n : ℕ) → RunThere n a b → more ≤ 5 → SomeThere n x y
    more_some n r m = rw (i, j) (record { some = omega (arith, small, e); there = r.inside })

    pub more_few : 1 < more → more ≤ 5 → FewThere more x y
    more_few l m = rw (i, j) (record { count = omega (arith, small, e); several = l; few = m })

    -- t is what `ends_out` answered, or `few_out`
    pub stops_ends : (t : Bool) → more ≤ 1 → t ≡ ends_out rows from end x y → t ≡ rows_stop rows from end a b
    unfolding ends_out
    stops_ends t m f =
        rw (i, j) at f ∙ sym (some-ends_of (row_out rows from end) a b (omega (arith, small, e)) ∙ rw (some_none (row_out rows from end) (a + 1) (b - 1) (omega (arith, small, e))) (or_none _)) ∙ stops_by (omega (arith, small, e)) (omega (arith, small, e))

    pub stops_rows : (t : Bool) → 1 < more → more ≤ 5 → t ≡ some (row_out rows from end) x y → t ≡ rows_stop rows from end a b
    stops_rows t l m f = rw (i, j) at f ∙ stops_by (omega (arith, small, e)) (omega (arith, small, e))

-- spans that do not stop are good
module _ (rows : List ℕ) (from end : ℕ) (lo hi : List ℕ) where
  stops_out : (k : ℕ) → rows_stop_at rows from end lo hi k ≡ false → rows_out_at rows from end lo hi k ≡ false
  unfolding rows_stop_at rows_stop rows_out_at
  stops_out k e =
      let a = get_or lo k 0 in
      let b = get_or hi k 0 in
      let bad = some (row_out rows from end) a b in
      (or_false (ltb 6 (b - a)) bad (or_false (leb b a) (ltb 6 (b - a) || bad) e).1).1

  -- so the search may go on at the next that does
  pub from_stop : (at k n : ℕ) (z : Bool) → at ≤ k → None (rows_stop_at rows from end lo hi) at k → some (rows_out_at rows from end lo hi) at n ≡ z → some (rows_out_at rows from end lo hi) k n ≡ z
  from_stop at k n z l none inv = some_from (rows_out_at rows from end lo hi) at k n l (λ i p q. stops_out i (none i p q)) ∙ inv

  pub no_stop : (at n : ℕ) (z : Bool) → None (rows_stop_at rows from end lo hi) at n → some (rows_out_at rows from end lo hi) at n ≡ z → false ≡ z
  no_stop at n z none inv = sym (none_past (rows_out_at rows from end lo hi) at n (λ i p q. stops_out i (none i p q))) ∙ inv

  -- t is what `rows_out` answered of a and b as the code read them
  pub span_told : (k a b : ℕ) (t z : Bool) → a ≡ get_or lo k 0 → b ≡ get_or hi k 0 → t ≡ some (row_out rows from end) a b → t ≡ z → rows_out_at rows from end lo hi k ≡ z
  unfolding rows_out_at
  span_told k a b t z p q e u = rw (← p, ← q) (sym e ∙ u)

module _ (n : ℕ) (lo hi : List ℕ) (at last : ℕ) (r : EntriesThere n lo hi at last) where
  pub run_at_lem : (k : ℕ) → at ≤ k → k < last → RunThere n (get_or lo k 0) (get_or hi k 0)
  run_at_lem k l h = r.each k l h

  pub run_read : (k a b : ℕ) → at ≤ k → k < last → a ≡ get_or lo k 0 → b ≡ get_or hi k 0 → RunThere n a b
  run_read k a b l h e f = rw (e, f) (r.each k l h)

  pub entries_from : (k : ℕ) → at ≤ k → EntriesThere n lo hi k last
  entries_from k l = record { lo-there = r.lo-there; hi-there = r.hi-there; each = λ i p q. r.each i (omega arith) q }

  pub runs_later : (k : ℕ) → at ≤ k → EntriesThere n lo hi (k + 1) last
  runs_later k l = entries_from (k + 1) (omega arith)

-- ---- spans

pub narrow_more : (n : ℕ) → 4_294_967_295 < n → 4_294_967_295 ≡ narrowed n
unfolding narrowed
narrow_more n h = rw (lt-ltb 4_294_967_295 n h)

pub narrow_same : (n : ℕ) → n ≤ 4_294_967_295 → n ≡ narrowed n
unfolding narrowed
narrow_same n h = rw (le-ltb 4_294_967_295 n h)

narrow_above : (n y : ℕ) → y < 2 ^ 32 → ltb (narrowed n) y ≡ ltb n y
unfolding narrowed
narrow_above n y h = go (dec_lt 4_294_967_295 n)
  where
    go : Dec (4_294_967_295 < n) → ltb (cond (ltb 4_294_967_295 n) 4_294_967_295 n) y ≡ ltb n y
    go (yes q) = rw (lt-ltb 4_294_967_295 n q, le-ltb 4_294_967_295 y (omega arith), le-ltb n y (omega arith))
    go (no q) = rw (le-ltb 4_294_967_295 n (omega arith))

above_last : (dof l : ℕ) → 0 < dof → ltb (dof - 1) l ≡ leb dof l
above_last dof l h = go (dec_lt (dof - 1) l)
  where
    go : Dec (dof - 1 < l) → ltb (dof - 1) l ≡ leb dof l
    go (yes q) = rw (lt-ltb (dof - 1) l q, le-leb dof l (omega arith))
    go (no q) = rw (le-ltb (dof - 1) l (omega arith), lt-leb dof l (omega arith))

-- m and t are what `narrow` answered
pub shape_told : (n dof a b l m t : ℕ) → 0 < dof → m ≡ narrowed n → t ≡ narrowed (dof - 1) → b < 2 ^ 32 → l < 2 ^ 32
    → (ltb b a || (ltb m b || ltb t l)) ≡ shape_out n dof a b l
unfolding shape_out
shape_told n dof a b l m t h e f p q = rw (e, f, narrow_above n b p, narrow_above (dof - 1) l q, above_last dof l h)

module _ (n dof : ℕ) (lo hi local : List ℕ) where
  -- t is what `shape_bad` answered
  pub shape_is_bad : (k : ℕ) (t : Bool) → t ≡ shape_out n dof (get_or lo k 0) (get_or hi k 0) (get_or local k 0) → t ≡ shape_out_at n dof lo hi local k
  unfolding shape_out_at
  shape_is_bad k t e = e

  all_out : dof ≡ 0 → (k : ℕ) → shape_out_at n dof lo hi local k ≡ true
  unfolding shape_out_at shape_out
  all_out e k = rw (e, le-leb 0 (get_or local k 0) (omega arith)) (go (ltb (get_or hi k 0) (get_or lo k 0)) (ltb n (get_or hi k 0)))
    where
      go : (x y : Bool) → (x || (y || true)) ≡ true
      go true y = refl
      go false true = refl
      go false false = refl

  pub no_places : (first last : ℕ) → dof ≡ 0 → ltb first last ≡ some (shape_out_at n dof lo hi local) first last
  no_places first last e = go (dec_lt first last)
    where
      go : Dec (first < last) → ltb first last ≡ some (shape_out_at n dof lo hi local) first last
      go (yes h) = lt-ltb first last h ∙ sym (some_at (shape_out_at n dof lo hi local) first last first (omega arith) h (all_out e first))
      go (no h) = le-ltb first last (omega arith) ∙ sym (some_none (shape_out_at n dof lo hi local) first last (omega arith))

-- a span is bad by its shape or by its rows; t is what `some_shape_bad` answered
module _ (rows : List ℕ) (from end dof : ℕ) (lo hi local : List ℕ) where
  abbrev shape : ℕ → Bool
  shape = shape_out_at (length rows) dof lo hi local

  span_splits : (k : ℕ) → span_out_at rows from end dof lo hi local k ≡ (shape_out_at (length rows) dof lo hi local k || rows_out_at rows from end lo hi k)
  unfolding span_out_at span_out shape_out_at shape_out rows_out_at
  span_splits k = go (ltb (get_or hi k 0) (get_or lo k 0)) (ltb (length rows) (get_or hi k 0)) (leb dof (get_or local k 0)) (some (row_out rows from end) (get_or lo k 0) (get_or hi k 0))
    where
      go : (x y z w : Bool) → (x || (y || (z || w))) ≡ ((x || (y || z)) || w)
      go true y z w = refl
      go false true z w = refl
      go false false z w = refl

  module _ (at last : ℕ) (t : Bool) (e : t ≡ some (shape_out_at (length rows) dof lo hi local) at last) where
    pub spans_shape : t ≡ true → true ≡ some (span_out_at rows from end dof lo hi local) at last
    spans_shape q =
        let h = ltb-true (first shape at last) last (sym e ∙ q) in
        sym (some_at (span_out_at rows from end dof lo hi local) at last (first shape at last) (first-low shape at last) h (span_splits (first shape at last) ∙ rw (first_bad shape at last h)))

    module _ (q : t ≡ false) where
      pub spans-rows : (u : Bool) → u ≡ some (rows_out_at rows from end lo hi) at last → u ≡ some (span_out_at rows from end dof lo hi local) at last
      spans-rows u f =
          f ∙ rw (first_same (rows_out_at rows from end lo hi) (span_out_at rows from end dof lo hi local) at last (λ i l h. sym (span_splits i ∙ rw (past_none shape at last (sym e ∙ q) i l h))))

      pub spans-run : SpansThere (length lo) (length hi) (length local) last → EntriesThere (length rows) lo hi at last
      unfolding shape_out_at shape_out
      spans-run s = record {
        lo-there = s.lo;
        hi-there = s.hi;
        each = λ k l h.
            let a = get_or lo k 0 in
            let b = get_or hi k 0 in
            let g = past_none shape at last (sym e ∙ q) k l h in
            let x = or_false (ltb b a) (ltb (length rows) b || leb dof (get_or local k 0)) g in
            let y = or_false (ltb (length rows) b) (leb dof (get_or local k 0)) x.1 in
            record { order = ltb-false b a x.0; inside = ltb-false (length rows) b y.0 };
      }

-- ---- chunks

module _ (rows : List ℕ) (len c : ℕ) where
  entry-is-out : (p : ℕ) → row_out rows (c * len) (c * len + len) p ≡ entry_out (rows_only rows) len c p
  unfolding row_out entry_out in_chunk
  entry-is-out p = let e : (c + 1) * len ≡ c * len + len = omega arith in rw e (go (dec_lt (get_or rows p 0) (c * len)) (dec_lt (get_or rows p 0) (c * len + len)))
    where
      go : Dec (get_or rows p 0 < c * len) → Dec (get_or rows p 0 < c * len + len)
          → (ltb (get_or rows p 0) (c * len) || leb (c * len + len) (get_or rows p 0)) ≡ not (leb (c * len) (get_or rows p 0) && ltb (get_or rows p 0) (c * len + len))
      go (yes h) _ = rw (lt-ltb (get_or rows p 0) (c * len) h, lt-leb (c * len) (get_or rows p 0) h)
      go (no h) (yes q) = rw (le-ltb (get_or rows p 0) (c * len) (omega arith), le-leb (c * len) (get_or rows p 0) (omega arith), lt-ltb (get_or rows p 0) (c * len + len) q, lt-leb (c * len + len) (get_or rows p 0) q)
      go (no h) (no q) =
          rw (le-ltb (get_or rows p 0) (c * len) (omega arith), le-leb (c * len) (get_or rows p 0) (omega arith), le-ltb (get_or rows p 0) (c * len + len) (omega arith), le-leb (c * len + len) (get_or rows p 0) (omega arith))

  module _ (dof : ℕ) (s : Spread) where
    span_is_bad : (k : ℕ) → span_out_at rows (c * len) (c * len + len) dof s.lo s.hi s.local k ≡ span_bad (rows_only rows) dof len s c k
    unfolding span_out_at span_out span_bad
    span_is_bad k = rw (first_same (row_out rows (c * len) (c * len + len)) (entry_out (rows_only rows) len c) (get_or s.lo k 0) (get_or s.hi k 0) (λ p _ _. entry-is-out p))

    -- first and last are what the code read
    pub chunk_told_lem : (first last : ℕ) (t : Bool) → first ≡ get_or s.starts c 0 → last ≡ get_or s.starts (c + 1) 0
        → t ≡ some (span_out_at rows (c * len) (c * len + len) dof s.lo s.hi s.local) first last → t ≡ chunk_bad (rows_only rows) dof len s c
    unfolding chunk_bad
    chunk_told_lem first last t p q e =
        e ∙ rw (p, q, first_same (span_out_at rows (c * len) (c * len + len) dof s.lo s.hi s.local) (span_bad (rows_only rows) dof len s c) (get_or s.starts c 0) (get_or s.starts (c + 1) 0) (λ k _ _. span_is_bad k))

pub chunk_window : (len : ℕ) (starts : List ℕ) (nlo nhi nlocal c : ℕ) → ChunkThere len starts nlo nhi nlocal c → c * len + len ≤ 4_294_967_295
chunk_window len starts nlo nhi nlocal c h = h.small

pub chunk_rows_told : (rows : List ℕ) (len c : ℕ) (s : Spread) (first last : ℕ) (t : Bool) → first ≡ get_or s.starts c 0 → last ≡ get_or s.starts (c + 1) 0
    → t ≡ some (rows_out_at rows (c * len) (c * len + len) s.lo s.hi) first last → t ≡ chunk_rows_out rows len s c
unfolding chunk_rows_out
chunk_rows_told rows len c s first last t p q e = e ∙ rw (p, q)

pub chunk_spans_lem : (len : ℕ) (starts : List ℕ) (nlo nhi nlocal c last : ℕ) → ChunkThere len starts nlo nhi nlocal c → last ≡ get_or starts (c + 1) 0 → SpansThere nlo nhi nlocal last
chunk_spans_lem len starts nlo nhi nlocal c last h e = rw e h.spans

pub chunk_at_lem : {len chunks : ℕ} {starts : List ℕ} {nlo nhi nlocal c : ℕ} → ChunksThere len chunks starts nlo nhi nlocal → c < chunks → ChunkThere len starts nlo nhi nlocal c
chunk_at_lem {c = c} h l = h.each c l

-- ---- starts

module _ (chunks : ℕ) (starts : List ℕ) (n : ℕ) where
  pub starts_first : (get_or starts 0 0 ≡ 0 → ⊥) → true ≡ starts_bad chunks starts n
  unfolding starts_bad
  starts_first h = rw (ne_eqb (get_or starts 0 0) 0 h)

  -- t is what the test of the pointers answered of the starts
  module _ (t : Bool) (h : get_or starts 0 0 ≡ 0) (there : StartsThere (length starts) chunks) (call : t ≡ some (falls starts) 0 (length starts - 1)) where
    falls_are : t ≡ some (falls starts) 0 chunks
    falls_are = let e : length starts - 1 ≡ chunks = omega (arith, there.there) in rw e at call

    pub starts_fall : t ≡ true → true ≡ starts_bad chunks starts n
    unfolding starts_bad
    starts_fall q = rw (eq-eqb (get_or starts 0 0) 0 h, ← falls_are, q)

    pub starts_end : (k : ℕ) → t ≡ false → k ≡ get_or starts chunks 0 → not (eqb k n) ≡ starts_bad chunks starts n
    unfolding starts_bad
    starts_end k q p = rw (eq-eqb (get_or starts 0 0) 0 h, ← falls_are, q, ← p)

-- starts that rise from 0 to n without falling
pub record Rising (starts : List ℕ) (chunks n : ℕ) : Type 0 where
  pub begins : get_or starts 0 0 ≡ 0
  pub rises : (c : ℕ) → c < chunks → get_or starts c 0 ≤ get_or starts (c + 1) 0
  pub ends : get_or starts chunks 0 ≡ n

pub starts-rise : (chunks : ℕ) (starts : List ℕ) (n : ℕ) → starts_bad chunks starts n ≡ false → Rising starts chunks n
unfolding starts_bad falls
starts-rise chunks starts n e =
    let a = or_false (not (eqb (get_or starts 0 0) 0)) (some (falls starts) 0 chunks || not (eqb (get_or starts chunks 0) n)) e in
    let b = or_false (some (falls starts) 0 chunks) (not (eqb (get_or starts chunks 0) n)) a.1 in
    record {
      begins = eqb-true _ _ (not-false _ a.0);
      rises = λ c h. ltb-false _ _ (past_none (falls starts) 0 chunks b.0 c (omega arith) h);
      ends = eqb-true _ _ (not-false _ b.1);
    }

module _ (starts : List ℕ) (chunks n : ℕ) (r : Rising starts chunks n) where
  -- each of them is at most n
  pub rising_within : (c : ℕ) → c ≤ chunks → get_or starts c 0 ≤ n
  rising_within c l = let e : c + (chunks - c) ≡ chunks = omega arith in le_trans (rises_by starts chunks r.rises c (chunks - c) (omega arith)) (le_of_eq (ap (λ (k : ℕ). get_or starts k 0) e ∙ r.ends))

  pub record Between (k : ℕ) : Type 0 where
    pub chunk : ℕ
    pub there : chunk < chunks
    pub low : get_or starts chunk 0 ≤ k
    pub high : k < get_or starts (chunk + 1) 0

  -- and each number below n lies between two
  find : (k i : ℕ) → i ≤ chunks → k < get_or starts i 0 → Between k
  find k zero l h = absurd (omega (arith, r.begins))
  find k (suc i) l h = go (dec_lt k (get_or starts i 0)) (find k i (omega arith))
    where
      go : Dec (k < get_or starts i 0) → (k < get_or starts i 0 → Between k) → Between k
      go (yes p) ih = ih p
      go (no p) ih = let e : i + 1 ≡ suc i = omega arith in record { chunk = i; there = omega arith; low = omega arith; high = rw e h }

  pub rising_find : (k : ℕ) → k < n → Between k
  rising_find k h = find k chunks (le_refl chunks) (rw r.ends h)

-- ---- the whole

module _ (len chunks : ℕ) (starts : List ℕ) (nlo nhi nlocal : ℕ) (p : PlanThere len chunks (length starts) nlo nhi nlocal) where
  pub plan-starts : StartsThere (length starts) chunks
  plan-starts = record { there = p.starts }

  pub plan_chunks : (t : Bool) → t ≡ starts_bad chunks starts nlo → t ≡ false → ChunksThere len chunks starts nlo nhi nlocal
  plan_chunks t e q =
      let r = starts-rise chunks starts nlo (sym e ∙ q) in
      record {
        each = λ c h.
            let w = rising_within starts chunks nlo r (c + 1) (omega arith) in
            let u : suc c * len ≤ chunks * len = mul-le-mul h (le_refl len) in
            let v : suc c * len ≡ c * len + len = omega arith in
            record {
              there = omega (arith, p.starts);
              small = omega (arith, p.small);
              spans = record { lo = w; hi = rw p.hi w; local = rw p.local w };
            };
      }

side_told : (side : Side) → refusals.side_number side ≡ side_number (eliminated side)
side_told Kept = refl
side_told Eliminated = refl

-- where the starts rise, the spans' shapes and the chunks' rows tell whether a chunk is bad
module _ (rows : List ℕ) (dof len chunks : ℕ) (s : Spread) (r : Rising s.starts chunks (length s.lo)) where
  abbrev shapes : ℕ → Bool
  shapes = shape_out_at (length rows) dof s.lo s.hi s.local

  span_bad_by : (c k : ℕ) → span_bad (rows_only rows) dof len s c k ≡ (shapes k || rows_out_at rows (c * len) (c * len + len) s.lo s.hi k)
  span_bad_by c k = sym (span_is_bad rows len c dof s k) ∙ span_splits rows (c * len) (c * len + len) dof s.lo s.hi s.local k

  -- a span whose shape is bad lies in a chunk, which is bad then
  shape_in_chunk : some shapes 0 (length s.lo) ≡ true → some (chunk_bad (rows_only rows) dof len s) 0 chunks ≡ true
  unfolding chunk_bad
  shape_in_chunk e =
      let k = first shapes 0 (length s.lo) in
      let h = ltb-true k (length s.lo) e in
      let b = rising_find s.starts chunks (length s.lo) r k h in
      let z : span_bad (rows_only rows) dof len s b.chunk k ≡ true = span_bad_by b.chunk k ∙ rw (first_bad shapes 0 (length s.lo) h) in
      some_at (chunk_bad (rows_only rows) dof len s) 0 chunks b.chunk (omega arith) b.there
      (some_at (span_bad (rows_only rows) dof len s b.chunk) (get_or s.starts b.chunk 0) (get_or s.starts (b.chunk + 1) 0) k b.low b.high z)

  -- without one a chunk is bad by its rows alone
  module _ (e : some shapes 0 (length s.lo) ≡ false) where
    chunk_by_rows : (c : ℕ) → c < chunks → chunk_rows_out rows len s c ≡ chunk_bad (rows_only rows) dof len s c
    unfolding chunk_bad chunk_rows_out
    chunk_by_rows c h =
        let w = rising_within s.starts chunks (length s.lo) r (c + 1) (omega arith) in
        rw (first_same (rows_out_at rows (c * len) (c * len + len) s.lo s.hi) (span_bad (rows_only rows) dof len s c) (get_or s.starts c 0) (get_or s.starts (c + 1) 0)
        (λ k l g. sym (span_bad_by c k ∙ rw (past_none shapes 0 (length s.lo) e k (omega arith) (omega (arith, g, w))))))

    chunks_by_rows : some (chunk_rows_out rows len s) 0 chunks ≡ some (chunk_bad (rows_only rows) dof len s) 0 chunks
    chunks_by_rows = rw (first_same (chunk_rows_out rows len s) (chunk_bad (rows_only rows) dof len s) 0 chunks (λ c _ h. chunk_by_rows c h))

module _ (side : Side) (m : Columns) (dof len chunks : ℕ) (s : Spread) (t : Bool) (call : t ≡ starts_bad chunks s.starts (length s.lo)) where
  pub plan-falls : (n : ℕ) → t ≡ true → n ≡ refusals.side_number side → tell 13 (n ∷ []) ≡ spans_told (eliminated side) m dof len chunks s
  unfolding plan_bad starts_bad
  plan-falls n q e = rw (sym call ∙ q, e, side_told side)

  module _ (q : t ≡ false) (u : Bool) (chunk : u ≡ some (chunk_bad m dof len s) 0 chunks) where
    pub plan-out : (n : ℕ) → u ≡ true → n ≡ refusals.side_number side → tell 13 (n ∷ []) ≡ spans_told (eliminated side) m dof len chunks s
    unfolding plan_bad starts_bad
    plan-out n z e = rw (sym call ∙ q, ← chunk, z, e, side_told side)

    pub plan-done : u ≡ false → done ≡ spans_told (eliminated side) m dof len chunks s
    unfolding plan_bad starts_bad
    plan-done z = rw (sym call ∙ q, ← chunk, z)

-- v is what was told of the shapes, and u of the rows
module _ (side : Side) (rows : List ℕ) (dof len chunks : ℕ) (s : Spread) (t : Bool) (call : t ≡ starts_bad chunks s.starts (length s.lo)) (q : t ≡ false)
    (v : Bool) (shape : v ≡ some (shape_out_at (length rows) dof s.lo s.hi s.local) 0 (length s.lo)) where
  pub plan-misshapen : (n : ℕ) → v ≡ true → n ≡ refusals.side_number side → tell 13 (n ∷ []) ≡ spans_told (eliminated side) (rows_only rows) dof len chunks s
  plan-misshapen n z e =
      plan-out side (rows_only rows) dof len chunks s t call q true
      (sym (shape_in_chunk rows dof len chunks s (starts-rise chunks s.starts (length s.lo) (sym call ∙ q)) (sym shape ∙ z))) n refl e

  pub plan_entries : v ≡ false → SpansThere (length s.lo) (length s.hi) (length s.local) (length s.lo) → EntriesThere (length rows) s.lo s.hi 0 (length s.lo)
  plan_entries z there = spans-run rows 0 0 dof s.lo s.hi s.local 0 (length s.lo) v shape z there

  module _ (p : v ≡ false) (u : Bool) (chunk : u ≡ some (chunk_rows_out rows len s) 0 chunks) where
    by_rows : u ≡ some (chunk_bad (rows_only rows) dof len s) 0 chunks
    by_rows = chunk ∙ chunks_by_rows rows dof len chunks s (starts-rise chunks s.starts (length s.lo) (sym call ∙ q)) (sym shape ∙ p)

    pub plan-strays : (n : ℕ) → u ≡ true → n ≡ refusals.side_number side → tell 13 (n ∷ []) ≡ spans_told (eliminated side) (rows_only rows) dof len chunks s
    plan-strays n z e = plan-out side (rows_only rows) dof len chunks s t call q u by_rows n z e

    pub plan-holds : u ≡ false → done ≡ spans_told (eliminated side) (rows_only rows) dof len chunks s
    plan-holds z = plan-done side (rows_only rows) dof len chunks s t call q u by_rows z

pub ruleset planning = (
  rules,
  by_call,
  first_turn,
  first_stop,
  some_goes,
  some_stops,
  some-ends,
  some_turn,
  some-done,
  or_of,
  row-is-out,
  row_told,
  ends_are_out,
  last_is-out,
  few-first,
  few-second,
  few_four,
  few_six,
  more_some,
  more_few,
  stops_many,
  stops_ends,
  stops_rows,
  run_at_lem,
  run_read,
  entries_from,
  no_stop,
  span_told,
  narrow_more,
  narrow_same,
  shape_told,
  shape_is_bad,
  no_places,
  spans_shape,
  spans-rows,
  spans-run,
  chunk_window,
  column_none,
  column-low,
  column-high,
  ends-out,
  no_rows-out,
  chunk_rows_told,
  chunk_spans_lem,
  chunk_at_lem,
  starts_first,
  starts_fall,
  starts_end,
  plan-starts,
  plan_chunks,
  plan-falls,
  plan-misshapen,
  plan-strays,
  plan-holds,
)
