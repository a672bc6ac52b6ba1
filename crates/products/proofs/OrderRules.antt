-- What the functions of src/order.rt and src/spans_sweep.rt show: a lemma for each way that they return, and what the test of an order's places is
-- worth while the progress counts them. Assumes nothing.
use Rattle.std.proofs.Common.{◌≡◌, ℕ, ◌+◌, ◌-◌, ◌<◌, ◌≤◌, Bool, true, false, not, ◌&&◌, ltb, List, [], ◌∷◌, length, get_or, set, replicate, sym, refl, ap, ◌∙◌, add-one, arith, rules, ltb-true, le-ltb, lt-ltb, eq-eqb, ne_eqb}
use native.Mathlib.Decide.{dec_lt}
use lib.ListN.{length-replicate}
use lib.Ieee.{Float, nan}
use borrow.Author.Tests.{not-false}
use Rattle.ground.specs.First.{first, some}
use Rattle.ground.specs.Gather.{gather}
use Rattle.ground.specs.Buckets.{filled}
use Rattle.ground.proofs.FirstLaws.{by_call, first_same, first-high, first_turn, first_stop, first_end}
use Rattle.ground.proofs.FoldLaws.{fold_turn, fold_done}
use Rattle.ground.proofs.GatherLaws.{length-list_of, get_or-list_of}
use Rattle.ground.proofs.ListLaws.{written_all, set-list_of, list_of_all}
use Rattle.columns.specs.declared.unchecked.Sign.{Sign}
use Rattle.columns.specs.Refusals.{Told, tell, done}
use Rattle.columns.specs.Sums.{landed, swept_on}
use Rattle.columns.specs.JacobianOps.{landings}
use Rattle.plan.specs.Spans.{Spread}
use Rattle.products.specs.Orders.{span_count, span_terms, served, has_next, place_bad, chunk_left, bad_order}
use Rattle.products.specs.OrderWalk.{entries_only, spans_only, starts_only, left_at, Counted, counts, counted_to, tested_order, Work, work, stepped, place_terms, ran_to, ran_order, SpanThere, SpanFits, SpansFit, StartsFit, LeftFits, CountFits, StepFits, RunFits}
use Rattle.ground.proofs.FirstLaws.{some_goes, some_stops, some-ends}

-- ---- spans left

-- a, d and b are the chunk's start, its progress and its end as the code read them
pub left_read : (starts progress : List ℕ) (c a d b : ℕ) → a ≡ get_or starts c 0 → d ≡ get_or progress c 0 → b ≡ get_or starts (c + 1) 0 → ltb (a + d) b ≡ left_at starts progress c
unfolding left_at span_count
left_read starts progress c a d b p q r = rw (p, q, r) (go (dec_lt (get_or starts c 0 + get_or progress c 0) (get_or starts (c + 1) 0)))
  where
    go : Dec (get_or starts c 0 + get_or progress c 0 < get_or starts (c + 1) 0)
        → ltb (get_or starts c 0 + get_or progress c 0) (get_or starts (c + 1) 0) ≡ ltb (get_or progress c 0) (get_or starts (c + 1) 0 - get_or starts c 0)
    go (yes h) = lt-ltb _ _ h ∙ sym (lt-ltb (get_or progress c 0) (get_or starts (c + 1) 0 - get_or starts c 0) (omega arith))
    go (no h) = le-ltb (get_or starts c 0 + get_or progress c 0) (get_or starts (c + 1) 0) (omega arith) ∙ sym (le-ltb (get_or progress c 0) (get_or starts (c + 1) 0 - get_or starts c 0) (omega arith))

pub next_past : (n : ℕ) (starts : List ℕ) (c d : ℕ) → n ≤ c → false ≡ has_next n (starts_only starts) c d
unfolding has_next
next_past n starts c d h = rw (le-ltb c n h)

pub next-left : (n : ℕ) (starts progress : List ℕ) (c : ℕ) (t : Bool) → c < n → t ≡ left_at starts progress c → t ≡ has_next n (starts_only starts) c (get_or progress c 0)
unfolding has_next left_at
next-left n starts progress c t h e = rw (lt-ltb c n h) e

pub left-fits : (nstarts n c : ℕ) → StartsFit nstarts n → c < n → LeftFits nstarts n c
left-fits nstarts n c s h = record { starts = s; there = h }

-- ---- how often a chunk is named

pub served_named : (order : List ℕ) (c i : ℕ) → c ≡ get_or order i 0 → served order c (i + 1) ≡ served order c i + 1
unfolding served
served_named order c i e = rw (add-one i, eq-eqb (get_or order i 0) c (sym e))

pub served-other : (order : List ℕ) (c i : ℕ) → (get_or order i 0 ≡ c → ⊥) → served order c (i + 1) ≡ served order c i
unfolding served
served-other order c i e = rw (add-one i, ne_eqb (get_or order i 0) c e) (omega arith)

pub counts_zero : (n : ℕ) (order progress : List ℕ) → n ≡ length progress → progress ≡ replicate (length progress) 0 → progress ≡ counts n order 0
unfolding served
counts_zero n order progress q e = e ∙ rw (← q) (sym (list_of_all (λ c. served order c 0) n 0 (λ i h. refl)))

-- one place more
pub counts-next : (n : ℕ) (order progress : List ℕ) (i c : ℕ) → progress ≡ counts n order i → c ≡ get_or order i 0 → c < n → set progress c (get_or progress c 0 + 1) ≡ counts n order (i + 1)
counts-next n order progress i c e q h =
    let d : get_or progress c 0 ≡ served order c i = ap (λ (l : List ℕ). get_or l c 0) e ∙ get_or-list_of (λ k. served order k i) 0 n c h in
    let u : set progress c (get_or progress c 0 + 1) ≡ set (counts n order i) c (served order c (i + 1)) = rw (d, served_named order c i q, e) in
    u ∙ set-list_of 0 (λ k. served order k i) (λ k. served order k (i + 1)) n c h (λ k ne. served-other order k i (λ z. ne (sym z ∙ sym q)))

-- the progress at place i says whether the place is bad: c is the chunk that the code read, t what it was told of it
pub place-told : (n : ℕ) (starts order progress : List ℕ) (i c : ℕ) (t b : Bool) → progress ≡ counts n order i → c ≡ get_or order i 0
    → t ≡ has_next (length progress) (starts_only starts) c (get_or progress c 0) → not t ≡ b → place_bad n (starts_only starts) order i ≡ b
unfolding place_bad has_next
place-told n starts order progress i c t b e q call test = rw (← q) (ap not (sym (same (dec_lt c n)) ∙ sym call) ∙ test)
  where
    size : length progress ≡ n
    size = ap length e ∙ length-list_of (λ k. served order k i) 0 n

    same : Dec (c < n) → (ltb c (length progress) && ltb (get_or progress c 0) (span_count (starts_only starts) c)) ≡ (ltb c n && ltb (served order c i) (span_count (starts_only starts) c))
    same (yes h) = let d : get_or progress c 0 ≡ served order c i = ap (λ (l : List ℕ). get_or l c 0) e ∙ get_or-list_of (λ k. served order k i) 0 n c h in rw (size, d)
    same (no h) = rw (size, le-ltb c n (omega arith))

pub next-there : (n : ℕ) (s : Spread) (c d : ℕ) (t : Bool) → t ≡ has_next n s c d → t ≡ true → (c < n) × (d < span_count s c)
unfolding has_next
next-there n s c d t e q = go (ltb c n) refl (ltb d (span_count s c)) refl (sym e ∙ q)
  where
    go : (a : Bool) → ltb c n ≡ a → (b : Bool) → ltb d (span_count s c) ≡ b → (a && b) ≡ true → (c < n) × (d < span_count s c)
    go true p true r z = (ltb-true c n p, ltb-true d (span_count s c) r)
    go true p false r z = let w : ◌≡◌ {A = ℕ} 0 1 = cc z in absurd (omega arith)
    go false p b r z = let w : ◌≡◌ {A = ℕ} 0 1 = cc z in absurd (omega arith)

-- where a chunk was found to have one, it is there, and its progress can go on
module _ (starts progress : List ℕ) (c : ℕ) (t : Bool) (call : t ≡ has_next (length progress) (starts_only starts) c (get_or progress c 0)) (test : not t ≡ false) where
  pub next_in : c < length progress
  next_in = (next-there (length progress) (starts_only starts) c (get_or progress c 0) t call (not-false t test)).0

  pub next_more : get_or starts (c + 1) 0 ≤ 4_294_967_295 → get_or progress c 0 + 1 ≤ 4_294_967_295
  unfolding span_count
  next_more h = let q = (next-there (length progress) (starts_only starts) c (get_or progress c 0) t call (not-false t test)).1 in omega arith

-- the end of a count: i is the place it stopped at
pub counted : (n : ℕ) (s : Spread) (order progress : List ℕ) (i : ℕ) → progress ≡ counts n order i → i ≡ first (place_bad n s order) 0 (length order)
    → record { place = i; progress = progress } ≡ counted_to n s order
unfolding counted_to
counted n s order progress i e q = rw (← q, e)

-- ---- 14

pub zeroed : (y : List ℕ) → filled 0 (length y) y ≡ replicate (length y) 0
zeroed y = written_all 0 y

module _ (n : ℕ) (starts order p p₁ p₂ : List ℕ) (i : ℕ) (size : length p ≡ n) (fill : p₁ ≡ filled 0 (length p) p) where
  first-zeros : p₁ ≡ replicate (length p₁) 0
  first-zeros =
      let e : p₁ ≡ replicate (length p) 0 = fill ∙ zeroed p in
      let k : length p₁ ≡ length p = ap length e ∙ length-replicate (length p) 0 in
      e ∙ rw k

  first-size : length p₁ ≡ n
  first-size = ap length (fill ∙ zeroed p) ∙ length-replicate (length p) 0 ∙ size

  pub count_fits : StartsFit (length starts) n → CountFits (length starts) p₁
  count_fits s = record { starts = rw first-size s; zeros = first-zeros }

  module _ (call : record { place = i; progress = p₂ } ≡ counted_to (length p₁) (starts_only starts) order) where
    stopped : i ≡ first (place_bad n (starts_only starts) order) 0 (length order)
    unfolding counted_to
    stopped = (ap (λ (w : Counted). w.place) call) ∙ rw first-size

    counts_are : p₂ ≡ counts n order i
    unfolding counted_to
    counts_are = (ap (λ (w : Counted). w.progress) call) ∙ rw (first-size, ← stopped)

    pub left-starts : StartsFit (length starts) n → StartsFit (length starts) (length p₂)
    left-starts s = let k : length p₂ ≡ n = ap length counts_are ∙ length-list_of (λ c. served order c i) 0 n in rw k s

    pub order_bad : i < length order → tell 14 (i ∷ []) ≡ bad_order n (starts_only starts) order
    unfolding bad_order
    order_bad h = rw (← stopped, lt-ltb i (length order) h)

    module _ (h : length order ≤ i) (t : Bool) (left : t ≡ some (left_at starts p₂) 0 (length p₂)) where
      at_end : i ≡ length order
      at_end = let q = first-high (place_bad n (starts_only starts) order) 0 (length order) (omega arith) in omega (arith, stopped)

      left_is : t ≡ some (chunk_left (starts_only starts) order) 0 n
      unfolding left_at chunk_left
      left_is =
          let k : length p₂ ≡ n = ap length counts_are ∙ length-list_of (λ c. served order c i) 0 n in
          left ∙ rw k (ap (λ (f : ℕ). ltb f n) (first_same (left_at starts p₂) (chunk_left (starts_only starts) order) 0 n (λ c _ l.
          let d : get_or p₂ c 0 ≡ served order c (length order) = ap (λ (l : List ℕ). get_or l c 0) counts_are ∙ get_or-list_of (λ c. served order c i) 0 n c l ∙ ap (λ (j : ℕ). served order c j) at_end in
          rw d)))

      pub order-left : t ≡ true → tell 14 (i ∷ []) ≡ bad_order n (starts_only starts) order
      unfolding bad_order
      order-left q = rw (← stopped, le-ltb i (length order) h, ← left_is, q, at_end)

      pub order-done : t ≡ false → done ≡ bad_order n (starts_only starts) order
      unfolding bad_order
      order-done q = rw (← stopped, le-ltb i (length order) h, ← left_is, q)

pub order_tested : (n : ℕ) (starts order p p₁ : List ℕ) (t : Told) → t ≡ bad_order n (starts_only starts) order → length p ≡ n → p₁ ≡ filled 0 (length p) p
    → record { told = t; progress = p₁ } ≡ tested_order n (starts_only starts) order
unfolding tested_order
order_tested n starts order p p₁ t e k q = rw (e, q, zeroed p, k)

-- ---- the work

-- l, a and b are what the code read of span k, y' what the sweep of its entries left
module _ (sign : Sign) (rows : List ℕ) (values v : List Float) (lo hi local : List ℕ) (k l a b : ℕ) (y : List Float) (p : l ≡ get_or local k 0) (q : a ≡ get_or lo k 0) (r : b ≡ get_or hi k 0) where
  pub span_swept : (y' : List Float) → y' ≡ swept_on sign y (landings rows values (get_or v l nan) a b) → y' ≡ swept_on sign y (span_terms (entries_only rows values) (spans_only lo hi local) v k)
  unfolding span_terms
  span_swept y' e = e ∙ rw (p, q, r)

pub span_there : {rows : List ℕ} {nvalues nv n : ℕ} {lo hi local : List ℕ} {k : ℕ} (l a b m : ℕ) → SpanFits rows nvalues nv n lo hi local k → m ≡ n → l ≡ get_or local k 0 → a ≡ get_or lo k 0 → b ≡ get_or hi k 0 → SpanThere rows nvalues nv m a b l
span_there l a b m f e p q r = rw (e, p, q, r) (record { below = f.below; entries = f.entries })

pub span_at_lem : {rows : List ℕ} {nvalues nv n m : ℕ} {lo hi local : List ℕ} {k : ℕ} → SpansFit rows nvalues nv n lo hi local → m ≡ n → k < length lo → SpanFits rows nvalues nv m lo hi local k
span_at_lem {k = k} f e h = rw e (f.each k h)

-- a chunk that has a span left
module _ (starts progress : List ℕ) (c : ℕ) (f : StartsFit (length starts) (length progress)) (next : has_next (length progress) (starts_only starts) c (get_or progress c 0) ≡ true) where
  pub left_there : c < length progress
  left_there = (next-there (length progress) (starts_only starts) c (get_or progress c 0) true (sym next) refl).0

  pub left_start : c < length starts
  left_start = omega (arith, left_there, f.started)

  pub left_before : get_or starts c 0 + get_or progress c 0 < get_or starts (c + 1) 0
  unfolding span_count
  left_before = let h = (next-there (length progress) (starts_only starts) c (get_or progress c 0) true (sym next) refl).1 in omega arith

  pub left_more : get_or starts (c + 1) 0 ≤ 4_294_967_295 → get_or progress c 0 + 1 ≤ 4_294_967_295
  left_more h = omega (arith, left_before)

-- a step's span, at place `at`
module _ (rows : List ℕ) (nvalues nv ny : ℕ) (s : Spread) (progress : List ℕ) (c : ℕ) (f : StepFits rows nvalues nv ny s progress c) where
  pub step_next : has_next (length progress) (starts_only s.starts) c (get_or progress c 0) ≡ true
  unfolding has_next span_count
  step_next = f.next

  pub step_span : (at : ℕ) → at ≡ get_or s.starts c 0 + get_or progress c 0 → SpanFits rows nvalues nv ny s.lo s.hi s.local at
  step_span at p =
      let h = left_before s.starts progress c f.plan.starts step_next in
      rw p (f.plan.spans.each _ (omega (arith, h, f.plan.inside c (left_there s.starts progress c f.plan.starts step_next))))

pub step_done : (sign : Sign) (rows : List ℕ) (values v : List Float) (s : Spread) (c at : ℕ) (y y' : List Float) (progress progress' : List ℕ) → at ≡ get_or s.starts c 0 + get_or progress c 0
    → progress' ≡ set progress c (get_or progress c 0 + 1)
    → y' ≡ swept_on sign y (span_terms (entries_only rows values) (spans_only s.lo s.hi s.local) v at)
    → work y' progress' ≡ stepped sign (entries_only rows values) s v c (work y progress)
unfolding stepped span_terms
step_done sign rows values v s c at y y' progress progress' p q e = rw (e, p, q)

-- an order's run, at place i: c is the chunk that the code read
module _ (rows : List ℕ) (nvalues nv ny k : ℕ) (s : Spread) (progress₀ progress order : List ℕ) (i c : ℕ) (f : RunFits rows nvalues nv ny s progress₀ order) (h : i < length order) (size : k ≡ ny)
    (e : progress ≡ counts (length progress₀) order i) (q : c ≡ get_or order i 0) where
  run-size : length progress ≡ length progress₀
  run-size = ap length e ∙ length-list_of (λ c. served order c i) 0 (length progress₀)

  run-next : has_next (length progress₀) s c (served order c i) ≡ true
  unfolding place_bad
  run-next = rw q (go (has_next (length progress₀) s (get_or order i 0) (served order (get_or order i 0) i)) (f.good i (omega arith) h))
    where
      go : (b : Bool) → not b ≡ false → b ≡ true
      go true z = refl
      go false z = let w : ◌≡◌ {A = ℕ} 0 1 = cc z in absurd (omega arith)

  pub run-there : c < length progress₀
  run-there = (next-there (length progress₀) s c (served order c i) true (sym run-next) refl).0

  run-count : get_or progress c 0 ≡ served order c i
  run-count = ap (λ (l : List ℕ). get_or l c 0) e ∙ get_or-list_of (λ c. served order c i) 0 (length progress₀) c run-there

  pub run_step : StepFits rows nvalues nv k s progress c
  run_step = record { plan = rw (size, run-size) f.plan; next = rw (run-size, run-count) run-next }

  module _ (sign : Sign) (values v : List Float) (y y' : List Float) (progress' : List ℕ) (call : work y' progress' ≡ stepped sign (entries_only rows values) s v c (work y progress)) where
    pub run-counts : progress' ≡ counts (length progress₀) order (i + 1)
    unfolding stepped
    run-counts = ap (λ (w : Work). w.progress) call ∙ counts-next (length progress₀) order progress i c e q run-there

    run-rows : y' ≡ swept_on sign y (place_terms (entries_only rows values) s v order i)
    unfolding stepped place_terms
    run-rows = ap (λ (w : Work). w.rows) call ∙ rw (← q, run-count)

    pub run_turn : (z : List Float) → swept_on sign y (gather (place_terms (entries_only rows values) s v order) i (length order)) ≡ z
        → swept_on sign y' (gather (place_terms (entries_only rows values) s v order) (i + 1) (length order)) ≡ z
    run_turn z inv = fold_turn (landed sign) (place_terms (entries_only rows values) s v order) y h inv run-rows

pub run-done : (sign : Sign) (rows : List ℕ) (values v : List Float) (s : Spread) (order progress₀ progress : List ℕ) (y₀ y : List Float) (i : ℕ) → i ≤ length order → length order ≤ i
    → progress ≡ counts (length progress₀) order i
    → swept_on sign y (gather (place_terms (entries_only rows values) s v order) i (length order)) ≡ swept_on sign y₀ (gather (place_terms (entries_only rows values) s v order) 0 (length order))
    → work y progress ≡ ran_order sign (entries_only rows values) s v order (work y₀ progress₀)
unfolding ran_to
run-done sign rows values v s order progress₀ progress y₀ y i l h e inv =
    let q : i ≡ length order = omega arith in
    let u : y ≡ swept_on sign y₀ (gather (place_terms (entries_only rows values) s v order) 0 (length order)) = fold_done (landed sign) (place_terms (entries_only rows values) s v order) h inv in
    rw (← u, e, q)

pub ruleset ordering = (
  rules,
  by_call,
  first_turn,
  first_stop,
  first_end,
  some_goes,
  some_stops,
  some-ends,
  left_read,
  next_past,
  next-left,
  left-fits,
  counts_zero,
  counts-next,
  place-told,
  counted,
  count_fits,
  left-starts,
  order_bad,
  order-left,
  order-done,
  order_tested,
)

pub ruleset stepping = (rules, fold_turn, fold_done, span_swept, span_there, span_at_lem, left_there, left_start, step_next, step_span, step_done, run_step, run-counts, run_turn, run-done, counts_zero)
