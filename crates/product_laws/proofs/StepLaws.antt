-- Steps in the order of an accepted list, from any rows y and progress 0, each on a map with room: each of them is accepted, and after i of them rows
-- and progress are y with the terms of the order's first i places, and how often these name each chunk. Place by place, since the checks look at
-- the lengths of rows and progress alone, which a step keeps, and at whether the map has room. So an accepted sweep is its steps, from the rows
-- that it starts from. A step changes no row outside its span and no other chunk's count. Assumes nothing.
use mathlib.Core.Path.{◌≡◌, refl, sym, ap, ◌∙◌}
use mathlib.Core.Bool.{Bool, true, false, cond}
use mathlib.Core.List.{List, [], ◌∷◌, ◌++◌}
use Prim.Native.Nat.{ℕ, zero, suc, ◌+◌, ◌≤◌, ◌<◌}
use native.Mathlib.Nat.{le_refl}
use native.Mathlib.Numerals.{add-one}
use native.Mathlib.Omega.{arith}
use lib.Dec.{eqb}
use lib.ListN.{length, get_or, set, drop, replicate, length-replicate}
use lib.Seq.{get_or-set_other}
use lib.Ieee.{Float, nan, eq}
use Rattle.ground.specs.Gather.{gather, list_of}
use Rattle.ground.specs.Fold.{All}
use Rattle.ground.proofs.GatherLaws.{gather_none, gather_last, length-list_of, get_or-list_of}
use Rattle.ground.proofs.FoldLaws.{folded_none, folded_append}
use Rattle.ground.proofs.EachLaws.{all_gather}
use Rattle.ground.proofs.ListLaws.{list_of_all}
use Rattle.columns.specs.declared.unchecked.Sign.{Sign}
use Rattle.columns.specs.Refusals.{Told, tell, done, Passes, on_pass, or_else}
use Rattle.columns.specs.Lengths.{length_of, need_of, no_room_of}
use Rattle.columns.specs.Columns.{Columns, column_count}
use Rattle.columns.specs.Sums.{zero₊, RowTerm, landed, swept_on}
use Rattle.columns.specs.JacobianOps.{landing, landings}
use Rattle.columns.proofs.RefusalLaws.{pass_done, both_pass}
use Rattle.columns.proofs.SumLaws.{length-swept, swept-other}
use Rattle.columns.proofs.CallLaws.{room-done}
use Rattle.blocks.specs.Claims.{claims, place_of, parts_told}
use borrow.Author.Tests.{eqb-true}
use Rattle.plan.specs.Spans.{chunk_told, chunk_count_of, in_chunk, Spread}
use Rattle.products.specs.Orders.{span_terms, span_count, served, has_next, bad_order, order_terms, sign_of, early_chunked, sweep_told, Swept, step_order, step_told, step_of, start_rows, sweep_told₁₄, sweep_of}
use Rattle.products.specs.OrderWalk.{counts, Work, stepped, place_terms, ran_to}
use Rattle.products.specs.SweepCheck.{checks_told, chunked_left}
use Rattle.product_laws.specs.Steps.{steps_of, After}
use Rattle.products.proofs.OrderRules.{counts-next, next-there}
use Rattle.products.proofs.SweepRules.{left-done, all_pass, checked-progress, checked-room, checked_in_chunk}
use Rattle.products.proofs.StepRules.{told_is, place-next, counts_all}

-- ---- the loop's own steps

-- one place more is one step more
pub ran_next : (sign : Sign) (m : Columns) (s : Spread) (v : List Float) (order : List ℕ) (w : Work) (i : ℕ) → get_or order i 0 < length w.progress
    → ran_to sign m s v order w (i + 1) ≡ stepped sign m s v (get_or order i 0) (ran_to sign m s v order w i)
unfolding ran_to stepped place_terms
ran_next sign m s v order w i h =
    let d : get_or (counts (length w.progress) order i) (get_or order i 0) 0 ≡ served order (get_or order i 0) i = get_or-list_of (λ c. served order c i) 0 (length w.progress) (get_or order i 0) h in
    let p = counts-next (length w.progress) order (counts (length w.progress) order i) i (get_or order i 0) refl refl h in
    rw (← p, d, gather_last (place_terms m s v order) 0 i (omega arith), folded_append (landed sign) w.rows (gather (place_terms m s v order) 0 i) (place_terms m s v order i))

-- ---- a step's map

-- a buffer with room passes 6
pub one-room : (n k : ℕ) → k ≤ n → no_room_of (n ∷ k ∷ []) ≡ done
one-room n k h = room-done (n ∷ k ∷ []) fine
  where
    fine : (i : ℕ) → i < 1 → need_of (n ∷ k ∷ []) i ≤ length_of (n ∷ k ∷ []) i
    fine zero l = h
    fine (suc i) l = absurd (omega arith)

-- what two calls tell, and the rows and the progress that they leave, are the same
pub record SameWork (a b : Swept) : Type 0 where
  pub told : a.told ≡ b.told
  pub rows : a.rows ≡ b.rows
  pub progress : a.progress ≡ b.progress

module _ (e : Bool) (m : Columns) (kept elims : List ℕ) (len : ℕ) (v : List Float) (s : Spread) (rows : List Float) (progress : List ℕ) (c : ℕ) where
  abbrev step_with : List ℕ → Swept
  step_with map = step_of e m kept elims len map v s rows progress c

  -- what a step tells decides which rows and progress it leaves
  by_told : (map₁ map₂ : List ℕ) → step_told e m kept elims len map₁ v s rows progress c ≡ step_told e m kept elims len map₂ v s rows progress c → SameWork (step_with map₁) (step_with map₂)
  unfolding step_of
  by_told map₁ map₂ q = record {
    told = q;
    rows = ap (λ (t : Told). on_pass t (swept_on (sign_of e) rows (span_terms m s v (get_or s.starts c 0 + get_or progress c 0))) rows) q;
    progress = ap (λ (t : Told). on_pass t (set progress c (get_or progress c 0 + 1)) progress) q;
  }

  -- what it tells, and the rows and the progress that it leaves, depend on the map by its length alone
  pub step_map-length : (map₁ map₂ : List ℕ) → length map₁ ≡ length map₂ → SameWork (step_with map₁) (step_with map₂)
  step_map-length map₁ map₂ h = by_told map₁ map₂ (rw h)

-- so do its refusals 1 to 6; among maps with room they do not depend on it at all
early_room : (m : Columns) (kept elims : List ℕ) (len : ℕ) (map₁ map₂ : List ℕ) → column_count m ≤ length map₁ → column_count m ≤ length map₂
    → early_chunked m kept elims len map₁ ≡ early_chunked m kept elims len map₂
early_room m kept elims len map₁ map₂ a b =
    ap (λ (t : Told). parts_told m kept elims (or_else (chunk_told len) t)) (one-room (length map₁) (column_count m) a ∙ sym (one-room (length map₂) (column_count m) b))

-- ---- the public steps

-- the rows that a sweep starts from are as many as it is lent
pub start_length : (e : Bool) (rows : List Float) → length (start_rows e rows) ≡ length rows
start_length true rows = refl
start_length false rows = length-replicate (length rows) zero₊

-- a sweep of that order, lent rows y, would be accepted; each step is lent a map with room
module _ (e : Bool) (m : Columns) (kept elims : List ℕ) (len : ℕ) (map : List ℕ) (v : List Float) (s : Spread) (y : List Float) (progress order : List ℕ)
    (accepted : sweep_told₁₄ e m kept elims len map v s y progress order ≡ done) (maps : ℕ → List ℕ) (roomy : (i : ℕ) → i < length order → column_count m ≤ length (maps i)) where
  abbrev chunks : ℕ
  chunks = chunk_count_of m.nrows len

  abbrev steps : ℕ → Swept
  steps i = steps_of e m kept elims len maps v s y order i

  abbrev checks : Told
  checks = checks_told e m kept elims len map (length v) s (length y) (length progress)

  told_both : or_else checks (bad_order chunks s order) ≡ done
  told_both = sym (told_is e m kept elims len map v s y progress (bad_order chunks s order)) ∙ accepted

  checks_pass : Passes checks
  checks_pass = (both_pass checks (bad_order chunks s order) (ap (λ (t : Told). t.number) told_both)).0

  order-good : bad_order chunks s order ≡ done
  order-good = sym (pass_done checks (bad_order chunks s order) checks checks_pass) ∙ told_both

  size : length progress ≡ chunks
  size = checked-progress e m kept elims len map (length v) s (length y) (length progress) checks_pass

  room : column_count m ≤ length map
  room = checked-room e m kept elims len map (length v) s (length y) (length progress) checks_pass

  -- a step on a map with room, and on rows and progress of these lengths, passes the same checks
  module _ (map₁ : List ℕ) (y₁ : List Float) (p₁ : List ℕ) (a : column_count m ≤ length map₁) (b : length y₁ ≡ length y) (c : length p₁ ≡ chunks) where
    same_checks : checks_told e m kept elims len map₁ (length v) s (length y₁) (length p₁) ≡ checks
    same_checks = rw (early_room m kept elims len map₁ map a room, b, c, size)

    same_pass : Passes (checks_told e m kept elims len map₁ (length v) s (length y₁) (length p₁))
    same_pass = ap (λ (t : Told). t.number) same_checks ∙ checks_pass

    same_told : (rest : Told) → sweep_told e m kept elims len map₁ v s y₁ p₁ rest ≡ rest
    same_told rest = told_is e m kept elims len map₁ v s y₁ p₁ rest ∙ pass_done _ rest _ same_pass

    same_early : Passes (early_chunked m kept elims len map₁)
    same_early = (all_pass e m kept elims len map₁ (length v) s (length y₁) (length p₁) same_pass).0

  -- one step more
  module _ (i : ℕ) (h : i < length order) (w : After e m kept elims len maps v s y order i) where
    abbrev c : ℕ
    c = get_or order i 0

    there : c < chunks
    there = (next-there chunks s c (served order c i) true (sym (place-next chunks s order order-good i h)) refl).0

    count : get_or (steps i).progress c 0 ≡ served order c i
    count = ap (λ (l : List ℕ). get_or l c 0) w.progress-is ∙ get_or-list_of (λ k. served order k i) 0 chunks c there

    rows-length : length (steps i).rows ≡ length y
    rows-length = ap length w.rows_are ∙ length-swept (sign_of e) y _

    progress-length : length (steps i).progress ≡ chunks
    progress-length = ap length w.progress-is ∙ length-list_of (λ k. served order k i) 0 chunks

    step_told_lem : sweep_told e m kept elims len (maps i) v s (steps i).rows (steps i).progress (step_order chunks s c (steps i).progress) ≡ done
    unfolding step_order
    step_told_lem =
        same_told (maps i) (steps i).rows (steps i).progress (roomy i h) rows-length progress-length (step_order chunks s c (steps i).progress)
        ∙ rw (count, place-next chunks s order order-good i h)

    -- the terms of this step are those of its place
    terms-next : span_terms m s v (get_or s.starts c 0 + get_or (steps i).progress c 0) ≡ place_terms m s v order i
    unfolding place_terms
    terms-next = ap (λ (k : ℕ). span_terms m s v (get_or s.starts c 0 + k)) count

    rows_next : (steps (suc i)).rows ≡ swept_on (sign_of e) y (gather (place_terms m s v order) 0 (suc i))
    unfolding steps_of step_of
    rows_next =
        let u : i + 1 ≡ suc i = add-one i in
        ap (λ (t : Told). on_pass t (swept_on (sign_of e) (steps i).rows (span_terms m s v (get_or s.starts c 0 + get_or (steps i).progress c 0))) (steps i).rows) step_told_lem
        ∙ pass_done done _ _ refl
        ∙ ap (λ (ts : List RowTerm). swept_on (sign_of e) (steps i).rows ts) terms-next
        ∙ ap (λ (z : List Float). swept_on (sign_of e) z (place_terms m s v order i)) w.rows_are
        ∙ sym (folded_append (landed (sign_of e)) y (gather (place_terms m s v order) 0 i) (place_terms m s v order i))
        ∙ ap (λ (ts : List RowTerm). swept_on (sign_of e) y ts) (sym (gather_last (place_terms m s v order) 0 i (omega arith)) ∙ ap (λ (k : ℕ). gather (place_terms m s v order) 0 k) u)

    progress-next : (steps (suc i)).progress ≡ counts chunks order (suc i)
    unfolding steps_of step_of
    progress-next =
        let u : i + 1 ≡ suc i = add-one i in
        ap (λ (t : Told). on_pass t (set (steps i).progress c (get_or (steps i).progress c 0 + 1)) (steps i).progress) step_told_lem
        ∙ pass_done done _ _ refl
        ∙ counts-next chunks order (steps i).progress i c w.progress-is refl there
        ∙ ap (λ (k : ℕ). counts chunks order k) u

    told-next : (steps (suc i)).told ≡ done
    unfolding steps_of step_of
    told-next = step_told_lem

    map_next : (steps (suc i)).map ≡ list_of (place_of (claims (column_count m) kept elims)) (column_count m) ++ drop (column_count m) (maps i)
    unfolding steps_of step_of
    map_next =
        ap (λ (t : Told). chunked_left t m kept elims len (maps i)) step_told_lem
        ∙ left-done m kept elims len (maps i) (same_early (maps i) (steps i).rows (steps i).progress (roomy i h) rows-length progress-length)

    after_next : After e m kept elims len maps v s y order (suc i)
    after_next = record { accepted = told-next; rows_are = rows_next; progress-is = progress-next }

  after_none : After e m kept elims len maps v s y order 0
  unfolding steps_of served
  after_none = record {
    accepted = refl;
    rows_are = sym (ap (λ (ts : List RowTerm). swept_on (sign_of e) y ts) (gather_none (place_terms m s v order) 0 0 (omega arith)) ∙ folded_none (landed (sign_of e)) y);
    progress-is = sym (list_of_all (λ c. served order c 0) chunks 0 (λ k h. refl));
  }

  -- after each of its places: the steps up to there are accepted, and rows and progress are as they should be
  pub steps_accepted : (i : ℕ) → i ≤ length order → After e m kept elims len maps v s y order i
  steps_accepted zero h = after_none
  steps_accepted (suc i) h = after_next i h (steps_accepted i (omega arith))

  -- the step of place i adds the terms of that place
  pub steps_place : (i : ℕ) → i < length order → span_terms m s v (get_or s.starts (get_or order i 0) 0 + get_or (steps i).progress (get_or order i 0) 0) ≡ place_terms m s v order i
  steps_place i h = terms-next i h (steps_accepted i (omega arith))

  -- it fills its map
  pub steps_map : (i : ℕ) → i < length order → (steps (suc i)).map ≡ list_of (place_of (claims (column_count m) kept elims)) (column_count m) ++ drop (column_count m) (maps i)
  steps_map i h = map_next i h (steps_accepted i (omega arith))

  -- outcomes of `step`, each on what the one before left, are these steps
  pub same_steps : (o : ℕ → Swept) → o 0 ≡ steps 0 → ((i : ℕ) → i < length order → o (suc i) ≡ step_of e m kept elims len (maps i) v s (o i).rows (o i).progress (get_or order i 0))
      → (i : ℕ) → i ≤ length order → o i ≡ steps i
  unfolding steps_of
  same_steps o z n zero h = z
  same_steps o z n (suc i) h = n i h ∙ ap (λ (w : Swept). step_of e m kept elims len (maps i) v s w.rows w.progress (get_or order i 0)) (same_steps o z n i (omega arith))

-- an accepted sweep is its steps, from the rows that it starts from
module _ (e : Bool) (m : Columns) (kept elims : List ℕ) (len : ℕ) (map : List ℕ) (v : List Float) (s : Spread) (rows : List Float) (progress order : List ℕ)
    (accepted : (sweep_of e m kept elims len map v s rows progress order).told ≡ done) (maps : ℕ → List ℕ) (roomy : (i : ℕ) → i < length order → column_count m ≤ length (maps i)) where
  abbrev from : List Float
  from = start_rows e rows

  abbrev steps_from : ℕ → Swept
  steps_from i = steps_of e m kept elims len maps v s from order i

  abbrev swept : Swept
  swept = sweep_of e m kept elims len map v s rows progress order

  pub start_accepted : sweep_told₁₄ e m kept elims len map v s from progress order ≡ done
  unfolding sweep_of
  start_accepted = rw (start_length e rows) accepted

  pub sweep_after : (i : ℕ) → i ≤ length order → After e m kept elims len maps v s from order i
  sweep_after = steps_accepted e m kept elims len map v s from progress order start_accepted maps roomy

  order-done : bad_order (chunk_count_of m.nrows len) s order ≡ done
  order-done = order-good e m kept elims len map v s from progress order start_accepted maps roomy

  -- after all of them rows and progress are the sweep's, and so is the map, where it is the sweep's that was lent
  pub last_rows_lem : (steps_from (length order)).rows ≡ swept.rows
  unfolding sweep_of order_terms place_terms
  last_rows_lem =
      (sweep_after (length order) (le_refl (length order))).rows_are
      ∙ sym (ap (λ (t : Told). on_pass t (swept_on (sign_of e) from (order_terms m s v order)) rows) accepted ∙ pass_done done _ _ refl)

  abbrev checked : Told
  checked = checks_told e m kept elims len map (length v) s (length rows) (length progress)

  sweep_checks : Passes checked
  unfolding sweep_of
  sweep_checks = (both_pass checked (bad_order (chunk_count_of m.nrows len) s order) (ap (λ (t : Told). t.number) (sym (told_is e m kept elims len map v s rows progress (bad_order (chunk_count_of m.nrows len) s order)) ∙ accepted))).0

  pub last_progress : (steps_from (length order)).progress ≡ swept.progress
  unfolding sweep_of
  last_progress =
      (sweep_after (length order) (le_refl (length order))).progress-is
      ∙ counts_all (chunk_count_of m.nrows len) s order order-done
      ∙ sym
      (ap (λ (t : Told). on_pass t (on_pass (bad_order (chunk_count_of m.nrows len) s order) (list_of (span_count s) (chunk_count_of m.nrows len)) (replicate (chunk_count_of m.nrows len) 0)) progress)
      (told_is e m kept elims len map v s rows progress done ∙ pass_done checked done checked sweep_checks)
      ∙ pass_done done _ _ refl
      ∙ ap (λ (t : Told). on_pass t (list_of (span_count s) (chunk_count_of m.nrows len)) (replicate (chunk_count_of m.nrows len) 0)) order-done
      ∙ pass_done done _ _ refl)

  pub each_map : (i : ℕ) → i < length order → maps i ≡ map → (steps_from (suc i)).map ≡ swept.map
  unfolding sweep_of
  each_map i h same =
      steps_map e m kept elims len map v s from progress order start_accepted maps roomy i h
      ∙ ap (λ (l : List ℕ). list_of (place_of (claims (column_count m) kept elims)) (column_count m) ++ drop (column_count m) l) same
      ∙ sym
      (ap (λ (t : Told). chunked_left t m kept elims len map) accepted
      ∙ left-done m kept elims len map (all_pass e m kept elims len map (length v) s (length from) (length progress) (checks_pass e m kept elims len map v s from progress order start_accepted maps roomy)).0)

-- ---- what a step leaves alone

module _ (m : Columns) (s : Spread) (v : List Float) (k r : ℕ) where
  span_others : ((p : ℕ) → get_or s.lo k 0 ≤ p → p < get_or s.hi k 0 → get_or m.rows p 0 ≡ r → ⊥) → All (λ t. t.row ≡ r → ⊥) (span_terms m s v k)
  unfolding span_terms landings landing
  span_others h = go (eq (get_or v (get_or s.local k 0) nan) zero₊)
    where
      go : (b : Bool) → All (λ t. t.row ≡ r → ⊥) (cond b [] (gather (landing m.rows m.values (get_or v (get_or s.local k 0) nan)) (get_or s.lo k 0) (get_or s.hi k 0)))
      go true = tt
      go false = all_gather (λ t. t.row ≡ r → ⊥) (landing m.rows m.values (get_or v (get_or s.local k 0) nan)) (get_or s.lo k 0) (get_or s.hi k 0) (λ p a b. (h p a b, tt))

-- an accepted step's entries lie in the named chunk, and a refused one leaves the rows
module _ (e : Bool) (m : Columns) (kept elims : List ℕ) (len : ℕ) (map : List ℕ) (v : List Float) (s : Spread) (rows : List Float) (progress : List ℕ) (c r : ℕ) where
  step_stays : eqb (step_told e m kept elims len map v s rows progress c).number 0 ≡ false → get_or (step_of e m kept elims len map v s rows progress c).rows r nan ≡ get_or rows r nan
  unfolding step_of on_pass
  step_stays q = rw q

  step_outside : in_chunk len c r ≡ false → Passes (step_told e m kept elims len map v s rows progress c) → (p : ℕ) → get_or s.lo (get_or s.starts c 0 + get_or progress c 0) 0 ≤ p
      → p < get_or s.hi (get_or s.starts c 0 + get_or progress c 0) 0 → get_or m.rows p 0 ≡ r → ⊥
  unfolding step_order span_count
  step_outside h t p a b z =
      let u = both_pass (checks_told e m kept elims len map (length v) s (length rows) (length progress)) _ (ap (λ (w : Told). w.number) (sym (told_is e m kept elims len map v s rows progress _)) ∙ t) in
      let n = order-next (chunk_count_of m.nrows len) u.1 in
      let i = checked_in_chunk e m kept elims len map (length v) s (length rows) (length progress) u.0 c n.0 (get_or s.starts c 0 + get_or progress c 0) (omega arith) (after n.1) p a b in
      let w : ◌≡◌ {A = ℕ} 0 1 = cc (rw z at i, h) in
      omega arith
    where
      order-next : (k : ℕ) → Passes (step_order k s c progress) → (c < k) × (get_or progress c 0 < span_count s c)
      order-next k q = go (has_next k s c (get_or progress c 0)) refl q
        where
          go : (d : Bool) → has_next k s c (get_or progress c 0) ≡ d → Passes (cond d done (tell 14 (0 ∷ []))) → (c < k) × (get_or progress c 0 < span_count s c)
          go true f q = next-there k s c (get_or progress c 0) true (sym f) refl
          go false f q = absurd (omega arith)

      after : get_or progress c 0 < span_count s c → get_or s.starts c 0 + get_or progress c 0 < get_or s.starts (c + 1) 0
      after q = omega arith

module _ (e : Bool) (m : Columns) (kept elims : List ℕ) (len : ℕ) (map : List ℕ) (v : List Float) (s : Spread) (rows : List Float) (progress : List ℕ) (c : ℕ) where
  abbrev one : Swept
  one = step_of e m kept elims len map v s rows progress c

  -- the span that a step of chunk c does
  abbrev next : ℕ
  next = get_or s.starts c 0 + get_or progress c 0

  pub step_row : (r : ℕ) → ((p : ℕ) → get_or s.lo next 0 ≤ p → p < get_or s.hi next 0 → get_or m.rows p 0 ≡ r → ⊥) → get_or one.rows r nan ≡ get_or rows r nan
  unfolding step_of on_pass
  step_row r h = go (eqb (step_told e m kept elims len map v s rows progress c).number 0)
    where
      go : (b : Bool) → get_or (cond b (swept_on (sign_of e) rows (span_terms m s v next)) rows) r nan ≡ get_or rows r nan
      go true = swept-other (sign_of e) r rows (span_terms m s v next) (span_others m s v next r h)
      go false = refl

  pub step_count : (k : ℕ) → (k ≡ c → ⊥) → get_or one.progress k 0 ≡ get_or progress k 0
  unfolding step_of on_pass
  step_count k h = go (eqb (step_told e m kept elims len map v s rows progress c).number 0)
    where
      go : (b : Bool) → get_or (cond b (set progress c (get_or progress c 0 + 1)) progress) k 0 ≡ get_or progress k 0
      go true = get_or-set_other progress c k (get_or progress c 0 + 1) 0 h
      go false = refl

  -- so no row outside the named chunk changes
  pub step_chunk_lem : (r : ℕ) → in_chunk len c r ≡ false → get_or one.rows r nan ≡ get_or rows r nan
  step_chunk_lem r h = go (eqb (step_told e m kept elims len map v s rows progress c).number 0) refl
    where
      go : (b : Bool) → eqb (step_told e m kept elims len map v s rows progress c).number 0 ≡ b → get_or one.rows r nan ≡ get_or rows r nan
      go true q = step_row r (λ p a b z. step_outside e m kept elims len map v s rows progress c r h (eqb-true _ _ q) p a b z)
      go false q = step_stays e m kept elims len map v s rows progress c r q
