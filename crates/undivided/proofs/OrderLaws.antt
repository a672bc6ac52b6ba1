-- A work order is accepted exactly if it serves each chunk as often as it has spans and names no other chunk. Assumes nothing.
use mathlib.Core.Path.{◌≡◌, refl}
use mathlib.Core.Bool.{Bool, true, false, not, ◌&&◌, cond}
use mathlib.Core.List.{List, [], ◌∷◌}
use Prim.Native.Nat.{ℕ, zero, suc, ◌+◌, ◌-◌, ◌≤◌, ◌<◌}
use native.Mathlib.Omega.{arith}
use native.Mathlib.Decide.{ℕ_discrete}
use native.Mathlib.Numerals.{add-one}
use lib.Dec.{ltb}
use lib.ListN.{length, get_or}
use borrow.Author.Tests.{eq-eqb, ne_eqb, lt-ltb, le-ltb, ltb-true, ltb-false}
use Rattle.ground.specs.First.{some}
use Rattle.ground.proofs.FirstLaws.{past_none, none_past}
use Rattle.columns.specs.Refusals.{tell, done, Passes}
use Rattle.columns.proofs.RefusalLaws.{passed}
use Rattle.plan.specs.Spans.{Spread}
use Rattle.products.specs.Orders.{span_count, served, has_next, place_bad, chunk_left, bad_order}
use Rattle.undivided.specs.Undivided.{Serves}

-- how often a chunk is named, place by place
module _ (order : List ℕ) (c : ℕ) where
  pub served_none : served order c 0 ≡ 0
  unfolding served
  served_none = refl

  pub served_same : (i : ℕ) → get_or order i 0 ≡ c → served order c (i + 1) ≡ served order c i + 1
  unfolding served
  served_same i e = rw (add-one i, eq-eqb (get_or order i 0) c e)

  pub served-other : (i : ℕ) → (get_or order i 0 ≡ c → ⊥) → served order c (i + 1) ≡ served order c i
  unfolding served
  served-other i e = rw (add-one i, ne_eqb (get_or order i 0) c e) (omega arith)

  served-next : (i : ℕ) → served order c i ≤ served order c (i + 1)
  served-next i = go (ℕ_discrete (get_or order i 0) c)
    where
      go : Dec (get_or order i 0 ≡ c) → served order c i ≤ served order c (i + 1)
      go (yes e) = omega (arith, served_same i e)
      go (no e) = omega (arith, served-other i e)

  served-up : (k i : ℕ) → served order c i ≤ served order c (i + k)
  served-up zero i = let e : i + 0 ≡ i = omega arith in rw e (omega arith)
  served-up (suc k) i = let e : i + suc k ≡ i + k + 1 = omega arith in rw e (omega (arith, served-up k i, served-next (i + k)))

  pub served-rises : (i j : ℕ) → i ≤ j → served order c i ≤ served order c j
  served-rises i j h = let e : i + (j - i) ≡ j = omega arith in rw e at (served-up (j - i) i)

-- an accepted order, and back
module _ (chunks : ℕ) (s : Spread) (order : List ℕ) where
  -- place i names a chunk that there is, and that has a span left
  pub record Next (i : ℕ) : Type 0 where
    pub there : get_or order i 0 < chunks
    pub left : served order (get_or order i 0) i < span_count s (get_or order i 0)

  place-next : (i : ℕ) → place_bad chunks s order i ≡ false → Next i
  unfolding place_bad has_next
  place-next i e = go (ltb (get_or order i 0) chunks) refl (ltb (served order (get_or order i 0) i) (span_count s (get_or order i 0))) refl e
    where
      go : (a : Bool) → ltb (get_or order i 0) chunks ≡ a → (b : Bool) → ltb (served order (get_or order i 0) i) (span_count s (get_or order i 0)) ≡ b → not (a && b) ≡ false → Next i
      go true p true q e = record { there = ltb-true _ _ p; left = ltb-true _ _ q }
      go true p false q e = absurd (let z : ◌≡◌ {A = ℕ} 0 1 = cc e in omega arith)
      go false p b q e = absurd (let z : ◌≡◌ {A = ℕ} 0 1 = cc e in omega arith)

  next_place : (i : ℕ) → Next i → place_bad chunks s order i ≡ false
  unfolding place_bad has_next
  next_place i x = rw (lt-ltb (get_or order i 0) chunks x.there, lt-ltb (served order (get_or order i 0) i) (span_count s (get_or order i 0)) x.left)

  left_least : (c : ℕ) → chunk_left s order c ≡ false → span_count s c ≤ served order c (length order)
  unfolding chunk_left
  left_least c e = ltb-false _ _ e

  least_left : (c : ℕ) → served order c (length order) ≡ span_count s c → chunk_left s order c ≡ false
  unfolding chunk_left
  least_left c e = le-ltb (served order c (length order)) (span_count s c) (omega arith)

  -- what a pass says of the two tests
  abbrev places : Bool
  places = some (place_bad chunks s order) 0 (length order)

  abbrev lefts : Bool
  lefts = some (chunk_left s order) 0 chunks

  none_bad : Passes (bad_order chunks s order) → (places ≡ false) × (lefts ≡ false)
  unfolding bad_order
  none_bad e = let a = passed places 13 _ (cond lefts (tell 14 (length order ∷ [])) done) e in (a.0, (passed lefts 13 _ done a.1).0)

  -- each place of an accepted order is so
  pub accepted-next : Passes (bad_order chunks s order) → (i : ℕ) → i < length order → Next i
  accepted-next e i h = place-next i (past_none (place_bad chunks s order) 0 (length order) (none_bad e).0 i (omega arith) h)

  -- a chunk is not served more often than it has spans
  served_most : Passes (bad_order chunks s order) → (c i : ℕ) → i ≤ length order → served order c i ≤ span_count s c
  served_most e c zero h = rw (served_none order c) (omega arith)
  served_most e c (suc i) h = go (ℕ_discrete (get_or order i 0) c) (served_most e c i (omega arith))
    where
      go : Dec (get_or order i 0 ≡ c) → served order c i ≤ span_count s c → served order c (suc i) ≤ span_count s c
      go (yes q) ih =
          let x = accepted-next e i h in
          let l : served order c i < span_count s c = rw q at x.left in
          rw (← (add-one i), served_same order c i q) (omega arith)
      go (no q) ih = rw (← (add-one i), served-other order c i q) ih

  pub accepted_serves : Passes (bad_order chunks s order) → Serves chunks s order
  accepted_serves e = record {
    each = λ c h. (let a = served_most e c (length order) (omega arith) in let b = least c h in omega arith);
    only = λ i h. (accepted-next e i h).there;
  }
    where
      least : (c : ℕ) → c < chunks → span_count s c ≤ served order c (length order)
      least c h = left_least c (past_none (chunk_left s order) 0 chunks (none_bad e).1 c (omega arith) h)

  pub serves_accepted : Serves chunks s order → bad_order chunks s order ≡ done
  unfolding bad_order
  serves_accepted x =
      rw (none_past (place_bad chunks s order) 0 (length order) (λ i _ h. next_place i (record { there = x.only i h; left = before i h })), none_past (chunk_left s order) 0 chunks (λ c _ h. least_left c (x.each c h)))
    where
      before : (i : ℕ) → i < length order → served order (get_or order i 0) i < span_count s (get_or order i 0)
      before i h =
          let a = served_same order (get_or order i 0) i refl in
          let b = served-rises order (get_or order i 0) (i + 1) (length order) (omega arith) in
          let e = x.each (get_or order i 0) (x.only i h) in
          omega arith

  -- both ways
  pub accepted_exactly : (Passes (bad_order chunks s order) → Serves chunks s order) × (Serves chunks s order → bad_order chunks s order ≡ done)
  accepted_exactly = (accepted_serves, serves_accepted)
