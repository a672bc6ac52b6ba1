-- What the loops of src/check.rt and the length check show, for `search`. Assumes nothing.
use mathlib.Core.Path.{◌≡◌, refl, sym, ap, ◌∙◌}
use mathlib.Core.Bool.{Bool, true, false, ◌&&◌, ◌||◌}
use mathlib.Core.List.{List, [], ◌∷◌}
use Prim.Native.Nat.{ℕ, zero, suc, ◌+◌, ◌-◌, ◌/◌, ◌≤◌, ◌<◌}
use native.Mathlib.Omega.{arith}
use lib.Dec.{ltb, leb}
use lib.ListN.{length, get_or}
use borrow.Author.Tests.{lt-ltb, le-ltb, lt-leb, ltb-true, leb-false}
use Rattle.ground.specs.First.{first, some, None}
use Rattle.ground.proofs.FirstLaws.{first_none, first-low, first_bad, past_none, none_past, some_at}
use Rattle.ground.proofs.Rules.{searches}
use Rattle.ground.proofs.TestLaws.{or_of}
use Rattle.columns.specs.Refusals.{tell, done}
use Rattle.std.specs.Prelude.{Option, Some, None as Nothing, cond}
use Rattle.columns.specs.Lengths.{length_of, need_of, misfits, pair_bad, bad_pair, bad_pair_in, pairs_told}
use Rattle.columns.specs.Columns.{falls, row_falls, row_bad}

-- ---- the pointers

pub pointers_read : (ptrs : List ℕ) (j : ℕ) → ltb (get_or ptrs (j + 1) 0) (get_or ptrs j 0) ≡ falls ptrs j
unfolding falls
pointers_read ptrs j = refl

-- ---- the rows

-- A column's rows as a whole: where its last row is not too large, some entry is bad exactly where one is not above the one before it.
module _ (nrows : ℕ) (rows : List ℕ) (from to : ℕ) where
  pub column_empty : to ≤ from → false ≡ some (row_bad nrows rows from) from to
  column_empty h = rw (first_none (row_bad nrows rows from) from to h, le-ltb from to h)

  fall_bad : (p : ℕ) → from + 1 ≤ p → row_falls rows p ≡ true → row_bad nrows rows from p ≡ true
  unfolding row_bad
  fall_bad p l e = rw (lt-ltb from p (omega arith), e) (go (leb nrows (get_or rows p 0)))
    where
      go : (b : Bool) → (b || true) ≡ true
      go true = refl
      go false = refl

  -- rows that rise end at the largest
  rise : None (row_falls rows) (from + 1) to → (d p : ℕ) → from ≤ p → p + d ≡ to - 1 → from < to → get_or rows p 0 ≤ get_or rows (to - 1) 0
  unfolding row_falls
  rise none zero p l e h = let q : p ≡ to - 1 = omega arith in rw q (omega arith)
  rise none (suc d) p l e h =
      let q : p + 1 - 1 ≡ p = omega arith in
      let u = leb-false (get_or rows (p + 1) 0) (get_or rows (p + 1 - 1) 0) (none (p + 1) (omega arith) (omega arith)) in
      omega (arith, rise none d (p + 1) (omega arith) (omega arith) h, rw q at u)

  rise-good : (last : ℕ) → from < to → last ≡ get_or rows (to - 1) 0 → last < nrows → None (row_falls rows) (from + 1) to → None (row_bad nrows rows from) from to
  unfolding row_bad
  rise-good last l e h none p a b =
      rw (lt-leb nrows (get_or rows p 0) (omega (arith, rise none (to - 1 - p) p a (omega arith) l, e))) (go (ltb from p) refl)
    where
      go : (t : Bool) → ltb from p ≡ t → (t && row_falls rows p) ≡ false
      go true t = none p (omega (arith, ltb-true from p t)) b
      go false t = refl

  pub column-falls : (last : ℕ) (b : Bool) → from < to → last ≡ get_or rows (to - 1) 0 → last < nrows → b ≡ some (row_falls rows) (from + 1) to
      → b ≡ some (row_bad nrows rows from) from to
  column-falls last b l e h q = q ∙ go (some (row_falls rows) (from + 1) to) refl
    where
      go : (t : Bool) → some (row_falls rows) (from + 1) to ≡ t → t ≡ some (row_bad nrows rows from) from to
      go true t =
          let k = first (row_falls rows) (from + 1) to in
          let w = first-low (row_falls rows) (from + 1) to in
          sym (some_at (row_bad nrows rows from) from to k (omega arith) (ltb-true k to t) (fall_bad k w (first_bad (row_falls rows) (from + 1) to (ltb-true k to t))))
      go false t = sym (none_past (row_bad nrows rows from) from to (rise-good last l e h (past_none (row_falls rows) (from + 1) to t)))

pub falls_read : (rows : List ℕ) (p : ℕ) → leb (get_or rows p 0) (get_or rows (p - 1) 0) ≡ row_falls rows p
unfolding row_falls
falls_read rows p = refl

-- ---- what is lent

-- a test of what stands in pair k is its test
pub pair_tested : (exact : Bool) (pairs : List ℕ) (k length need : ℕ) → length ≡ length_of pairs k → need ≡ need_of pairs k → pair_bad exact pairs k ≡ misfits exact length need
unfolding pair_bad
pair_tested exact pairs k length need e f = rw (e, f)

-- the place k that the code found, and the need there
module _ (exact : Bool) (pairs : List ℕ) where
  pub pair_found : (k need : ℕ) → k ≡ bad_pair exact pairs → need ≡ need_of pairs k → k < length pairs / 2 → Some (k, need) ≡ bad_pair_in exact pairs
  unfolding bad_pair_in
  pair_found k need e f l = rw (← e, lt-ltb k (length pairs / 2) l, f)

  pub pair_none : length pairs / 2 ≡ bad_pair exact pairs → Nothing ≡ bad_pair_in exact pairs
  unfolding bad_pair_in
  pair_none e = rw (← e, le-ltb (length pairs / 2) (length pairs / 2) (omega arith))

-- what is told of the pair that was found
module _ (n : ℕ) (exact : Bool) (pairs : List ℕ) (o : Option (ℕ × ℕ)) (e : o ≡ bad_pair_in exact pairs) where
  pub pairs_refused : (k need : ℕ) → o ≡ Some (k, need) → tell n (k ∷ need ∷ []) ≡ pairs_told n exact pairs
  unfolding pairs_told bad_pair_in
  pairs_refused k need p = go (ltb (bad_pair exact pairs) (length pairs / 2)) (sym e ∙ p)
    where
      go : (b : Bool) → cond {A = Option (ℕ × ℕ)} b (Some (bad_pair exact pairs, need_of pairs (bad_pair exact pairs))) Nothing ≡ Some (k, need)
          → tell n (k ∷ need ∷ []) ≡ cond b (tell n (bad_pair exact pairs ∷ need_of pairs (bad_pair exact pairs) ∷ [])) done
      go true q = let h : ◌≡◌ {A = ℕ × ℕ} (bad_pair exact pairs, need_of pairs (bad_pair exact pairs)) (k, need) = cc q in rw (← ap (λ p. p.0) h, ← ap (λ p. p.1) h)
      go false q = absurd (cc q)

  pub pairs_done : o ≡ Nothing → done ≡ pairs_told n exact pairs
  unfolding pairs_told bad_pair_in
  pairs_done p = go (ltb (bad_pair exact pairs) (length pairs / 2)) (sym e ∙ p)
    where
      go : (b : Bool) → cond {A = Option (ℕ × ℕ)} b (Some (bad_pair exact pairs, need_of pairs (bad_pair exact pairs))) Nothing ≡ Nothing
          → done ≡ cond b (tell n (bad_pair exact pairs ∷ need_of pairs (bad_pair exact pairs) ∷ [])) done
      go true q = absurd (cc q)
      go false q = refl

pub ruleset checking = (searches, falls_read, or_of, pointers_read)
