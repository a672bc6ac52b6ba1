-- Where a column stands in a list of columns. Assumes nothing.
use mathlib.Core.Path.{◌≡◌, sym, ◌∙◌}
use mathlib.Core.List.{List, [], ◌∷◌, ◌++◌}
use Prim.Native.Nat.{ℕ, ◌+◌, ◌≤◌, ◌<◌}
use native.Mathlib.Decide.{dec_lt}
use native.Mathlib.Omega.{arith}
use lib.Dec.{eqb}
use lib.ListN.{length, get_or, length-append, get_or-append}
use lib.Seq.{get_or-append-add}
use borrow.Author.Tests.{eqb-true, eqb-false}
use Rattle.ground.proofs.FirstLaws.{first-before, first_bad, first-high}
use Rattle.blocks.specs.Claims.{place_of}

-- ---- a column's place

module _ (cs : List ℕ) (c : ℕ) where
  pub place_le : place_of cs c ≤ length cs
  unfolding place_of
  place_le = first-high (λ i. eqb (get_or cs i 0) c) 0 (length cs) (omega arith)

  -- the column stands there
  pub place_at : place_of cs c < length cs → get_or cs (place_of cs c) 0 ≡ c
  unfolding place_of
  place_at h = eqb-true _ _ (first_bad (λ i. eqb (get_or cs i 0) c) 0 (length cs) h)

  -- and nowhere before
  pub place-before : (k : ℕ) → k < place_of cs c → get_or cs k 0 ≡ c → ⊥
  unfolding place_of
  place-before k h = eqb-false _ _ (first-before (λ i. eqb (get_or cs i 0) c) 0 (length cs) k (omega arith) h)

  pub place-low : (k : ℕ) → get_or cs k 0 ≡ c → place_of cs c ≤ k
  place-low k e = go (dec_lt k (place_of cs c))
    where
      go : Dec (k < place_of cs c) → place_of cs c ≤ k
      go (yes h) = absurd (place-before k h e)
      go (no h) = omega arith

  -- it stands at k and nowhere before
  pub place_is : (k : ℕ) → k < length cs → get_or cs k 0 ≡ c → ((j : ℕ) → j < k → get_or cs j 0 ≡ c → ⊥) → place_of cs c ≡ k
  place_is k h e ne = go (dec_lt (place_of cs c) k)
    where
      l : place_of cs c ≤ k
      l = place-low k e

      go : Dec (place_of cs c < k) → place_of cs c ≡ k
      go (yes p) = absurd (ne (place_of cs c) p (place_at (omega arith)))
      go (no p) = omega (arith, l)

  -- it stands nowhere
  pub place_none : ((j : ℕ) → j < length cs → get_or cs j 0 ≡ c → ⊥) → place_of cs c ≡ length cs
  place_none ne = go (dec_lt (place_of cs c) (length cs))
    where
      l : place_of cs c ≤ length cs
      l = place_le

      go : Dec (place_of cs c < length cs) → place_of cs c ≡ length cs
      go (yes p) = absurd (ne (place_of cs c) p (place_at p))
      go (no p) = omega (arith, l)

-- ---- a longer list

module _ (xs ys : List ℕ) (c : ℕ) where
  longer : length (xs ++ ys) ≡ length xs + length ys
  longer = length-append xs ys

  pub place-left : place_of xs c < length xs → place_of (xs ++ ys) c ≡ place_of xs c
  place-left h =
      let g = longer in
      place_is (xs ++ ys) c (place_of xs c) (omega arith) (get_or-append xs ys 0 (place_of xs c) h ∙ place_at xs c h) (λ j l e.
      place-before xs c j l (sym (get_or-append xs ys 0 j (omega arith)) ∙ e))

  pub place-past : length xs ≤ place_of xs c → length xs ≤ place_of (xs ++ ys) c
  place-past h = go (dec_lt (place_of (xs ++ ys) c) (length xs))
    where
      go : Dec (place_of (xs ++ ys) c < length xs) → length xs ≤ place_of (xs ++ ys) c
      go (yes p) =
          let g = longer in
          let e : get_or xs (place_of (xs ++ ys) c) 0 ≡ c = sym (get_or-append xs ys 0 (place_of (xs ++ ys) c) p) ∙ place_at (xs ++ ys) c (omega arith) in
          let l = place-low xs c _ e in
          absurd (omega arith)
      go (no p) = omega arith

-- a column put at the end of a list that does not hold it, and another
module _ (xs : List ℕ) (c : ℕ) where
  pub place_new : length xs ≤ place_of xs c → place_of (xs ++ (c ∷ [])) c ≡ length xs
  place_new h =
      let g = length-append xs (c ∷ []) in
      let l = place-low (xs ++ (c ∷ [])) c (length xs + 0) (get_or-append-add xs (c ∷ []) 0 0) in
      let k = place-past xs (c ∷ []) c h in
      omega arith

  pub place_other : (d : ℕ) → (d ≡ c → ⊥) → length xs ≤ place_of xs d → place_of (xs ++ (c ∷ [])) d ≡ length (xs ++ (c ∷ []))
  place_other d ne h =
      place_none (xs ++ (c ∷ [])) d (λ j l e. go j l e (dec_lt j (length xs)))
    where
      go : (j : ℕ) → j < length (xs ++ (c ∷ [])) → get_or (xs ++ (c ∷ [])) j 0 ≡ d → Dec (j < length xs) → ⊥
      go j l e (yes p) =
          let k = place-low xs d j (sym (get_or-append xs (c ∷ []) 0 j p) ∙ e) in
          omega arith
      go j l e (no p) =
          let g = length-append xs (c ∷ []) in
          let q : j ≡ length xs + 0 = omega arith in
          ne (sym e ∙ (rw q) ∙ get_or-append-add xs (c ∷ []) 0 0)
