-- The merge of two sorted columns takes in just the products at their common rows, ascending. What is left of a merge is `common_terms` from
-- the two next entries on; each step of the merge leaves the sum of that, from the sum so far, as it was. Assumes nothing.
use mathlib.Core.Path.{◌≡◌, refl, sym, ap, ◌∙◌}
use mathlib.Core.Bool.{Bool, true, false, ◌&&◌, cond}
use mathlib.Core.List.{List, [], ◌∷◌, ◌++◌}
use Prim.Native.Nat.{ℕ, ◌+◌, ◌-◌, ◌≤◌, ◌<◌}
use native.Mathlib.Nat.{le_antisymm}
use native.Mathlib.Omega.{arith}
use lib.Dec.{eqb, ltb}
use lib.ListN.{length, get_or}
use lib.Ieee.{Float, nan, binary64, add, mul}
use borrow.Author.Tests.{eq-eqb, eqb-true, eqb-false, ne_eqb, ltb-true, ltb-false}
use Rattle.ground.specs.Gather.{gather}
use Rattle.ground.specs.Fold.{folded}
use Rattle.ground.proofs.GatherLaws.{gather_none, gather-first, gather_same, gather_empty, gather_split}
use Rattle.ground.proofs.FoldLaws.{folded_none}
use Rattle.columns.specs.declared.unchecked.Merge.{Merge}
use Rattle.columns.specs.Columns.{Columns, first_place, end_place}
use Rattle.columns.specs.Sums.{zero₊, Term, term, add_term, sum_from}
use Rattle.columns.specs.JacobianOps.{common_term, common_terms, dot_of}
use Rattle.columns.specs.Unchecked.{HasColumns, MergeFits, merge_step}
use Rattle.columns.proofs.CheckLaws.{column-run, column-ascends}

-- places lo up to hi have ascending rows
pub record Ascends (rows : List ℕ) (lo hi : ℕ) : Type 0 where
  pub each : (i k : ℕ) → lo ≤ i → i < k → k < hi → get_or rows i 0 < get_or rows k 0

module _ (rows : List ℕ) (values : List Float) where
  -- an entry in another row gives nothing
  left_off : (r i k : ℕ) → (get_or rows i 0 ≡ r → ⊥) → common_term rows values r i k ≡ []
  unfolding common_term
  left_off r i k ne = rw (ne_eqb _ _ ne)

  right_off : (r i k : ℕ) → (get_or rows k 0 ≡ r → ⊥) → common_term rows values r i k ≡ []
  unfolding common_term
  right_off r i k ne = rw (ne_eqb _ _ ne) (go (eqb (get_or rows i 0) r))
    where
      go : (b : Bool) → cond (b && false) (term (get_or values i nan) (get_or values k nan) ∷ []) [] ≡ []
      go true = refl
      go false = refl

  both_on : (r i k : ℕ) → get_or rows i 0 ≡ r → get_or rows k 0 ≡ r → common_term rows values r i k ≡ term (get_or values i nan) (get_or values k nan) ∷ []
  unfolding common_term
  both_on r i k a b = rw (eq-eqb _ _ a, eq-eqb _ _ b)

  -- two entries in different rows give nothing in any
  never : (r i k : ℕ) → (get_or rows i 0 ≡ get_or rows k 0 → ⊥) → common_term rows values r i k ≡ []
  never r i k ne = go (eqb (get_or rows i 0) r) refl
    where
      go : (b : Bool) → eqb (get_or rows i 0) r ≡ b → common_term rows values r i k ≡ []
      go true e = right_off r i k (λ q. ne (eqb-true _ _ e ∙ sym q))
      go false e = left_off r i k (eqb-false _ _ e)

  module _ (e f : ℕ) where
    -- what row r gives, from entries p and q on
    abbrev in_row : ℕ → ℕ → ℕ → List Term
    in_row p q r = gather (λ i. gather (common_term rows values r i) q f) p e

    row_empty : (p q r : ℕ) → ((i : ℕ) → p ≤ i → i < e → get_or rows i 0 ≡ r → ⊥) → in_row p q r ≡ []
    row_empty p q r off =
        gather_empty (λ i. gather (common_term rows values r i) q f) p e (λ i a b.
        gather_empty (common_term rows values r i) q f (λ k _ _. left_off r i k (off i a b)))

    -- past the left entry, and past the right one, where they give nothing in row r
    row-left : (p q r : ℕ) → p < e → ((k : ℕ) → q ≤ k → k < f → common_term rows values r p k ≡ []) → in_row p q r ≡ in_row (p + 1) q r
    row-left p q r l off =
        gather-first (λ i. gather (common_term rows values r i) q f) p e l
        ∙ ap (λ z. z ++ in_row (p + 1) q r) (gather_empty (common_term rows values r p) q f off)

    row-right : (p q r : ℕ) → q < f → ((i : ℕ) → p ≤ i → i < e → common_term rows values r i q ≡ []) → in_row p q r ≡ in_row p (q + 1) r
    row-right p q r l off =
        gather_same (λ i. gather (common_term rows values r i) q f) (λ i. gather (common_term rows values r i) (q + 1) f) p e (λ i a b.
        gather-first (common_term rows values r i) q f l ∙ ap (λ z. z ++ gather (common_term rows values r i) (q + 1) f) (off i a b))

    module _ (nrows p q : ℕ) (asc-p : Ascends rows p e) (asc-q : Ascends rows q f) where
      pub pass_left : p < e → q < f → get_or rows p 0 < get_or rows q 0 → common_terms nrows rows values p e q f ≡ common_terms nrows rows values (p + 1) e q f
      unfolding common_terms
      pass_left l h less =
          gather_same (in_row p q) (in_row (p + 1) q) 0 nrows (λ r _ _. row-left p q r l (λ k a b. never r p k (λ same. after k a b same (ltb q k) refl)))
        where
          after : (k : ℕ) → q ≤ k → k < f → get_or rows p 0 ≡ get_or rows k 0 → (b : Bool) → ltb q k ≡ b → ⊥
          after k a b same true t = omega (arith, asc-q.each q k (omega arith) (ltb-true q k t) b)
          after k a b same false t = let z : k ≡ q = omega (arith, ltb-false q k t) in omega (arith, rw z at same)

      pub pass_right : p < e → q < f → get_or rows q 0 < get_or rows p 0 → common_terms nrows rows values p e q f ≡ common_terms nrows rows values p e (q + 1) f
      unfolding common_terms
      pass_right l h less =
          gather_same (in_row p q) (in_row p (q + 1)) 0 nrows (λ r _ _. row-right p q r h (λ i a b. never r i q (λ same. after i a b same (ltb p i) refl)))
        where
          after : (i : ℕ) → p ≤ i → i < e → get_or rows i 0 ≡ get_or rows q 0 → (b : Bool) → ltb p i ≡ b → ⊥
          after i a b same true t = omega (arith, asc-p.each p i (omega arith) (ltb-true p i t) b)
          after i a b same false t = let z : i ≡ p = omega (arith, ltb-false p i t) in omega (arith, rw z at same)

      -- rows before the common one have nothing, the common row has the one product, and later rows have what the next entries give
      pub pass_both : p < e → q < f → get_or rows p 0 ≡ get_or rows q 0 → get_or rows p 0 < nrows
          → common_terms nrows rows values p e q f ≡ term (get_or values p nan) (get_or values q nan) ∷ common_terms nrows rows values (p + 1) e (q + 1) f
      unfolding common_terms
      pass_both l h same low = whole ∙ ap (λ z. one ∷ z) (sym rest)
        where
          s : ℕ
          s = get_or rows p 0

          one : Term
          one = term (get_or values p nan) (get_or values q nan)

          above_p : (i : ℕ) → p + 1 ≤ i → i < e → s < get_or rows i 0
          above_p i a b = asc-p.each p i (omega arith) (omega arith) b

          above_q : (k : ℕ) → q + 1 ≤ k → k < f → s < get_or rows k 0
          above_q k a b = rw same (asc-q.each q k (omega arith) (omega arith) b)

          from_p : (i : ℕ) → p ≤ i → i < e → s ≤ get_or rows i 0
          from_p i a b = go (ltb p i) refl
            where
              go : (t : Bool) → ltb p i ≡ t → s ≤ get_or rows i 0
              go true t = omega (arith, above_p i (omega (arith, ltb-true p i t)) b)
              go false t = let z : i ≡ p = omega (arith, ltb-false p i t) in rw z (omega arith)

          here : in_row p q s ≡ one ∷ []
          here =
              gather-first (λ i. gather (common_term rows values s i) q f) p e l
              ∙ ap (λ z. z ++ in_row (p + 1) q s) (gather-first (common_term rows values s p) q f h
              ∙ ap (λ z. z ++ gather (common_term rows values s p) (q + 1) f) (both_on s p q refl (sym same))
              ∙ ap (λ z. one ∷ z) (gather_empty (common_term rows values s p) (q + 1) f (λ k a b. right_off s p k (λ t. omega (arith, above_q k a b)))))
              ∙ ap (λ z. one ∷ z) (row_empty (p + 1) q s (λ i a b t. omega (arith, above_p i a b)))

          later : (r : ℕ) → s + 1 ≤ r → r < nrows → in_row p q r ≡ in_row (p + 1) (q + 1) r
          later r a b =
              row-left p q r l (λ k _ _. left_off r p k (λ t. omega arith))
              ∙ row-right (p + 1) q r h (λ i _ _. right_off r i q (λ t. omega (arith, same)))

          whole : gather (in_row p q) 0 nrows ≡ one ∷ gather (in_row (p + 1) (q + 1)) (s + 1) nrows
          whole =
              gather_split (in_row p q) 0 s nrows (omega arith) (omega arith)
              ∙ ap (λ z. z ++ gather (in_row p q) s nrows) (gather_empty (in_row p q) 0 s (λ r a b. row_empty p q r (λ i c d t. omega (arith, from_p i c d))))
              ∙ gather-first (in_row p q) s nrows low
              ∙ ap (λ z. z ++ gather (in_row p q) (s + 1) nrows) here
              ∙ ap (λ z. one ∷ z) (gather_same (in_row p q) (in_row (p + 1) (q + 1)) (s + 1) nrows later)

          rest : gather (in_row (p + 1) (q + 1)) 0 nrows ≡ gather (in_row (p + 1) (q + 1)) (s + 1) nrows
          rest =
              gather_split (in_row (p + 1) (q + 1)) 0 (s + 1) nrows (omega arith) (omega arith)
              ∙ ap (λ z. z ++ gather (in_row (p + 1) (q + 1)) (s + 1) nrows)
              (gather_empty (in_row (p + 1) (q + 1)) 0 (s + 1) (λ r a b. row_empty (p + 1) (q + 1) r (λ i c d t. omega (arith, above_p i c d))))

-- ---- the loop of `dot_columns`

-- a sum's first term is taken in
one_taken : (acc x y : Float) (ts : List Term) → sum_from acc (term x y ∷ ts) ≡ sum_from (add binary64 acc (mul binary64 x y)) ts
unfolding add_term folded
one_taken acc x y ts = refl

-- the three ways of a step, by its two tests
abbrev step_by : List Float → Merge → Bool → Bool → Merge
step_by values at s t =
    cond s (record { ia = at.ia + 1; ib = at.ib; acc = at.acc })
    (cond t (record { ia = at.ia; ib = at.ib + 1; acc = at.acc })
    (record { ia = at.ia + 1; ib = at.ib + 1; acc = add binary64 at.acc (mul binary64 (get_or values at.ia nan) (get_or values at.ib nan)) }))

-- a step takes neither column back, and one of them on
pub merge_less : (rows : List ℕ) (values : List Float) (at at' : Merge) (e f : ℕ) → at' ≡ merge_step rows values at → at.ia < e → at.ib < f → (e - at'.ia) + (f - at'.ib) < (e - at.ia) + (f - at.ib)
unfolding merge_step
merge_less rows values at at' e f q l h = rw q (go (ltb (get_or rows at.ia 0) (get_or rows at.ib 0)) (ltb (get_or rows at.ib 0) (get_or rows at.ia 0)))
  where
    go : (s t : Bool) → (e - (step_by values at s t).ia) + (f - (step_by values at s t).ib) < (e - at.ia) + (f - at.ib)
    go true t = omega arith
    go false true = omega arith
    go false false = omega arith

-- what is left of the merge, from the sum so far, gives the dot
pub record Merging (m : Columns) (a b : ℕ) (at : Merge) : Type 0 where
  pub low_a : first_place m a ≤ at.ia
  pub low_b : first_place m b ≤ at.ib
  pub left : sum_from at.acc (common_terms m.nrows m.rows m.values at.ia (end_place m a) at.ib (end_place m b)) ≡ dot_of m a b

module _ (m : Columns) (a b : ℕ) where
  pub merge_start : (p q : ℕ) → p ≡ first_place m a → q ≡ first_place m b → Merging m a b (record { ia = p; ib = q; acc = zero₊ })
  merge_start p q e f = rw (e, f) (record { low_a = omega arith; low_b = omega arith; left = refl })

  -- one column has run out
  pub merge_end_a : (at : Merge) → Merging m a b at → end_place m a ≤ at.ia → at.acc ≡ dot_of m a b
  unfolding common_terms
  merge_end_a at w h =
      sym (folded_none add_term at.acc)
      ∙ ap (λ (ts : List Term). sum_from at.acc ts) (sym (gather_empty _ 0 m.nrows (λ r _ _. gather_none _ at.ia (end_place m a) h)))
      ∙ w.left

  pub merge_end_b : (at : Merge) → Merging m a b at → end_place m b ≤ at.ib → at.acc ≡ dot_of m a b
  unfolding common_terms
  merge_end_b at w h =
      sym (folded_none add_term at.acc)
      ∙ ap (λ (ts : List Term). sum_from at.acc ts)
      (sym (gather_empty _ 0 m.nrows (λ r _ _. gather_empty _ at.ia (end_place m a) (λ i _ _. gather_none _ at.ib (end_place m b) h))))
      ∙ w.left

  module _ (has : HasColumns m a b) where
    asc_a : (p : ℕ) → first_place m a ≤ p → Ascends m.rows p (end_place m a)
    asc_a p l = record { each = λ i k x y z. column-ascends has.left.keeps.sorted a has.left.there i k (omega arith) y z }

    asc_b : (p : ℕ) → first_place m b ≤ p → Ascends m.rows p (end_place m b)
    asc_b p l = record { each = λ i k x y z. column-ascends has.right.keeps.sorted b has.right.there i k (omega arith) y z }

    pub merge_fits : (at : Merge) → at.ia < end_place m a → at.ib < end_place m b → MergeFits (length m.rows) (length m.values) at
    merge_fits at l h = record {
      left = omega (arith, (column-run has.left.keeps.shaped a has.left.there).inside);
      right = omega (arith, (column-run has.left.keeps.shaped b has.right.there).inside);
      paired = has.left.keeps.shaped.paired;
    }

    pub merge_turn : (at at' : Merge) → Merging m a b at → at.ia < end_place m a → at.ib < end_place m b → at' ≡ merge_step m.rows m.values at → Merging m a b at'
    unfolding merge_step
    merge_turn at at' w l h q =
        rw q (go (ltb (get_or m.rows at.ia 0) (get_or m.rows at.ib 0)) refl (ltb (get_or m.rows at.ib 0) (get_or m.rows at.ia 0)) refl)
      where
        pa : Ascends m.rows at.ia (end_place m a)
        pa = asc_a at.ia w.low_a

        pb : Ascends m.rows at.ib (end_place m b)
        pb = asc_b at.ib w.low_b

        go : (s : Bool) → ltb (get_or m.rows at.ia 0) (get_or m.rows at.ib 0) ≡ s → (t : Bool) → ltb (get_or m.rows at.ib 0) (get_or m.rows at.ia 0) ≡ t
            → Merging m a b (step_by m.values at s t)
        go true u t v = record {
          low_a = omega (arith, w.low_a);
          low_b = w.low_b;
          left = ap (λ (ts : List Term). sum_from at.acc ts) (sym (pass_left m.rows m.values (end_place m a) (end_place m b) m.nrows at.ia at.ib pa pb l h (ltb-true _ _ u))) ∙ w.left;
        }
        go false u true v = record {
          low_a = w.low_a;
          low_b = omega (arith, w.low_b);
          left = ap (λ (ts : List Term). sum_from at.acc ts) (sym (pass_right m.rows m.values (end_place m a) (end_place m b) m.nrows at.ia at.ib pa pb l h (ltb-true _ _ v))) ∙ w.left;
        }
        go false u false v = record {
          low_a = omega (arith, w.low_a);
          low_b = omega (arith, w.low_b);
          left = sym (one_taken at.acc _ _ _)
              ∙ ap (λ (ts : List Term). sum_from at.acc ts)
              (sym (pass_both m.rows m.values (end_place m a) (end_place m b) m.nrows at.ia at.ib pa pb l h (le_antisymm (ltb-false _ _ v) (ltb-false _ _ u))
              (has.left.keeps.sorted.below a at.ia (record { column = has.left.there; low = w.low_a; high = l }))))
              ∙ w.left;
        }
