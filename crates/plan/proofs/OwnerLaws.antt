-- The walk of 10 tells and leaves what specs/Owners.antt says. Before entry k each row is held by the block of the first entry in it, if one came,
-- so the walk stops at the first clash and nowhere else; and a row's first entry is of its first block, since blocks come in order. Assumes nothing.
use Rattle.ground.proofs.ListLaws.{list_of_same, set-list_of, list_of_all, get_or-front}
use mathlib.Core.Path.{◌≡◌, refl, sym, ap, ◌∙◌, subst}
use mathlib.Core.Bool.{Bool, true, false, cond}
use mathlib.Core.List.{List, [], ◌∷◌, ◌++◌}
use Prim.Native.Nat.{ℕ, zero, suc, ◌+◌, ◌≤◌, ◌<◌}
use native.Mathlib.Numerals.{add-one}
use native.Mathlib.Omega.{arith}
use lib.Dec.{eqb, ltb}
use lib.ListN.{length, get_or, set, drop, replicate}
use lib.Seq.{drop-cons, drop-length, set-append_left}
use borrow.Author.Tests.{lt-ltb, le-ltb, eq-eqb, ne_eqb, ltb-true, eqb-true, eqb-false, not-true, not-false}
use Rattle.ground.specs.First.{first, some}
use Rattle.ground.specs.Gather.{gather, list_of}
use Rattle.ground.specs.Fold.{folded, All}
use Rattle.ground.specs.Buckets.{bucket}
use Rattle.ground.proofs.FirstLaws.{first_bad, first_none, first_stop, first_turn, first_more}
use Rattle.ground.proofs.GatherLaws.{length-list_of}
use Rattle.ground.proofs.EachLaws.{all_gather, all_part, Leads, leads_none, leads_one, leads_gather, leads_some, leads_same, all_gathered}
use Rattle.ground.proofs.BucketLaws.{bucket-gather}
use Rattle.ground.proofs.TestLaws.{and_true}
use Rattle.columns.specs.Refusals.{tell, done}
use Rattle.columns.specs.Columns.{Columns, first_in, end_in}
use Rattle.blocks.specs.Sides.{block_count, first_of, dof_of}
use Rattle.blocks.specs.Claims.{mark}
use Rattle.plan.specs.Owners.{in_column, in_block, owner_of, Entry, entry, entry_at, column_entries, block_entries, side_entries, entry_in_of, holder, clashes, first_clash, connected_told}
use Rattle.plan.specs.OwnerWalk.{owned, claim_on, claimed}
use Rattle.plan.proofs.OwnerRules.{step_free, step_own, step_held, stopped_all}

-- ---- who holds a row before entry k

module _ (es : List Entry) where
  abbrev pub in_row : ℕ → ℕ → Bool
  in_row r i = eqb (entry_in_of es i).row r

  -- the block of the first of k entries that lies in row r, or the mark
  unfoldable pub held_at : ℕ → ℕ → ℕ
  held_at k r = cond (some (in_row r) 0 k) (entry_in_of es (first (in_row r) 0 k)).block mark

  held_none : (k r : ℕ) → some (in_row r) 0 k ≡ false → held_at k r ≡ mark
  unfolding held_at
  held_none k r e = rw e

  pub held_first : (k r : ℕ) → some (in_row r) 0 k ≡ true → held_at k r ≡ (entry_in_of es (first (in_row r) 0 k)).block
  unfolding held_at
  held_first k r e = rw e

  more_of : (k f : ℕ) (a : Bool) → ltb f k ≡ a → (b : Bool)
      → cond (ltb (cond a f (cond b k (k + 1))) (k + 1)) (entry_in_of es (cond a f (cond b k (k + 1)))).block mark ≡ cond a (cond a (entry_in_of es f).block mark) (cond b (entry_in_of es k).block mark)
  more_of k f true e b = rw (lt-ltb f (k + 1) (omega (arith, ltb-true f k e)))
  more_of k f false e true = rw (lt-ltb k (k + 1) (omega arith))
  more_of k f false e false = rw (le-ltb (k + 1) (k + 1) (omega arith))

  held_more : (k r : ℕ) → held_at (k + 1) r ≡ cond (some (in_row r) 0 k) (held_at k r) (cond (in_row r k) (entry_in_of es k).block mark)
  unfolding held_at
  held_more k r = rw (first_more (in_row r) k) (more_of k (first (in_row r) 0 k) (some (in_row r) 0 k) refl (in_row r k))

  pub held_same : (k r : ℕ) → some (in_row r) 0 k ≡ true → held_at (k + 1) r ≡ held_at k r
  held_same k r e = held_more k r ∙ rw e

  pub held_new : (k r : ℕ) → some (in_row r) 0 k ≡ false → in_row r k ≡ true → held_at (k + 1) r ≡ (entry_in_of es k).block
  held_new k r e f = held_more k r ∙ rw (e, f)

  pub held-other : (k r : ℕ) → in_row r k ≡ false → held_at (k + 1) r ≡ held_at k r
  held-other k r f = held_more k r ∙ rw f (go (some (in_row r) 0 k) refl)
    where
      go : (a : Bool) → some (in_row r) 0 k ≡ a → cond a (held_at k r) mark ≡ held_at k r
      go true e = refl
      go false e = sym (held_none k r e)

  -- ---- a clash

  module _ (k : ℕ) where
    abbrev row : ℕ
    row = (entry_in_of es k).row

    pub clash_some : clashes es k ≡ true → some (in_row row) 0 k ≡ true
    unfolding clashes holder
    clash_some e = (and_true _ _ e).0

    pub clash_differs : clashes es k ≡ true → (entry_in_of es (holder es k)).block ≡ (entry_in_of es k).block → ⊥
    unfolding clashes
    clash_differs e = eqb-false _ _ (not-true _ (and_true (ltb (holder es k) k) _ e).1)

    pub clash_none : clashes es k ≡ false → some (in_row row) 0 k ≡ true → (entry_in_of es (holder es k)).block ≡ (entry_in_of es k).block
    unfolding clashes holder
    clash_none e s = eqb-true _ _ (not-false _ (rw s at e))

    pub holder-held : some (in_row row) 0 k ≡ true → held_at k row ≡ (entry_in_of es (holder es k)).block
    unfolding holder
    holder-held s = held_first k row s

  told_at : (k : ℕ) → k ≡ first_clash es → k < length es → connected_told es ≡ tell 10 ((entry_in_of es k).block ∷ (entry_in_of es (holder es k)).block ∷ [])
  unfolding connected_told
  told_at k e h = rw (← e, lt-ltb k (length es) h)

  told_none : length es ≤ first_clash es → connected_told es ≡ done
  unfolding connected_told
  told_none h = rw (le-ltb (first_clash es) (length es) h)

  -- ---- the walk

  module _ (n : ℕ) (rest : List ℕ) (inside : (k : ℕ) → k < length es → (entry_in_of es k).row < n) (unmarked : (k : ℕ) → k < length es → (entry_in_of es k).block ≡ mark → ⊥) where
    abbrev pub state_at : ℕ → List ℕ
    state_at k = list_of (held_at k) n ++ rest

    state_keeps : (k : ℕ) → some (in_row (entry_in_of es k).row) 0 k ≡ true → state_at k ≡ state_at (k + 1)
    state_keeps k e = ap (λ (l : List ℕ). l ++ rest) (list_of_same 0 (held_at k) (held_at (k + 1)) n (λ r _. sym (go r (in_row r k) refl)))
      where
        go : (r : ℕ) (b : Bool) → in_row r k ≡ b → held_at (k + 1) r ≡ held_at k r
        go r true f = held_same k r (rw (eqb-true (entry_in_of es k).row r f) at e)
        go r false f = held-other k r f

    state_set : (k : ℕ) → k < length es → some (in_row (entry_in_of es k).row) 0 k ≡ false → set (state_at k) (entry_in_of es k).row (entry_in_of es k).block ≡ state_at (k + 1)
    state_set k h e =
        let r : ℕ = (entry_in_of es k).row in
        let l : r < length (list_of (held_at k) n) = (rw (length-list_of (held_at k) 0 n) (inside k h)) in
        set-append_left (list_of (held_at k) n) rest r (entry_in_of es k).block l
        ∙ ap (λ (l : List ℕ). l ++ rest) (ap (λ (v : ℕ). set (list_of (held_at k) n) r v) (sym (held_new k r e (eq-eqb r r refl)))
        ∙ set-list_of 0 (held_at k) (held_at (k + 1)) n r (inside k h) (λ i ne. held-other k i (ne_eqb r i (λ q. ne (sym q)))))

    at_row : (k : ℕ) → k < length es → get_or (state_at k) (entry_in_of es k).row 0 ≡ held_at k (entry_in_of es k).row
    at_row k h = get_or-front 0 (held_at k) n rest (entry_in_of es k).row (inside k h)

    -- the one who holds the row is no mark
    at_held : (k : ℕ) → k < length es → some (in_row (entry_in_of es k).row) 0 k ≡ true → get_or (state_at k) (entry_in_of es k).row 0 ≡ mark → ⊥
    unfolding holder
    at_held k h s q =
        let g = ltb-true (holder es k) k s in
        unmarked (holder es k) (omega arith) (sym (holder-held k s) ∙ sym (at_row k h) ∙ q)

    step_goes : (k : ℕ) → k < length es → clashes es k ≡ false → claim_on (owned done (state_at k)) (entry_in_of es k) ≡ owned done (state_at (k + 1))
    step_goes k h c = go (some (in_row (entry_in_of es k).row) 0 k) refl
      where
        go : (b : Bool) → some (in_row (entry_in_of es k).row) 0 k ≡ b → claim_on (owned done (state_at k)) (entry_in_of es k) ≡ owned done (state_at (k + 1))
        go true s =
            step_own (state_at k) (entry_in_of es k) (at_held k h s) (at_row k h ∙ holder-held k s ∙ clash_none k c s) ∙ ap (λ (o : List ℕ). owned done o) (state_keeps k s)
        go false s = step_free (state_at k) (entry_in_of es k) (at_row k h ∙ held_none k _ s) ∙ ap (λ (o : List ℕ). owned done o) (state_set k h s)

    step_stops : (k : ℕ) → k < length es → clashes es k ≡ true
        → claim_on (owned done (state_at k)) (entry_in_of es k) ≡ owned (tell 10 ((entry_in_of es k).block ∷ (entry_in_of es (holder es k)).block ∷ [])) (state_at k)
    step_stops k h c =
        let s = clash_some k c in
        let e : get_or (state_at k) (entry_in_of es k).row 0 ≡ (entry_in_of es (holder es k)).block = at_row k h ∙ holder-held k s in
        step_held (state_at k) (entry_in_of es k) (at_held k h s) (λ q. clash_differs k c (sym e ∙ q))
        ∙ ap (λ (v : ℕ). owned (tell 10 ((entry_in_of es k).block ∷ v ∷ [])) (state_at k)) e

    walk_from : (m k : ℕ) → k + m ≡ length es → first (clashes es) k (length es) ≡ first_clash es
        → folded claim_on (owned done (state_at k)) (drop k es) ≡ owned (connected_told es) (state_at (first_clash es))
    unfolding folded
    walk_from zero k e inv =
        let q : k ≡ length es = omega arith in
        let c : first_clash es ≡ k = sym inv ∙ first_none (clashes es) k (length es) (omega arith) in
        let d : drop k es ≡ [] = (rw q (drop-length es)) in
        rw (d, told_none (omega arith), c)
    walk_from (suc m) k e inv = rw (drop-cons es k (entry 0 0) (omega arith)) (go (clashes es k) refl (walk_from m (k + 1) (omega arith)))
      where
        go : (b : Bool) → clashes es k ≡ b
            → (first (clashes es) (k + 1) (length es) ≡ first_clash es → folded claim_on (owned done (state_at (k + 1))) (drop (k + 1) es) ≡ owned (connected_told es) (state_at (first_clash es)))
            → folded claim_on (claim_on (owned done (state_at k)) (entry_in_of es k)) (drop (suc k) es) ≡ owned (connected_told es) (state_at (first_clash es))
        go true c ih =
            let q : k ≡ first_clash es = first_stop (clashes es) (omega arith) inv c in
            rw (step_stops k (omega arith) c)
            (stopped_all _ (drop (suc k) es) refl ∙ (rw (← q, told_at k q (omega arith))))
        go false c ih = rw (step_goes k (omega arith) c, add-one k) (rw (add-one k) at (ih (first_turn (clashes es) (omega arith) inv c)))

    -- THE WALK, from marks
    pub walk_is : claimed (replicate n mark ++ rest) es ≡ owned (connected_told es) (state_at (first_clash es))
    walk_is =
        ap (λ (l : List ℕ). claimed (l ++ rest) es) (sym (list_of_all (held_at 0) n mark (λ r _. held_none 0 r (le-ltb (first (in_row r) 0 0) 0 (omega arith)))))
        ∙ walk_from (length es) 0 (omega arith) refl

-- ---- the entries of a side, one by one

-- P of each entry is P of each place of each column of each block, and the other way round
module _ (m : Columns) (side : List ℕ) (P : Entry → Type 0) where
  pub side_all : ((b i p : ℕ) → b < block_count side → i < dof_of side b → first_in m.ptrs (first_of side b + i) ≤ p → p < end_in m.ptrs (first_of side b + i) → P (entry (get_or m.rows p 0) b))
      → All P (side_entries m side)
  unfolding block_entries column_entries entry_at
  side_all h =
      all_gather P (block_entries m.ptrs m.rows side) 0 (block_count side) (λ b _ l.
      all_gather P (λ i. column_entries m.ptrs m.rows b (first_of side b + i)) 0 (dof_of side b) (λ i _ g.
      all_gather P (entry_at m.rows b) (first_in m.ptrs (first_of side b + i)) (end_in m.ptrs (first_of side b + i)) (λ p low high. (h b i p l g low high, tt))))

  pub side-each : All P (side_entries m side) → (b i p : ℕ) → b < block_count side → i < dof_of side b → first_in m.ptrs (first_of side b + i) ≤ p → p < end_in m.ptrs (first_of side b + i)
      → P (entry (get_or m.rows p 0) b)
  unfolding block_entries column_entries entry_at
  side-each a b i p l g low high =
      (all_part P (entry_at m.rows b) (first_in m.ptrs (first_of side b + i)) (end_in m.ptrs (first_of side b + i)) p low high
      (all_part P (λ i. column_entries m.ptrs m.rows b (first_of side b + i)) 0 (dof_of side b) i (omega arith) g
      (all_part P (block_entries m.ptrs m.rows side) 0 (block_count side) b (omega arith) l a))).0

-- ---- the first entry in a row is of the first block that has one

abbrev row_of : Entry → ℕ
row_of x = x.row

-- an entry, in a list alone; x is the one that is meant
led_one : (r : ℕ) (x y : Entry) (b : Bool) → eqb x.row r ≡ b → (x.row ≡ r → x ≡ y) → Leads (bucket row_of r (x ∷ [])) b y
unfolding bucket
led_one r x y true e s = rw (e, s (eqb-true _ _ e)) (leads_one y)
led_one r x y false e s = rw e (leads_none y)

-- what a walk over places hands on
led_gather : (r : ℕ) (f : ℕ → List Entry) (t : ℕ → Bool) (v : ℕ → Entry) (lo hi : ℕ) → ((k : ℕ) → lo ≤ k → k < hi → Leads (bucket row_of r (f k)) (t k) (v k))
    → Leads (bucket row_of r (gather f lo hi)) (some t lo hi) (v (first t lo hi))
led_gather r f t v lo hi h = rw (bucket-gather row_of r f lo hi) (leads_gather (λ k. bucket row_of r (f k)) t v lo hi h)

-- any entries, by their places
led_by_place : (es : List Entry) (r : ℕ) → Leads (bucket row_of r es) (some (in_row es r) 0 (length es)) (entry_in_of es (first (in_row es r) 0 (length es)))
led_by_place es r =
    subst (λ (l : List Entry). Leads (bucket row_of r l) (some (in_row es r) 0 (length es)) (entry_in_of es (first (in_row es r) 0 (length es)))) (all_gathered (entry 0 0) es)
    (led_gather r (λ i. entry_in_of es i ∷ []) (in_row es r) (entry_in_of es) 0 (length es) (λ i _ _. led_one r (entry_in_of es i) (entry_in_of es i) (in_row es r i) refl (λ _. refl)))

-- those of a side, by its blocks
module _ (m : Columns) (side : List ℕ) (r : ℕ) where
  led_entry : (b p : ℕ) → Leads (bucket row_of r (entry_at m.rows b p)) (eqb (get_or m.rows p 0) r) (entry r b)
  unfolding entry_at
  led_entry b p = led_one r (entry (get_or m.rows p 0) b) (entry r b) (eqb (get_or m.rows p 0) r) refl (λ e. ap (λ (i : ℕ). entry i b) e)

  led_column : (b j : ℕ) → Leads (bucket row_of r (column_entries m.ptrs m.rows b j)) (in_column m r j) (entry r b)
  unfolding column_entries in_column
  led_column b j = led_gather r (entry_at m.rows b) (λ p. eqb (get_or m.rows p 0) r) (λ _. entry r b) (first_in m.ptrs j) (end_in m.ptrs j) (λ p _ _. led_entry b p)

  led_block : (b : ℕ) → Leads (bucket row_of r (block_entries m.ptrs m.rows side b)) (in_block m side r b) (entry r b)
  unfolding block_entries in_block
  led_block b =
      led_gather r (λ i. column_entries m.ptrs m.rows b (first_of side b + i)) (λ i. in_column m r (first_of side b + i)) (λ _. entry r b) 0 (dof_of side b) (λ i _ _.
      led_column b (first_of side b + i))

  led_side : Leads (bucket row_of r (side_entries m side)) (some (in_block m side r) 0 (block_count side)) (entry r (first (in_block m side r) 0 (block_count side)))
  led_side = led_gather r (block_entries m.ptrs m.rows side) (in_block m side r) (λ b. entry r b) 0 (block_count side) (λ b _ _. led_block b)

  pub owner-held : held_at (side_entries m side) (length (side_entries m side)) r ≡ owner_of m side r
  unfolding held_at owner_of
  owner-held = go _ refl _ refl (led_by_place (side_entries m side) r) led_side
    where
      go : (a : Bool) → some (in_row (side_entries m side) r) 0 (length (side_entries m side)) ≡ a → (b : Bool) → some (in_block m side r) 0 (block_count side) ≡ b
          → Leads (bucket row_of r (side_entries m side)) a (entry_in_of (side_entries m side) (first (in_row (side_entries m side) r) 0 (length (side_entries m side))))
          → Leads (bucket row_of r (side_entries m side)) b (entry r (first (in_block m side r) 0 (block_count side)))
          → cond (some (in_row (side_entries m side) r) 0 (length (side_entries m side))) (entry_in_of (side_entries m side) (first (in_row (side_entries m side) r) 0 (length (side_entries m side)))).block mark
          ≡ cond (some (in_block m side r) 0 (block_count side)) (first (in_block m side r) 0 (block_count side)) mark
      go true e true f p q = rw (e, f) (ap (λ (x : Entry). x.block) (leads_same _ _ _ p q))
      go true e false f p q = let z : ◌≡◌ {A = ℕ} 0 1 = cc (leads_some _ _ _ _ _ p q) in absurd (omega arith)
      go false e true f p q = let z : ◌≡◌ {A = ℕ} 0 1 = cc (leads_some _ _ _ _ _ p q) in absurd (omega arith)
      go false e false f p q = rw (e, f)

module _ (m : Columns) (elims : List ℕ) where
  -- an owner that is no mark is an eliminated block with an entry in the row
  pub owner-has : (r : ℕ) → (owner_of m elims r ≡ mark → ⊥) → (owner_of m elims r < block_count elims) × (in_block m elims r (owner_of m elims r) ≡ true)
  unfolding owner_of
  owner-has r ne = go (some (in_block m elims r) 0 (block_count elims)) refl ne
    where
      go : (b : Bool) → some (in_block m elims r) 0 (block_count elims) ≡ b → (cond b (first (in_block m elims r) 0 (block_count elims)) mark ≡ mark → ⊥)
          → (cond b (first (in_block m elims r) 0 (block_count elims)) mark < block_count elims) × (in_block m elims r (cond b (first (in_block m elims r) 0 (block_count elims)) mark) ≡ true)
      go true e ne = let h = ltb-true (first (in_block m elims r) 0 (block_count elims)) (block_count elims) e in (h, first_bad (in_block m elims r) 0 (block_count elims) h)
      go false e ne = absurd (ne refl)
