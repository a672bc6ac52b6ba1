-- Refused with 10 exactly if some row has entries of two different eliminated blocks; and where that is not so the owner of a row is the one eliminated
-- block with an entry in it. Nothing is asked of the columns or the blocks. Assumes nothing.
use mathlib.Core.Path.{◌≡◌, refl, sym, ap, ◌∙◌}
use mathlib.Core.Bool.{Bool, true, false, cond}
use mathlib.Core.List.{List, [], ◌∷◌}
use Prim.Native.Nat.{ℕ, ◌+◌, ◌≤◌, ◌<◌}
use native.Mathlib.Omega.{arith}
use lib.Dec.{eqb, ltb}
use lib.ListN.{length, get_or}
use borrow.Author.Tests.{eq-eqb, ltb-true, eqb-true}
use Rattle.ground.specs.First.{first, some, None}
use Rattle.ground.specs.Fold.{All}
use Rattle.ground.proofs.FirstLaws.{first_bad, first-before, first-is, first-low, past_none, none_past, some_at}
use Rattle.ground.proofs.EachLaws.{all_of, all_at}
use Rattle.columns.specs.Refusals.{tell, done, Passes}
use Rattle.columns.specs.Columns.{Columns, first_in, end_in, first_place, end_place}
use Rattle.columns.proofs.RefusalLaws.{passed}
use Rattle.blocks.specs.Sides.{block_count, first_of, dof_of}
use Rattle.blocks.specs.Claims.{mark}
use Rattle.plan.specs.Owners.{in_column, in_block, owner_of, Entry, entry, side_entries, entry_in_of, holder, clashes, first_clash, connected_told, Connects}
use Rattle.plan.proofs.OwnerLaws.{in_row, held_at, held_first, clash_some, clash_differs, clash_none, owner-held, side_all, side-each}

-- ---- entries and blocks

module _ (m : Columns) (side : List ℕ) where
  -- place p of the column at offset i of block b
  pub entry_in : (b i p : ℕ) → i < dof_of side b → first_in m.ptrs (first_of side b + i) ≤ p → p < end_in m.ptrs (first_of side b + i) → in_block m side (get_or m.rows p 0) b ≡ true
  unfolding in_block in_column
  entry_in b i p h low high =
      some_at (λ i. in_column m (get_or m.rows p 0) (first_of side b + i)) 0 (dof_of side b) i (omega arith) h
      (some_at (λ q. eqb (get_or m.rows q 0) (get_or m.rows p 0)) (first_in m.ptrs (first_of side b + i)) (end_in m.ptrs (first_of side b + i)) p low high (eq-eqb (get_or m.rows p 0) (get_or m.rows p 0) refl))

  -- each entry's block has an entry in its row
  abbrev Has : Entry → Type 0
  Has x = (x.block < block_count side) × (in_block m side x.row x.block ≡ true)

  entries_have : All Has (side_entries m side)
  entries_have = side_all m side Has (λ b i p l h low high. (l, entry_in b i p h low high))

  -- and what holds of each entry holds of one of a block that has one in row r
  entry_of : (P : Entry → Type 0) → All P (side_entries m side) → (r b : ℕ) → b < block_count side → in_block m side r b ≡ true → P (entry r b)
  unfolding in_block in_column
  entry_of P a r b l e =
      let i : ℕ = first (λ i. in_column m r (first_of side b + i)) 0 (dof_of side b) in
      let h : i < dof_of side b = ltb-true _ _ e in
      let f : in_column m r (first_of side b + i) ≡ true = first_bad (λ i. in_column m r (first_of side b + i)) 0 (dof_of side b) h in
      let j : ℕ = first_of side b + i in
      let p : ℕ = first (λ q. eqb (get_or m.rows q 0) r) (first_place m j) (end_place m j) in
      let high : p < end_place m j = ltb-true _ _ f in
      let q : get_or m.rows p 0 ≡ r = eqb-true _ _ (first_bad (λ q. eqb (get_or m.rows q 0) r) (first_place m j) (end_place m j) high) in
      rw q at (side-each m side P a b i p l h (first-low (λ q. eqb (get_or m.rows q 0) r) (first_place m j) (end_place m j)) high)

-- ---- entries that do not clash

-- the first entry of a row has the block of every one
pub held_by_all : (es : List Entry) → None (clashes es) 0 (length es) → (k : ℕ) → k < length es → held_at es (length es) (entry_in_of es k).row ≡ (entry_in_of es k).block
unfolding holder
held_by_all es none k h =
    held_first es (length es) r (some_at (in_row es r) 0 (length es) k (omega arith) h (eq-eqb r r refl)) ∙ go (some (in_row es r) 0 k) refl
  where
    r : ℕ
    r = (entry_in_of es k).row

    go : (b : Bool) → some (in_row es r) 0 k ≡ b → (entry_in_of es (first (in_row es r) 0 (length es))).block ≡ (entry_in_of es k).block
    go true s =
        let l : holder es k < k = ltb-true _ _ s in
        ap (λ (i : ℕ). (entry_in_of es i).block) (first-is (in_row es r) 0 (length es) (holder es k) (omega arith) (omega arith) (first_bad (in_row es r) 0 k l) (first-before (in_row es r) 0 k))
        ∙ clash_none es k (none k (omega arith) h) s
    go false s = ap (λ (i : ℕ). (entry_in_of es i).block) (first-is (in_row es r) 0 (length es) k (omega arith) h (eq-eqb r r refl) (past_none (in_row es r) 0 k s))

-- ---- THE LAW

module _ (m : Columns) (elims : List ℕ) where
  abbrev es : List Entry
  es = side_entries m elims

  -- where 10 is not told, any eliminated block with an entry in a row is the row's owner
  pub owner-is : Passes (connected_told es) → (r b : ℕ) → b < block_count elims → in_block m elims r b ≡ true → owner_of m elims r ≡ b
  unfolding connected_told
  owner-is p r b l e =
      let none = past_none (clashes es) 0 (length es) (passed _ 9 _ done p).0 in
      entry_of m elims (λ x. owner_of m elims x.row ≡ x.block)
      (all_of (λ x. owner_of m elims x.row ≡ x.block) (entry 0 0) es (λ k h. sym (owner-held m elims (entry_in_of es k).row) ∙ held_by_all es none k h)) r b l e

  pub told_connects : (connected_told es).number ≡ 10 → Connects m elims
  unfolding connected_told holder
  told_connects e = go (ltb (first_clash es) (length es)) refl e
    where
      go : (b : Bool) → ltb (first_clash es) (length es) ≡ b
          → (cond b (tell 10 ((entry_in_of es (first_clash es)).block ∷ (entry_in_of es (holder es (first_clash es))).block ∷ [])) done).number ≡ 10 → Connects m elims
      go true f q =
          let k : ℕ = first_clash es in
          let h : k < length es = ltb-true _ _ f in
          let c : clashes es k ≡ true = first_bad (clashes es) 0 (length es) h in
          let l : holder es k < k = ltb-true _ _ (clash_some es k c) in
          let s : (entry_in_of es (holder es k)).row ≡ (entry_in_of es k).row = eqb-true _ _ (first_bad (in_row es (entry_in_of es k).row) 0 k l) in
          let a = all_at (Has m elims) (entry 0 0) es k (entries_have m elims) h in
          let b = all_at (Has m elims) (entry 0 0) es (holder es k) (entries_have m elims) (omega arith) in
          record {
            row = (entry_in_of es k).row;
            one = (entry_in_of es k).block;
            other = (entry_in_of es (holder es k)).block;
            one-there = a.0;
            other-there = b.0;
            one_in = a.1;
            other_in = rw s at b.1;
            differ = λ w. clash_differs es k c (sym w);
          }
      go false f q = absurd (omega arith)

  pub connects_told : Connects m elims → (connected_told es).number ≡ 10
  unfolding connected_told
  connects_told c = go (ltb (first_clash es) (length es)) refl owner-is
    where
      go : (b : Bool) → ltb (first_clash es) (length es) ≡ b → (Passes (connected_told es) → (r b : ℕ) → b < block_count elims → in_block m elims r b ≡ true → owner_of m elims r ≡ b)
          → (cond b (tell 10 ((entry_in_of es (first_clash es)).block ∷ (entry_in_of es (holder es (first_clash es))).block ∷ [])) done).number ≡ 10
      go true f o = refl
      go false f o =
          let p : Passes (connected_told es) = (rw f refl) in
          absurd (c.differ (sym (o p c.row c.one c.one-there c.one_in) ∙ o p c.row c.other c.other-there c.other_in))

  -- and the mark stands where no eliminated block has one
  pub owner_none : (r : ℕ) → ((b : ℕ) → b < block_count elims → in_block m elims r b ≡ false) → owner_of m elims r ≡ mark
  unfolding owner_of
  owner_none r none = rw (none_past (in_block m elims r) 0 (block_count elims) (λ b _ h. none b h))
