-- A side's columns in local order, whatever its numbers are: block b's column at offset i has the local number of the earlier dofs plus i, and each
-- local number is of just one such column. Assumes nothing.
use Rattle.ground.proofs.ListLaws.{gather_less, gather-at, gather_from}
use mathlib.Core.Path.{◌≡◌, refl, sym, ap, ◌∙◌}
use mathlib.Core.Bool.{Bool, true, false, cond}
use mathlib.Core.List.{List, ◌++◌}
use Prim.Native.Nat.{ℕ, zero, suc, ◌+◌, ◌-◌, ◌≤◌, ◌<◌}
use native.Mathlib.Decide.{dec_lt}
use native.Mathlib.Omega.{arith}
use lib.ListN.{length, get_or, length-append, get_or-append}
use lib.Seq.{get_or-append-add}
use Rattle.ground.specs.Gather.{gather}
use Rattle.ground.proofs.GatherLaws.{gather_none, gather_last, length-list_of, get_or-list_of}
use Rattle.blocks.specs.Sides.{block_count, first_of, dof_of, block_columns, cols, offset_of, side_dof, HasAt, side_of}

module _ (side : List ℕ) where
  pub block-length : (b : ℕ) → length (block_columns side b) ≡ dof_of side b
  unfolding block_columns
  block-length b = length-list_of (λ i. first_of side b + i) 0 (dof_of side b)

  pub block_at : (b i : ℕ) → i < dof_of side b → get_or (block_columns side b) i 0 ≡ first_of side b + i
  unfolding block_columns
  block_at b i h = get_or-list_of (λ i. first_of side b + i) 0 (dof_of side b) i h

  -- the blocks before b have as many columns as their dofs
  pub offset-length : (b : ℕ) → length (gather (block_columns side) 0 b) ≡ offset_of side b
  unfolding offset_of
  offset-length zero = ap length (gather_none (block_columns side) 0 0 (omega arith))
  offset-length (suc b) =
      let e : b + 1 ≡ suc b = omega arith in
      ap (λ (k : ℕ). length (gather (block_columns side) 0 k)) (sym e)
      ∙ ap length (gather_last (block_columns side) 0 b (omega arith))
      ∙ length-append (gather (block_columns side) 0 b) (block_columns side b)
      ∙ (rw (offset-length b, block-length b))

  pub cols-length : length (cols side) ≡ side_dof side
  cols-length = offset-length (block_count side)

  -- a block ends before a later one begins
  pub offset-next : (a b : ℕ) → a < b → offset_of side a + dof_of side a ≤ offset_of side b
  offset-next a b h = rw (← offset-length a, ← block-length a, ← offset-length b) (gather_less 0 (block_columns side) a b h)

  -- the local number of a column
  pub cols-at : (b i : ℕ) → b < block_count side → i < dof_of side b → get_or (cols side) (offset_of side b + i) 0 ≡ first_of side b + i
  cols-at b i h l =
      rw (← offset-length b) (gather-at 0 (block_columns side) b (block_count side) i h (rw (block-length b) l)) ∙ block_at b i l

  pub local-low : (b i : ℕ) → b < block_count side → i < dof_of side b → offset_of side b + i < side_dof side
  local-low b i h l = omega (arith, offset-next b (block_count side) h)

-- the block and the offset of a local number
pub record LocalOf (side : List ℕ) (l : ℕ) : Type 0 where
  pub block : ℕ
  pub offset : ℕ
  pub has : HasAt side block offset (get_or (cols side) l 0)
  pub is : l ≡ offset_of side block + offset

pub cols_from : (side : List ℕ) (l : ℕ) → l < side_dof side → LocalOf side l
cols_from side l h =
    let r = gather_from (block_columns side) (block_count side) l (rw (cols-length side) h) in
    let i : r.offset < dof_of side r.block = rw (block-length side r.block) at r.inside in
    let e : l ≡ offset_of side r.block + r.offset = rw (offset-length side r.block) at r.is in
    record {
      block = r.block;
      offset = r.offset;
      has = record { block = r.below; offset = i; is = ap (λ (k : ℕ). get_or (cols side) k 0) e ∙ cols-at side r.block r.offset r.below i };
      is = e;
    }

-- and there is no other
pub local-once : (side : List ℕ) (a b i j : ℕ) → i < dof_of side a → j < dof_of side b → offset_of side a + i ≡ offset_of side b + j → (a ≡ b) × (i ≡ j)
local-once side a b i j h l e = go (dec_lt a b) (dec_lt b a)
  where
    go : Dec (a < b) → Dec (b < a) → (a ≡ b) × (i ≡ j)
    go (yes p) q = let g = offset-next side a b p in absurd (omega arith)
    go (no p) (yes q) = let g = offset-next side b a q in absurd (omega arith)
    go (no p) (no q) =
        let s : a ≡ b = omega arith in
        let z : offset_of side a ≡ offset_of side b = ap (λ (k : ℕ). offset_of side k) s in
        (s, omega arith)

-- a column has one offset in a block
pub offset-once : (side : List ℕ) (a b i j c : ℕ) → HasAt side a i c → HasAt side b j c → a ≡ b → i ≡ j
offset-once side a b i j c h g e =
    let z : first_of side a ≡ first_of side b = ap (λ (k : ℕ). first_of side k) e in
    let p = h.is in
    let q = g.is in
    omega arith

-- ---- two lists, one after the other: e says in which of them, as of the sides

abbrev pub base_of : Bool → List ℕ → ℕ
base_of e xs = cond e (length xs) 0

pub join_at : (xs ys : List ℕ) (e : Bool) (k : ℕ) → k < length (side_of e xs ys) → get_or (xs ++ ys) (base_of e xs + k) 0 ≡ get_or (side_of e xs ys) k 0
join_at xs ys true k h = get_or-append-add xs ys k 0
join_at xs ys false k h = let z : 0 + k ≡ k = omega arith in rw z (get_or-append xs ys 0 k h)

pub join_low : (xs ys : List ℕ) (e : Bool) (k : ℕ) → k < length (side_of e xs ys) → base_of e xs + k < length (xs ++ ys)
join_low xs ys true k h = let g = length-append xs ys in omega arith
join_low xs ys false k h = let g = length-append xs ys in omega arith

pub record Joined (xs ys : List ℕ) (k : ℕ) : Type 0 where
  pub second : Bool
  pub place : ℕ
  pub below : place < length (side_of second xs ys)
  pub is : k ≡ base_of second xs + place

pub join_from : (xs ys : List ℕ) (k : ℕ) → k < length (xs ++ ys) → Joined xs ys k
join_from xs ys k h = go (dec_lt k (length xs))
  where
    go : Dec (k < length xs) → Joined xs ys k
    go (yes p) = record { second = false; place = k; below = p; is = omega arith }
    go (no p) = let g = length-append xs ys in record { second = true; place = k - length xs; below = omega arith; is = omega arith }

pub join_once : (xs ys : List ℕ) (e f : Bool) (k l : ℕ) → k < length (side_of e xs ys) → l < length (side_of f xs ys) → base_of e xs + k ≡ base_of f xs + l → (e ≡ f) × (k ≡ l)
join_once xs ys true true k l h g q = (refl, omega arith)
join_once xs ys true false k l h g q = absurd (omega arith)
join_once xs ys false true k l h g q = absurd (omega arith)
join_once xs ys false false k l h g q = (refl, omega arith)
