-- The columns of a side have no more entries than are lent, since no column stands twice in a side's list: so there is room for as many spans
-- and as many visible blocks as a side has entries. Assumes nothing.
use mathlib.Core.Path.{◌≡◌, refl, sym, ◌∙◌}
use mathlib.Core.Bool.{Bool, cond}
use mathlib.Core.List.{List}
use Prim.Native.Nat.{ℕ, zero, suc, ◌+◌, ◌-◌, ◌≤◌, ◌<◌}
use native.Mathlib.Decide.{ℕ_discrete}
use native.Mathlib.Nat.{le_trans}
use native.Mathlib.Omega.{arith}
use lib.Dec.{ltb}
use lib.ListN.{get_or}
use borrow.Author.Tests.{lt-ltb, le-ltb}
use Rattle.ground.proofs.NumberLaws.{not_more}
use Rattle.columns.specs.Columns.{Columns, column_count, entry_count, first_in, end_in, Keeps}
use Rattle.columns.proofs.CheckLaws.{column-run, columns_apart}
use Rattle.blocks.specs.Sides.{cols, side_dof, side_of}
use Rattle.blocks.specs.Claims.{Parted}
use Rattle.blocks.proofs.MapLaws.{cols_in, cols-once}
use Rattle.plan.specs.Entries.{entries_in}

-- they go by what stands at the first places of the list
pub entries_same : (ptrs cs ds : List ℕ) (n : ℕ) → ((l : ℕ) → l < n → get_or cs l 0 ≡ get_or ds l 0) → entries_in ptrs cs n ≡ entries_in ptrs ds n
unfolding entries_in
entries_same ptrs cs ds zero e = refl
entries_same ptrs cs ds (suc n) e = rw (entries_same ptrs cs ds n (λ l h. e l (omega arith)), e n (omega arith))

abbrev entries_of : List ℕ → ℕ → ℕ
entries_of ptrs j = end_in ptrs j - first_in ptrs j

-- the entries of those of the first n columns of cs that are below k
unfoldable entries_below : List ℕ → List ℕ → ℕ → ℕ → ℕ
entries_below ptrs cs k zero = 0
entries_below ptrs cs k (suc n) = entries_below ptrs cs k n + cond (ltb (get_or cs n 0) k) (entries_of ptrs (get_or cs n 0)) 0

module _ (ptrs cs : List ℕ) where
  none_below : (n : ℕ) → entries_below ptrs cs 0 n ≡ 0
  unfolding entries_below
  none_below zero = refl
  none_below (suc n) = rw (none_below n, le-ltb (get_or cs n 0) 0 (omega arith)) (omega arith)

  all_below : (k n : ℕ) → ((l : ℕ) → l < n → get_or cs l 0 < k) → entries_in ptrs cs n ≡ entries_below ptrs cs k n
  unfolding entries_below entries_in
  all_below k zero h = refl
  all_below k (suc n) h = rw (all_below k n (λ l p. h l (omega arith)), lt-ltb (get_or cs n 0) k (h n (omega arith)))

  -- where column k is not among them, it adds nothing
  more_none : (k n : ℕ) → ((l : ℕ) → l < n → get_or cs l 0 ≡ k → ⊥) → entries_below ptrs cs (suc k) n ≡ entries_below ptrs cs k n
  unfolding entries_below
  more_none k zero ne = refl
  more_none k (suc n) ne = rw (more_none k n (λ l p. ne l (omega arith)), not_more (get_or cs n 0) k (ne n (omega arith)))

  -- where it stands once, its entries at most
  more_once : (k n : ℕ) → ((i j : ℕ) → i < n → j < n → get_or cs i 0 ≡ k → get_or cs j 0 ≡ k → i ≡ j) → entries_below ptrs cs (suc k) n ≤ entries_below ptrs cs k n + entries_of ptrs k
  unfolding entries_below
  more_once k zero once = omega arith
  more_once k (suc n) once = go (ℕ_discrete (get_or cs n 0) k) (more_once k n (λ i j p q. once i j (omega arith) (omega arith)))
    where
      go : Dec (get_or cs n 0 ≡ k) → entries_below ptrs cs (suc k) n ≤ entries_below ptrs cs k n + entries_of ptrs k → entries_below ptrs cs (suc k) (suc n) ≤ entries_below ptrs cs k (suc n) + entries_of ptrs k
      go (yes e) ih =
          let f : entries_below ptrs cs (suc k) n ≡ entries_below ptrs cs k n = more_none k n (λ l p q. let z = once l n (omega arith) (omega arith) q e in omega arith) in
          rw (f, e, lt-ltb k (suc k) (omega arith)) (omega arith)
      go (no e) ih = rw (not_more (get_or cs n 0) k e) (omega arith)

-- ---- a side's list

module _ (m : Columns) (kept elims : List ℕ) (k : Keeps m) (p : Parted (column_count m) kept elims) (e : Bool) where
  abbrev side : List ℕ
  side = side_of e kept elims

  -- the columns below n of the side end before any later column begins
  apart : (n : ℕ) → n ≤ column_count m → ((j : ℕ) → n ≤ j → j < column_count m → entries_below m.ptrs (cols side) n (side_dof side) ≤ first_in m.ptrs j)
      × (entries_below m.ptrs (cols side) n (side_dof side) ≤ entry_count m)
  apart zero h = (λ j _ _. rw (none_below m.ptrs (cols side) (side_dof side)) (omega arith), rw (none_below m.ptrs (cols side) (side_dof side)) (omega arith))
  apart (suc n) h =
      let ih : entries_below m.ptrs (cols side) n (side_dof side) ≤ first_in m.ptrs n = (apart n (omega arith)).0 n (omega arith) h in
      let a = more_once m.ptrs (cols side) n (side_dof side) (λ i j q r x y. cols-once (column_count m) kept elims p e i j q r (x ∙ sym y)) in
      let r = column-run k.shaped n h in
      let b : entries_below m.ptrs (cols side) (suc n) (side_dof side) ≤ end_in m.ptrs n = omega (arith, r.order) in
      (λ j low high. le_trans b (columns_apart k.shaped n j low high), le_trans b r.inside)

  pub side-entries : entries_in m.ptrs (cols side) (side_dof side) ≤ entry_count m
  side-entries =
      rw (all_below m.ptrs (cols side) (column_count m) (side_dof side) (λ l h. cols_in (column_count m) kept elims p e l h)) (apart (column_count m) (omega arith)).1
