-- What a passed check of columns is worth, and that columns which keep the rules pass. The facts that the layers above need of good columns,
-- and what gives the functions of src/unchecked.rt their `requires`, are at the end. Assumes nothing.
use mathlib.Core.Path.{◌≡◌, refl, sym, ap, ◌∙◌, subst}
use mathlib.Core.Bool.{Bool, true, false, not, ◌&&◌, ◌||◌}
use mathlib.Core.List.{List, [], ◌∷◌}
use Prim.Native.Nat.{ℕ, zero, suc, ◌+◌, ◌-◌, ◌≤◌, ◌<◌}
use native.Mathlib.Nat.{le_trans, le_of_eq}
use native.Mathlib.Omega.{arith}
use lib.Dec.{ltb, leb, eqb}
use lib.ListN.{length, get_or}
use borrow.Author.Tests.{lt-ltb, le-ltb, lt-leb, eq-eqb, ne_eqb, ltb-true, ltb-false, leb-false, eqb-true, eqb-false, not-false}
use Rattle.ground.specs.First.{first}
use Rattle.ground.proofs.TestLaws.{rises_by}
use Rattle.ground.proofs.FirstLaws.{past_none, none_past, first_stop, first-low}
use Rattle.columns.specs.Refusals.{tell, done, Passes}
use Rattle.columns.specs.Columns.{Columns, columns_of, column_count, entry_count, first_in, end_in, first_place, end_place, too_big, falls, bad_shape, row_falls, row_bad, column_bad, bad_column, bad_row, checked, Small, Shaped, EntryOf, Sorted, Keeps}
use Rattle.columns.specs.Unchecked.{ColumnThere, RunThere, RunsThere, EntriesFit, HasColumn, Gathers}
use Rattle.columns.proofs.RefusalLaws.{passed}

-- ---- tests

pub or_false : (a b : Bool) → (a || b) ≡ false → (a ≡ false) × (b ≡ false)
or_false true b e = let z : ◌≡◌ {A = ℕ} 0 1 = cc in absurd (omega arith)
or_false false b e = (refl, e)

and_false : (a b : Bool) → a ≡ true → (a && b) ≡ false → b ≡ false
and_false a b t e = rw t at e

-- ---- 1

pub small_of : (nrows ncolumns entries : ℕ) → too_big nrows ncolumns entries ≡ false → (nrows ≤ 1_048_576) × (ncolumns ≤ 65_536) × (entries ≤ 16_777_216)
unfolding too_big
small_of nrows ncolumns entries e =
    let h = or_false (ltb 1_048_576 nrows) (ltb 65_536 ncolumns || ltb 16_777_216 entries) e in
    let g = or_false (ltb 65_536 ncolumns) (ltb 16_777_216 entries) h.1 in
    (ltb-false _ _ h.0, ltb-false _ _ g.0, ltb-false _ _ g.1)

small_ok : (m : Columns) → Small m → too_big m.nrows (column_count m) (entry_count m) ≡ false
unfolding too_big
small_ok m s = simp (le-ltb _ _ s.few-rows, le-ltb _ _ s.few-columns, le-ltb _ _ s.few-entries)

-- ---- 2

pub shape_of : (m : Columns) → bad_shape m.ptrs (entry_count m) (length m.values) ≡ false → Shaped m
unfolding bad_shape falls
shape_of m e =
    let ptrs = m.ptrs in
    let a = or_false (eqb (length ptrs) 0) _ e in
    let b = or_false (not (eqb (get_or ptrs 0 0) 0)) _ a.1 in
    let d = or_false (ltb (first (falls ptrs) 0 (length ptrs - 1)) (length ptrs - 1)) _ b.1 in
    let f = or_false (not (eqb (get_or ptrs (length ptrs - 1) 0) (entry_count m))) (not (eqb (length m.values) (entry_count m))) d.1 in
    let some : length ptrs ≡ 0 → ⊥ = eqb-false _ _ a.0 in
    record {
      pointed = omega arith;
      starts = eqb-true _ _ (not-false _ b.0);
      rises = λ j l. ltb-false _ _ (past_none (falls ptrs) 0 (length ptrs - 1) d.0 j (omega arith) l);
      ends = eqb-true _ _ (not-false _ f.0);
      paired = eqb-true _ _ (not-false _ f.1);
    }

shape_ok : (m : Columns) → Shaped m → bad_shape m.ptrs (entry_count m) (length m.values) ≡ false
unfolding bad_shape falls
shape_ok m s =
    let ptrs = m.ptrs in
    let some : length ptrs ≡ 0 → ⊥ = λ z. (let h = s.pointed in omega arith) in
    simp (ne_eqb _ _ some, eq-eqb _ _ s.starts, none_past (falls ptrs) 0 (length ptrs - 1) (λ k p l. le-ltb _ _ (s.rises k l)), eq-eqb _ _ s.ends, eq-eqb _ _ s.paired)

-- ---- places

module _ {m : Columns} (s : Shaped m) where
  -- pointers do not fall
  pub rising : (i d : ℕ) → i + d ≤ column_count m → get_or m.ptrs i 0 ≤ get_or m.ptrs (i + d) 0
  rising = rises_by m.ptrs (column_count m) s.rises

  within : (j : ℕ) → j ≤ column_count m → get_or m.ptrs j 0 ≤ entry_count m
  within j l =
      let e : j + (column_count m - j) ≡ column_count m = omega arith in
      le_trans (rising j (column_count m - j) (omega arith)) (le_of_eq (ap (λ (n : ℕ). get_or m.ptrs n 0) e ∙ s.ends))

  -- a column's places stand in order, among the entries
  pub column-run : (j : ℕ) → j < column_count m → RunThere (entry_count m) (first_place m j) (end_place m j)
  unfolding first_in end_in
  column-run j l = record { order = s.rises j l; inside = within (j + 1) (omega arith) }

  pub column-there : (j : ℕ) → j < column_count m → ColumnThere (length m.ptrs) j
  column-there j l = let e = s.pointed in record { there = omega arith }

  -- an earlier column ends before a later one begins
  pub columns_apart : (i j : ℕ) → i < j → j < column_count m → end_place m i ≤ first_place m j
  unfolding first_in end_in
  columns_apart i j h l =
      let e : i + 1 + (j - (i + 1)) ≡ j = omega arith in
      subst (λ (n : ℕ). get_or m.ptrs (i + 1) 0 ≤ get_or m.ptrs n 0) e (rising (i + 1) (j - (i + 1)) (omega arith))

-- ---- 3

module _ (m : Columns) where
  -- What the loop over the columns shows at column j: where it stops, where it goes on, and where it has passed all. n, from and to are what
  -- the code read: the column count, and the column's first and end places.
  module _ (j n : ℕ) (count : n ≡ column_count m) where
    -- p is the first bad place that the code found, or the column's end
    module _ (from to : ℕ) (f : from ≡ first_place m j) (t : to ≡ end_place m j) (p : ℕ) (g : p ≡ first (row_bad m.nrows m.rows from) from to) where
      column-is : ltb p to ≡ column_bad m j
      unfolding column_bad
      column-is = rw (← f, ← t) (ap (λ (q : ℕ). ltb q to) g)

      pub bad_row-at : j < n → first (column_bad m) j n ≡ bad_column m → p < to → tell 3 (j ∷ p ∷ []) ≡ bad_row m
      unfolding bad_row
      bad_row-at l inv h =
          let q : j ≡ bad_column m = first_stop (column_bad m) l inv (sym column-is ∙ lt-ltb p to h) in
          let k : j < column_count m = rw count at l in
          rw (← q, lt-ltb _ _ k, rw (f, t) at g)

      pub column-good : to ≤ p → column_bad m j ≡ false
      column-good h = sym column-is ∙ le-ltb p to h

    pub bad_row_none : n ≤ j → first (column_bad m) j n ≡ bad_column m → done ≡ bad_row m
    unfolding bad_row
    bad_row_none l inv = rw (le-ltb (bad_column m) (column_count m) (rw (← inv, ← count) (le_trans l (first-low (column_bad m) j n))))

  sorted_of : Passes (bad_row m) → Sorted m
  unfolding bad_row column_bad row_bad row_falls
  sorted_of e = record {
    below = λ j p w. leb-false _ _ (good j p w).0;
    ascends = λ j p w h. leb-false _ _ (and_false _ _ (lt-ltb _ _ h) (good j p w).1);
  }
    where
      good : (j p : ℕ) → EntryOf m j p → (leb m.nrows (get_or m.rows p 0) ≡ false) × ((ltb (first_place m j) p && leb (get_or m.rows p 0) (get_or m.rows (p - 1) 0)) ≡ false)
      good j p w =
          or_false _ _ (past_none (row_bad m.nrows m.rows (first_place m j)) (first_place m j) (end_place m j)
          (past_none (column_bad m) 0 (column_count m) (passed _ 2 _ done e).0 j (omega arith) w.column) p w.low w.high)

  sorted_ok : Sorted m → bad_row m ≡ done
  unfolding bad_row column_bad row_bad row_falls
  sorted_ok s =
      rw (none_past (column_bad m) 0 (column_count m) (λ j _ l.
      none_past (row_bad m.nrows m.rows (first_place m j)) (first_place m j) (end_place m j) (λ p low high.
      row-good j p (record { column = l; low = low; high = high }))))
    where
      last : (j p : ℕ) → EntryOf m j p → (b : Bool) → ltb (first_place m j) p ≡ b → (b && leb (get_or m.rows p 0) (get_or m.rows (p - 1) 0)) ≡ false
      last j p w true e = lt-leb _ _ (s.ascends j p w (ltb-true _ _ e))
      last j p w false e = refl

      row-good : (j p : ℕ) → EntryOf m j p → row_bad m.nrows m.rows (first_place m j) p ≡ false
      row-good j p w = rw (lt-leb _ _ (s.below j p w)) (last j p w (ltb (first_place m j) p) refl)

-- ---- both ways

-- what a pass is worth
pub passes_keeps : (m : Columns) → Passes (checked m) → Keeps m
unfolding checked
passes_keeps m e =
    let a = passed (too_big m.nrows (column_count m) (entry_count m)) 0 [] _ e in
    let b = passed (bad_shape m.ptrs (entry_count m) (length m.values)) 1 [] _ a.1 in
    let s = small_of m.nrows (column_count m) (entry_count m) a.0 in
    record {
      small = record { few-rows = s.0; few-columns = s.1; few-entries = s.2 };
      shaped = shape_of m b.0;
      sorted = sorted_of m b.1;
    }

-- columns that keep the rules pass
pub keeps_passes : (m : Columns) → Keeps m → checked m ≡ done
unfolding checked
keeps_passes m k = rw (small_ok m k.small, shape_ok m k.shaped) (sorted_ok m k.sorted)

-- ---- what the functions that check nothing ask

pub entries_fit : {m : Columns} {n j : ℕ} → Keeps m → j < column_count m → n ≡ m.nrows → EntriesFit m.rows (length m.values) n (first_place m j) (end_place m j)
entries_fit {m} {n} {j} k l e =
    let run = column-run k.shaped j l in
    record {
      each = λ p low high. record {
        there = omega (arith, run.inside);
        paired = k.shaped.paired;
        below = rw e (k.sorted.below j p (record { column = l; low = low; high = high }));
      };
    }

-- n stands for the length of a vector over the rows
pub has-column : (n nrows : ℕ) (ptrs rows : List ℕ) (values : _) (j : ℕ) → Keeps (columns_of nrows ptrs rows values) → n ≡ nrows → j < length ptrs - 1
    → HasColumn (columns_of n ptrs rows values) j
has-column n nrows ptrs rows values j k e l = rw e (record { keeps = k; there = l })

pub gathers_of : (n nrows : ℕ) (ptrs rows : List ℕ) (values : _) (places : ℕ) → Keeps (columns_of nrows ptrs rows values) → n ≡ nrows → places ≡ length ptrs - 1
    → Gathers (columns_of n ptrs rows values) places
gathers_of n nrows ptrs rows values places k e q = rw e (record { keeps = k; places = q })

pub runs-there : {m : Columns} → Keeps m → RunsThere m.ptrs (length m.values) (column_count m)
runs-there {m} k = record {
  column = λ j l. column-there k.shaped j l;
  run = λ j l. rw k.shaped.paired (column-run k.shaped j l);
}

-- a column's rows ascend from any entry to any later one
module _ {m : Columns} (s : Sorted m) (j : ℕ) (l : j < column_count m) where
  ascends_by : (d i : ℕ) → first_place m j ≤ i → i + suc d < end_place m j → get_or m.rows i 0 < get_or m.rows (i + suc d) 0
  ascends_by zero i low high =
      let e : i + 1 - 1 ≡ i = omega arith in
      rw e at (s.ascends j (i + 1) (record { column = l; low = omega arith; high = high }) (omega arith))
  ascends_by (suc d) i low high =
      let e : i + suc (suc d) - 1 ≡ i + suc d = omega arith in
      omega (arith, ascends_by d i low (omega arith), rw e at (s.ascends j (i + suc (suc d)) (record { column = l; low = omega arith; high = high }) (omega arith)))

  pub column-ascends : (i k : ℕ) → first_place m j ≤ i → i < k → k < end_place m j → get_or m.rows i 0 < get_or m.rows k 0
  column-ascends i k low h high =
      let e : i + suc (k - suc i) ≡ k = omega arith in
      subst (λ (n : ℕ). get_or m.rows i 0 < get_or m.rows n 0) e (ascends_by (k - suc i) i low (omega arith))
