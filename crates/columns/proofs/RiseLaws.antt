-- The laws of counts, and that where the quick test passes no row is bad. Assumes nothing.
use mathlib.Core.Path.{◌≡◌, refl, sym, ap, ◌∙◌}
use mathlib.Core.Bool.{Bool, true, false, not}
use mathlib.Core.List.{List}
use Prim.Native.Nat.{ℕ, zero, suc, ◌+◌, ◌-◌, ◌≤◌, ◌<◌}
use native.Mathlib.Omega.{arith}
use native.Mathlib.Decide.{dec_lt}
use lib.Dec.{ltb, leb, eqb}
use lib.ListN.{length, get_or}
use borrow.Author.Tests.{lt-ltb, le-ltb, le-leb, lt-leb, ltb-true, ltb-false, leb-false, eqb-true, not-true}
use Rattle.ground.specs.First.{some, None}
use Rattle.ground.proofs.FirstLaws.{past_none, none_past}
use Rattle.ground.proofs.Rules.{searches}
use Rattle.ground.proofs.TestLaws.{and_true}
use Rattle.columns.specs.Columns.{Columns, column_count, entry_count, first_in, end_in, too_big, row_falls, row_bad, column_bad, bad_row, Shaped}
use Rattle.columns.specs.Unchecked.{ColumnThere, RunThere}
use Rattle.columns.specs.Refusals.{done}
use Rattle.columns.proofs.CheckLaws.{small_of, rising, column-run, column-there}
use Rattle.columns.proofs.CheckRules.{column_empty, column-falls}
use Rattle.columns.proofs.CountLaws.{byte_bit, byte_most, count_none, count-first, count_split, count_most, count_all, count_turn, count-done}
use Rattle.columns.specs.Rises.{bit_of, count, row_rises, begins_low, ends_high, column_low, column_high, all_rise, RisesFit}

-- ---- the quick test

-- a row rises exactly where it does not fall
bits_one : (rows : List ℕ) (p : ℕ) → bit_of (row_rises rows p) + bit_of (row_falls rows p) ≡ 1
unfolding bit_of row_rises row_falls
bits_one rows p = go (ltb (get_or rows (p - 1) 0) (get_or rows p 0)) refl
  where
    go : (b : Bool) → ltb (get_or rows (p - 1) 0) (get_or rows p 0) ≡ b → bit_of b + bit_of (leb (get_or rows p 0) (get_or rows (p - 1) 0)) ≡ 1
    go true e = rw (lt-leb (get_or rows p 0) (get_or rows (p - 1) 0) (ltb-true (get_or rows (p - 1) 0) (get_or rows p 0) e))
    go false e = rw (le-leb (get_or rows p 0) (get_or rows (p - 1) 0) (ltb-false (get_or rows (p - 1) 0) (get_or rows p 0) e))

rise-good : (rows : List ℕ) (p : ℕ) → row_rises rows p ≡ true → row_falls rows p ≡ false
unfolding row_rises row_falls
rise-good rows p e = lt-leb (get_or rows p 0) (get_or rows (p - 1) 0) (ltb-true (get_or rows (p - 1) 0) (get_or rows p 0) e)

-- none is counted at place 0
rises_from : (rows : List ℕ) (n : ℕ) → count (row_rises rows) 0 n ≡ count (row_rises rows) 1 n
unfolding bit_of row_rises
rises_from rows zero = count_none (row_rises rows) 0 0 (omega arith) ∙ sym (count_none (row_rises rows) 1 0 (omega arith))
rises_from rows (suc n) =
    let z : bit_of (row_rises rows 0) ≡ 0 = ap bit_of (le-ltb (get_or rows 0 0) (get_or rows 0 0) (omega arith)) in
    omega (arith, count-first (row_rises rows) 0 (suc n) (omega arith), z)

module _ (rows : List ℕ) (from to : ℕ) where
  -- of a run, the places that rise and a first that does not
  abbrev seen : ℕ
  seen = count (row_rises rows) from to + bit_of (begins_low rows from to)

  run_none : to ≤ from → seen ≡ 0
  unfolding bit_of begins_low
  run_none h = rw (count_none (row_rises rows) from to h, le-ltb from to h)

  run-some : from < to → seen ≡ 1 + count (row_rises rows) (from + 1) to
  unfolding begins_low
  run-some h = rw (lt-ltb from to h) (omega (arith, count-first (row_rises rows) from to h, bits_one rows from))

  run_most : seen ≤ to - from
  run_most = go (dec_lt from to)
    where
      go : Dec (from < to) → seen ≤ to - from
      go (yes h) = omega (arith, run-some h, count_most (row_rises rows) (from + 1) to)
      go (no h) = omega (arith, run_none (omega arith))

  -- where as many are counted as there are places, no row falls but for the first
  run-full : to - from ≤ seen → None (row_falls rows) (from + 1) to
  run-full full p l h =
      rise-good rows p (count_all (row_rises rows) (from + 1) to p l h (omega (arith, run-some (omega arith))))

low-is : (ptrs rows : List ℕ) (j : ℕ) → column_low ptrs rows j ≡ begins_low rows (get_or ptrs j 0) (get_or ptrs (j + 1) 0)
unfolding column_low first_in end_in
low-is ptrs rows j = refl

module _ {m : Columns} (s : Shaped m) where
  abbrev ptr : ℕ → ℕ
  ptr j = get_or m.ptrs j 0

  abbrev rises : ℕ → ℕ → ℕ
  rises lo hi = count (row_rises m.rows) lo hi

  abbrev lows : ℕ → ℕ → ℕ
  lows lo hi = count (column_low m.ptrs m.rows) lo hi

  -- one column more
  lows_last : (i j : ℕ) → i ≤ j → lows i (j + 1) ≡ lows i j + bit_of (begins_low m.rows (ptr j) (ptr (j + 1)))
  lows_last i j l =
      omega (
        arith,
        count_split (column_low m.ptrs m.rows) i j (j + 1) l (omega arith),
        count-first (column_low m.ptrs m.rows) j (j + 1) (omega arith),
        count_none (column_low m.ptrs m.rows) (j + 1) (j + 1) (omega arith),
        ap bit_of (low-is m.ptrs m.rows j),
      )

  -- columns i up to i + d count no more than their places
  columns_most : (d i : ℕ) → i + d ≤ column_count m → rises (ptr i) (ptr (i + d)) + lows i (i + d) ≤ ptr (i + d) - ptr i
  columns_most zero i l =
      let e : i + 0 ≡ i = omega arith in
      rw e (omega (arith, count_none (row_rises m.rows) (ptr i) (ptr i) (omega arith), count_none (column_low m.ptrs m.rows) i i (omega arith)))
  columns_most (suc d) i l =
      let e : i + suc d ≡ i + d + 1 = omega arith in
      let a = rising s i d (omega arith) in
      let b = s.rises (i + d) (omega arith) in
      rw e (omega (
        arith,
        columns_most d i (omega arith),
        count_split (row_rises m.rows) (ptr i) (ptr (i + d)) (ptr (i + d + 1)) a b,
        lows_last i (i + d) (omega arith),
        run_most m.rows (ptr (i + d)) (ptr (i + d + 1)),
        a,
        b,
      ))

  -- where all columns count as many as there are entries, each counts as many as its places
  column-full : (j : ℕ) → j < column_count m → entry_count m ≤ rises 1 (entry_count m) + lows 0 (column_count m)
      → ptr (j + 1) - ptr j ≤ seen m.rows (ptr j) (ptr (j + 1))
  column-full j l full =
      let e : j + 1 + (column_count m - (j + 1)) ≡ column_count m = omega arith in
      let z : 0 + j ≡ j = omega arith in
      let a = rw z at (rising s 0 j (omega arith)) in
      let b = s.rises j l in
      let d = rw (e, s.ends) at (rising s (j + 1) (column_count m - (j + 1)) (omega arith)) in
      omega (
        arith,
        full,
        rises_from m.rows (entry_count m),
        rw (z, s.starts) at (columns_most j 0 (omega arith)),
        rw (e, s.ends) at (columns_most (column_count m - (j + 1)) (j + 1) (omega arith)),
        count_split (row_rises m.rows) 0 (ptr j) (entry_count m) (omega arith) (omega (arith, b, d)),
        count_split (row_rises m.rows) (ptr j) (ptr (j + 1)) (entry_count m) b d,
        count_split (column_low m.ptrs m.rows) 0 (j + 1) (column_count m) (omega arith) (omega arith),
        lows_last 0 j (omega arith),
        a,
        b,
        d,
      )

  high_last : (j : ℕ) → ptr j < ptr (j + 1) → column_high m.nrows m.ptrs m.rows j ≡ false → get_or m.rows (ptr (j + 1) - 1) 0 < m.nrows
  unfolding column_high ends_high first_in end_in
  high_last j h e = leb-false m.nrows (get_or m.rows (ptr (j + 1) - 1) 0) (rw (lt-ltb (ptr j) (ptr (j + 1)) h) at e)

  column_fine : (j : ℕ) → ptr (j + 1) - ptr j ≤ seen m.rows (ptr j) (ptr (j + 1)) → column_high m.nrows m.ptrs m.rows j ≡ false → column_bad m j ≡ false
  unfolding column_bad first_in end_in
  column_fine j full low = go (dec_lt (ptr j) (ptr (j + 1)))
    where
      go : Dec (ptr j < ptr (j + 1)) → some (row_bad m.nrows m.rows (ptr j)) (ptr j) (ptr (j + 1)) ≡ false
      go (yes h) =
          sym (column-falls m.nrows m.rows (ptr j) (ptr (j + 1)) (get_or m.rows (ptr (j + 1) - 1) 0) false h refl (high_last j h low)
          (sym (none_past (row_falls m.rows) (ptr j + 1) (ptr (j + 1)) (run-full m.rows (ptr j) (ptr (j + 1)) full))))
      go (no h) = sym (column_empty m.nrows m.rows (ptr j) (ptr (j + 1)) (omega arith))

  -- what the quick test asks
  pub rises-fit : too_big m.nrows (column_count m) (entry_count m) ≡ false → RisesFit m.ptrs m.rows
  rises-fit e =
      let few = small_of m.nrows (column_count m) (entry_count m) e in
      record {
        runs = record { column = λ j l. column-there s j l; run = λ j l. column-run s j l };
        few-columns = few.1;
        few-entries = few.2;
      }

  -- where the quick test passes, no row is bad
  pub all_rise-done : all_rise m.nrows m.ptrs m.rows ≡ true → done ≡ bad_row m
  unfolding all_rise bad_row
  all_rise-done e =
      let a = and_true (not (some (column_high m.nrows m.ptrs m.rows) 0 (column_count m))) (eqb (rises 1 (entry_count m) + lows 0 (column_count m)) (entry_count m)) e in
      let h = past_none (column_high m.nrows m.ptrs m.rows) 0 (column_count m) (not-true _ a.0) in
      let q = eqb-true (rises 1 (entry_count m) + lows 0 (column_count m)) (entry_count m) a.1 in
      rw (none_past (column_bad m) 0 (column_count m) (λ j _ l. column_fine j (column-full j l (omega (arith, q))) (h j (omega arith) l)))

-- ---- what the functions of src/check.rt show

pub rises_read : (rows : List ℕ) (p : ℕ) → ltb (get_or rows (p - 1) 0) (get_or rows p 0) ≡ row_rises rows p
unfolding row_rises
rises_read rows p = refl

module _ (rows : List ℕ) (from to : ℕ) where
  pub begins_none : to ≤ from → false ≡ begins_low rows from to
  unfolding begins_low
  begins_none h = rw (le-ltb from to h)

  pub begins_all : from < to → from ≡ 0 → true ≡ begins_low rows from to
  unfolding begins_low row_falls
  begins_all h e = rw (lt-ltb from to h, e) (sym (le-leb (get_or rows 0 0) (get_or rows 0 0) (omega arith)))

  pub begins-falls : (b : Bool) → from < to → b ≡ row_falls rows from → b ≡ begins_low rows from to
  unfolding begins_low
  begins-falls b h e = rw (lt-ltb from to h) e

  pub ends_none : (nrows : ℕ) → to ≤ from → false ≡ ends_high nrows rows from to
  unfolding ends_high
  ends_none nrows h = rw (le-ltb from to h)

  pub ends_last : (nrows last : ℕ) → from < to → last ≡ get_or rows (to - 1) 0 → leb nrows last ≡ ends_high nrows rows from to
  unfolding ends_high
  ends_last nrows last h e = rw (lt-ltb from to h, e)

-- n is the column count, from and to are column j's first and end places, as the code read them
module _ (ptrs rows : List ℕ) (n j from to : ℕ) where
  pub rise-there : RisesFit ptrs rows → n ≡ length ptrs - 1 → j < n → ColumnThere (length ptrs) j
  rise-there f e l = f.runs.column j (rw e at l)

  pub rise-run : RisesFit ptrs rows → n ≡ length ptrs - 1 → j < n → from ≡ first_in ptrs j → to ≡ end_in ptrs j → RunThere (length rows) from to
  rise-run f e l a b = rw (a, b) (f.runs.run j (rw e at l))

module _ (nrows : ℕ) (ptrs rows : List ℕ) (j from to : ℕ) where
  -- t is what the test of the column's last row answered
  pub high-at : (t b : Bool) → t ≡ ends_high nrows rows from to → from ≡ first_in ptrs j → to ≡ end_in ptrs j → t ≡ b → column_high nrows ptrs rows j ≡ b
  unfolding column_high
  high-at t b call a e test = sym (rw (a, e) at call) ∙ test

module _ (ptrs rows : List ℕ) (j from to : ℕ) where
  pub low-at : (t : Bool) → t ≡ begins_low rows from to → from ≡ first_in ptrs j → to ≡ end_in ptrs j → t ≡ column_low ptrs rows j
  unfolding column_low
  low-at t call a e = rw (a, e) at call

pub rises-few : (rows : List ℕ) (r : ℕ) → r ≡ count (row_rises rows) 1 (length rows) → r ≤ length rows + 0
rises-few rows r e = omega (arith, count_most (row_rises rows) 1 (length rows))

module _ (nrows : ℕ) (ptrs rows : List ℕ) where
  pub rise_stops : true ≡ some (column_high nrows ptrs rows) 0 (length ptrs - 1) → false ≡ all_rise nrows ptrs rows
  unfolding all_rise
  rise_stops e = rw (← e)

  pub rise-told : (n : ℕ) → false ≡ some (column_high nrows ptrs rows) 0 (length ptrs - 1)
      → n ≡ count (row_rises rows) 1 (length rows) + count (column_low ptrs rows) 0 (length ptrs - 1) → eqb n (length rows) ≡ all_rise nrows ptrs rows
  unfolding all_rise
  rise-told n e q = rw (← e, q)

pub ruleset counting = (searches, byte_bit, byte_most, rises_read, begins_none, begins_all, begins-falls, ends_none, ends_last, count_turn, count-done, rise-there, rise-run)
