-- A reader's walk over a column. At each turn it knows the least row that may stand at its place, and that no row before it is bad: so where
-- it stops is the first bad row, or the column's end. And a bad row stands as far into the column's own part of the rows as it stands from the
-- column's first place. Assumes nothing.
use mathlib.Core.Path.{◌≡◌, refl, sym, ap, ◌∙◌}
use mathlib.Core.Bool.{Bool, true, false, ◌&&◌, ◌||◌, cond}
use mathlib.Core.List.{List}
use Prim.Native.Nat.{ℕ, zero, suc, ◌+◌, ◌-◌, ◌≤◌, ◌<◌, ◌^◌}
use native.Mathlib.Nat.{le_antisymm}
use native.Mathlib.Omega.{arith}
use lib.Dec.{ltb, leb, lit<}
use lib.ListN.{length, get_or, take, drop, length-drop}
use lib.Seq.{get_or-take, get_or-drop, length-take-le}
use borrow.Author.Tests.{lt-ltb, le-ltb, ltb-true, ltb-false, leb-true, leb-false}
use Rattle.ground.specs.First.{first_n, first}
use Rattle.ground.proofs.FirstLaws.{first_turn, first_stop, first_end, first-high}
use Rattle.columns.specs.Columns.{row_falls, row_bad}
use Rattle.columns.specs.Reader.{step_at, stops_at, above_of}
use Rattle.columns.specs.Unchecked.{RunThere}

-- ---- the rows

-- the least row that may stand at place p of a column
unfoldable pub least_at : List ℕ → ℕ → ℕ
least_at rows p = cond (ltb 0 p) (get_or rows (p - 1) 0 + 1) 0

pub least_first : (rows : List ℕ) → 0 ≡ least_at rows 0
unfolding least_at
least_first rows = refl

pub least_next : (rows : List ℕ) (p : ℕ) → get_or rows p 0 + 1 ≡ least_at rows (p + 1)
unfolding least_at
least_next rows p = let q : p + 1 - 1 ≡ p = omega arith in rw (lt-ltb 0 (p + 1) (omega arith), q)

-- a row is bad that is too large or below that
pub row_is : (nrows : ℕ) (rows : List ℕ) (p : ℕ) → (leb nrows (get_or rows p 0) || ltb (get_or rows p 0) (least_at rows p)) ≡ row_bad nrows rows 0 p
unfolding row_bad row_falls least_at
row_is nrows rows p = ap (λ (b : Bool). leb nrows (get_or rows p 0) || b) (go (ltb 0 p))
  where
    at : (b : Bool) → leb (get_or rows p 0) (get_or rows (p - 1) 0) ≡ b → ltb (get_or rows p 0) (get_or rows (p - 1) 0 + 1) ≡ b
    at true e = lt-ltb (get_or rows p 0) (get_or rows (p - 1) 0 + 1) (omega (arith, leb-true (get_or rows p 0) (get_or rows (p - 1) 0) e))
    at false e = le-ltb (get_or rows p 0) (get_or rows (p - 1) 0 + 1) (omega (arith, leb-false (get_or rows p 0) (get_or rows (p - 1) 0) e))

    go : (b : Bool) → ltb (get_or rows p 0) (cond b (get_or rows (p - 1) 0 + 1) 0) ≡ (b && leb (get_or rows p 0) (get_or rows (p - 1) 0))
    go true = at (leb (get_or rows p 0) (get_or rows (p - 1) 0)) refl
    go false = le-ltb (get_or rows p 0) 0 (omega arith)

-- ---- the walk

-- what a walk comes to at a place where row x stands, and where none is left
module _ (nrows : ℕ) (rows : List ℕ) (least at : ℕ) where
  module _ (x : ℕ) (l : at < length rows) (e : x ≡ get_or rows at 0) where
    pub stops_there : (leb nrows x || ltb x least) ≡ stops_at nrows least (step_at rows at)
    unfolding stops_at
    stops_there = rw (lt-ltb at (length rows) l, e)

    pub above_there : x + 1 ≡ above_of (step_at rows at)
    unfolding above_of
    above_there = rw (lt-ltb at (length rows) l, e)

  pub stops_ended : length rows ≤ at → stops_at nrows least (step_at rows at) ≡ true
  unfolding stops_at
  stops_ended h = rw (le-ltb at (length rows) h)

module _ (nrows : ℕ) (rows : List ℕ) where
  abbrev bad : ℕ → Bool
  bad p = row_bad nrows rows 0 p

  -- what the walk knows at its place
  pub record WalkedTo : Type 0 where
    pub at : ℕ
    pub least : ℕ
    -- it is a number of the machine's
    pub fits : least < 2 ^ 64
    pub inside : at ≤ length rows
    pub floor : least ≡ least_at rows at
    -- no row before is bad
    pub rest : first bad at (length rows) ≡ first bad 0 (length rows)

  abbrev pub walk_start : WalkedTo
  walk_start = record { at = 0; least = 0; fits = lit< tt; inside = omega arith; floor = least_first rows; rest = refl }

  module _ (w : WalkedTo) where
    abbrev Stops : Bool → Type 0
    Stops b = stops_at nrows w.least (step_at rows w.at) ≡ b

    pub row-there : (b : Bool) → w.at < length rows → Stops b → bad w.at ≡ b
    unfolding stops_at
    row-there b l e = sym (row_is nrows rows w.at) ∙ rw (lt-ltb _ _ l, w.floor) at e

    -- it stops at the first bad row, or at the end
    pub walk_stops : Stops true → w.at ≡ first bad 0 (length rows)
    walk_stops e = go (ltb w.at (length rows)) refl
      where
        go : (t : Bool) → ltb w.at (length rows) ≡ t → w.at ≡ first bad 0 (length rows)
        go true t = let l = ltb-true w.at (length rows) t in first_stop bad l w.rest (row-there true l e)
        go false t = let l = ltb-false w.at (length rows) t in le_antisymm w.inside l ∙ first_end bad w.inside l w.rest

    -- it goes on where a row is left
    pub walk_goes : Stops false → w.at < length rows
    unfolding stops_at
    walk_goes e = go (ltb w.at (length rows)) refl
      where
        go : (t : Bool) → ltb w.at (length rows) ≡ t → w.at < length rows
        go true t = ltb-true w.at (length rows) t
        go false t = let z : ◌≡◌ {A = ℕ} 0 1 = cc (rw t at e) in absurd (omega arith)

    -- and knows as much of the next place
    pub floor_next : (least : ℕ) → least ≡ above_of (step_at rows w.at) → Stops false → least ≡ least_at rows (w.at + 1)
    unfolding above_of
    floor_next least e s = rw (lt-ltb _ _ (walk_goes s)) at e ∙ least_next rows w.at

    abbrev pub walk_turn : (least : ℕ) → least < 2 ^ 64 → least ≡ above_of (step_at rows w.at) → Stops false → WalkedTo
    walk_turn least f e s = record {
      at = w.at + 1;
      least = least;
      fits = f;
      inside = omega (arith, walk_goes s);
      floor = floor_next least e s;
      rest = first_turn bad (walk_goes s) w.rest (row-there false (walk_goes s) s);
    }

-- ---- a column's own part

-- tests that agree, k places on
first_n_shift : (f g : ℕ → Bool) (k n lo : ℕ) → ((i : ℕ) → lo ≤ i → i < lo + n → f i ≡ g (k + i)) → k + first_n f lo n ≡ first_n g (k + lo) n
unfolding first_n
first_n_shift f g k zero lo e = refl
first_n_shift f g k (suc n) lo e =
    let s : suc (k + lo) ≡ k + suc lo = omega arith in
    rw (e lo (omega arith) (omega arith), s) (go (g (k + lo)) _ _ (first_n_shift f g k n (suc lo) (λ i l h. e i (omega arith) (omega arith))))
  where
    go : (b : Bool) (x y : ℕ) → k + x ≡ y → k + cond b lo x ≡ cond b (k + lo) y
    go true x y h = refl
    go false x y h = h

module _ (nrows : ℕ) (rows : List ℕ) (from to : ℕ) where
  abbrev part : List ℕ
  part = take (to - from) (drop from rows)

  part-row : (i : ℕ) → i < to - from → get_or part i 0 ≡ get_or rows (from + i) 0
  part-row i h = get_or-take (to - from) (drop from rows) i 0 h ∙ get_or-drop from rows i 0

  part_bad : (i : ℕ) → i < to - from → row_bad nrows part 0 i ≡ row_bad nrows rows from (from + i)
  unfolding row_bad row_falls
  part_bad i h = rw (part-row i h) (ap (λ (b : Bool). leb nrows (get_or rows (from + i) 0) || b) (go (ltb 0 i) refl))
    where
      go : (t : Bool) → ltb 0 i ≡ t
          → (t && leb (get_or rows (from + i) 0) (get_or part (i - 1) 0)) ≡ (ltb from (from + i) && leb (get_or rows (from + i) 0) (get_or rows (from + i - 1) 0))
      go true t =
          let l = ltb-true 0 i t in
          let e : from + (i - 1) ≡ from + i - 1 = omega arith in
          rw (part-row (i - 1) (omega arith), e, lt-ltb from (from + i) (omega arith))
      go false t = let l = ltb-false 0 i t in rw (le-ltb from (from + i) (omega arith))

  -- k is how far into its part a column's first bad row stands
  module _ (run : RunThere (length rows) from to) (k : ℕ) (e : k ≡ first (row_bad nrows part 0) 0 (length part)) where
    part_length : length part ≡ to - from
    part_length = length-take-le (to - from) (drop from rows) (rw (length-drop from rows) (omega (arith, run.order, run.inside)))

    pub place_of_lem : from + k ≡ first (row_bad nrows rows from) from to
    unfolding first
    place_of_lem =
        let z : from + 0 ≡ from = omega arith in
        let y : to - from - 0 ≡ to - from = omega arith in
        rw (e, part_length, y)
        (rw z at (first_n_shift (row_bad nrows part 0) (row_bad nrows rows from) from (to - from) 0 (λ i l h. part_bad i (omega arith))))

    pub place_in_lem : from + k ≤ to
    place_in_lem = rw place_of_lem (first-high (row_bad nrows rows from) from to run.order)
