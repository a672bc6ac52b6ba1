-- What the code's steps show of the definitions of specs/: a lemma for each way that a function returns, over plain variables, whose premises
-- are what its calls and tests give. `search rules` then closes the goals. Assumes nothing.
use mathlib.Core.Path.{◌≡◌, refl, sym, ◌∙◌}
use mathlib.Core.Bool.{true, false}
use mathlib.Core.List.{List}
use Prim.Native.Nat.{ℕ, ◌+◌, ◌≤◌, ◌<◌}
use lib.ListN.{length, get_or, set}
use lib.Ieee.{Float, nan, binary64, add, sub, mul, eq}
use Rattle.ground.specs.Gather.{gather}
use Rattle.ground.specs.Fold.{folded}
use Rattle.ground.proofs.GatherLaws.{gather_none}
use Rattle.ground.proofs.FoldLaws.{folded_none, folded-one}
use Rattle.ground.proofs.Rules.{loops}
use Rattle.columns.specs.declared.unchecked.Sign.{Sign}
use Rattle.columns.specs.declared.unchecked.Sign.TheVariants.{Plus, Minus}
use Rattle.columns.specs.Columns.{columns_of, first_in, end_in}
use Rattle.columns.specs.Sums.{zero₊, zero₋, term, product, add_term, joined, landed, sum_from, swept_on}
use Rattle.columns.specs.JacobianOps.{entry_term, square_term, squared_in, landing, landings}
use Rattle.columns.specs.Unchecked.{ColumnThere, RunThere, RunsThere, EntryFits, EntriesFit, HasColumn, Gathers}
use Rattle.columns.proofs.CheckLaws.{entries_fit}

pub first_read : (ptrs : List ℕ) (j r : ℕ) → r ≡ get_or ptrs j 0 → r ≡ first_in ptrs j
unfolding first_in
first_read ptrs j r e = e

pub end_read : (ptrs : List ℕ) (j r : ℕ) → r ≡ get_or ptrs (j + 1) 0 → r ≡ end_in ptrs j
unfolding end_in
end_read ptrs j r e = e

pub plus : (sign : Sign) (a t : Float) → sign ≡ Plus → add binary64 a t ≡ joined sign a t
unfolding joined
plus sign a t e = rw e

pub minus : (sign : Sign) (a t : Float) → sign ≡ Minus → sub binary64 a t ≡ joined sign a t
unfolding joined
minus sign a t e = rw e

-- r is the row number that the code read, z the value that it stored
pub lands : (sign : Sign) (rows : List ℕ) (values : List Float) (x : Float) (p r : ℕ) (z : Float) (y : List Float) → r ≡ get_or rows p 0
    → z ≡ joined sign (get_or y r nan) (mul binary64 (get_or values p nan) x) → set y r z ≡ swept_on sign y (landing rows values x p)
unfolding landing landed
lands sign rows values x p r z y e q = rw (q, e) (sym (folded-one (landed sign) y _))

-- no place lands nothing
pub lands_none : (sign : Sign) (rows : List ℕ) (values : List Float) (x : Float) (lo hi : ℕ) (y : List Float) → hi ≤ lo
    → y ≡ swept_on sign y (gather (landing rows values x) lo hi)
lands_none sign rows values x lo hi y h = rw (gather_none (landing rows values x) lo hi h) (sym (folded_none (landed sign) y))

-- one lands its entry: r and v are its row and its value
pub lands_one : (sign : Sign) (rows : List ℕ) (values : List Float) (x : Float) (p r : ℕ) (v : Float) (y z : List Float) → r ≡ get_or rows p 0 → v ≡ get_or values p nan
    → z ≡ landed sign y (record { row = r; term = term v x }) → z ≡ folded (landed sign) y (landing rows values x p)
unfolding landing
lands_one sign rows values x p r v y z e f q = q ∙ rw (e, f) (sym (folded-one (landed sign) y _))

-- r is the row number that the code read, z the sum that it was told
pub adds : (rows : List ℕ) (values y : List Float) (p r : ℕ) (acc z : Float) → r ≡ get_or rows p 0
    → z ≡ add binary64 acc (mul binary64 (get_or values p nan) (get_or y r nan)) → z ≡ sum_from acc (entry_term rows values y p)
unfolding entry_term add_term
adds rows values y p r acc z e q = rw (q, e) (sym (folded-one add_term acc _))

-- a gather takes in its entry: r and v are its row and its value
pub takes_one : (rows : List ℕ) (values y : List Float) (p r : ℕ) (v acc z : Float) → r ≡ get_or rows p 0 → v ≡ get_or values p nan
    → z ≡ add binary64 acc (product (term v (get_or y r nan))) → z ≡ sum_from acc (entry_term rows values y p)
unfolding entry_term add_term
takes_one rows values y p r v acc z e f q = q ∙ rw (e, f) (sym (folded-one add_term acc _))

pub squares : (values : List Float) (p : ℕ) (acc : Float) → add binary64 acc (mul binary64 (get_or values p nan) (get_or values p nan)) ≡ sum_from acc (square_term values p)
unfolding square_term add_term
squares values p acc = sym (folded-one add_term acc _)

module _ (sign : Sign) (rows : List ℕ) (values : List Float) (x : Float) (lo hi : ℕ) (y : List Float) where
  pub skipped : eq x zero₊ ≡ true → y ≡ swept_on sign y (landings rows values x lo hi)
  unfolding landings
  skipped t = rw t (sym (folded_none (landed sign) y))

  pub swept : (z : List Float) → eq x zero₊ ≡ false → z ≡ swept_on sign y (gather (landing rows values x) lo hi) → z ≡ swept_on sign y (landings rows values x lo hi)
  unfolding landings
  swept z t e = rw t e

-- what a `requires` says of each place, at one place, where the rows are as many as they were
pub entry_at_lem : {rows : List ℕ} {nvalues lo hi n k p : ℕ} → EntriesFit rows nvalues n lo hi → k ≡ n → lo ≤ p → p < hi → EntryFits rows nvalues k p
entry_at_lem {p = p} r e h l = rw e (r.each p h l)

-- ---- one column: lo and hi are its places as the code read them

module _ (n : ℕ) (ptrs rows : List ℕ) (values : List Float) (j lo hi : ℕ) where
  pub run_fits : HasColumn (columns_of n ptrs rows values) j → lo ≡ first_in ptrs j → hi ≡ end_in ptrs j → EntriesFit rows (length values) n lo hi
  run_fits h e f = rw (e, f) (entries_fit h.keeps h.there refl)

pub run-gathered : (ptrs rows : List ℕ) (values y : List Float) (j lo hi : ℕ) (start r : Float) → lo ≡ first_in ptrs j → hi ≡ end_in ptrs j
    → r ≡ sum_from start (gather (entry_term rows values y) lo hi) → r ≡ sum_from start (gather (entry_term rows values y) (first_in ptrs j) (end_in ptrs j))
run-gathered ptrs rows values y j lo hi start r e f q = rw (← e, ← f) q

pub run-squared : (ptrs : List ℕ) (values : List Float) (j lo hi : ℕ) (r : Float) → lo ≡ first_in ptrs j → hi ≡ end_in ptrs j
    → r ≡ sum_from zero₋ (gather (square_term values) lo hi) → r ≡ squared_in ptrs values j
run-squared ptrs values j lo hi r e f q = rw (← e, ← f) q

pub run-swept : (sign : Sign) (ptrs rows : List ℕ) (values : List Float) (x : Float) (j lo hi : ℕ) (y z : List Float) → lo ≡ first_in ptrs j → hi ≡ end_in ptrs j
    → z ≡ swept_on sign y (landings rows values x lo hi) → z ≡ swept_on sign y (landings rows values x (first_in ptrs j) (end_in ptrs j))
run-swept sign ptrs rows values x j lo hi y z e f q = rw (← e, ← f) q

-- ---- all columns

pub put : (y : List Float) (j : ℕ) (r x : Float) → r ≡ x → set y j r ≡ set y j x
put y j r x e = rw e

pub column_of : (n k : ℕ) (ptrs rows : List ℕ) (values : List Float) (places j : ℕ) → Gathers (columns_of n ptrs rows values) places → k ≡ n → j < places
    → HasColumn (columns_of k ptrs rows values) j
column_of n k ptrs rows values places j g e l = rw e (record { keeps = g.keeps; there = rw g.places at l })

module _ (ptrs : List ℕ) (nvalues n j : ℕ) where
  pub square-there : RunsThere ptrs nvalues n → j < n → ColumnThere (length ptrs) j
  square-there r l = r.column j l

  pub square-run : (lo hi : ℕ) → RunsThere ptrs nvalues n → j < n → lo ≡ first_in ptrs j → hi ≡ end_in ptrs j → RunThere nvalues lo hi
  square-run lo hi r l e f = rw (e, f) (r.run j l)

pub ruleset rules = (
  loops,
  first_read,
  end_read,
  plus,
  minus,
  lands,
  adds,
  squares,
  skipped,
  swept,
  entry_at_lem,
  run_fits,
  run-gathered,
  run-squared,
  run-swept,
  put,
  column_of,
  square-there,
  square-run,
)
