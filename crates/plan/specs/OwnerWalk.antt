-- The code's own. The walk of 10 as src/owners.rt makes it, on the owners themselves: a row is free where they hold the mark. proofs/OwnerLaws.antt
-- shows that it tells and leaves what Owners.antt says. Assumes nothing.
use Rattle.std.specs.Prelude.{cond, List, [], ◌∷◌, ℕ, ◌≤◌, ◌<◌, eqb, length, get_or, set}
use Rattle.ground.specs.Fold.{folded}
use Rattle.columns.specs.Refusals.{Told, tell, done, on_pass}
use Rattle.columns.specs.Columns.{Columns, first_in, end_in}
use Rattle.columns.specs.Unchecked.{ColumnThere}
use Rattle.blocks.specs.Sides.{block_count, HasAt}
use Rattle.blocks.specs.Claims.{mark}
use Rattle.plan.specs.Owners.{Entry, Owned}

abbrev pub owned : Told → List ℕ → Owned
owned t o = record { told = t; owners = o }

-- an entry claims its row for its block, if the walk has not stopped: a free row becomes the block's, and one that another block holds stops it
unfoldable pub claim_on : Owned → Entry → Owned
claim_on s x =
    on_pass s.told
    (cond (eqb (get_or s.owners x.row 0) mark) (owned done (set s.owners x.row x.block))
    (cond (eqb (get_or s.owners x.row 0) x.block) s
    (owned (tell 10 (x.block ∷ get_or s.owners x.row 0 ∷ [])) s.owners)))
    s

-- from owners o, with nothing told yet
abbrev pub claimed : List ℕ → List Entry → Owned
claimed o es = folded claim_on (owned done o) es

-- ---- what the walk's functions ask

-- place p is there, and its row is one of n
pub record RowIn (rows : List ℕ) (n p : ℕ) : Type 0 where
  pub there : p < length rows
  pub below : get_or rows p 0 < n

pub record RowsIn (rows : List ℕ) (n lo hi : ℕ) : Type 0 where
  pub each : (p : ℕ) → lo ≤ p → p < hi → RowIn rows n p

-- column j is there, and its places are so
pub record ColumnIn (ptrs rows : List ℕ) (n j : ℕ) : Type 0 where
  pub column : ColumnThere (length ptrs) j
  pub inside : RowsIn rows n (first_in ptrs j) (end_in ptrs j)

-- block b is there, one of few, and its columns are so
pub record BlockIn (ptrs rows side : List ℕ) (n b : ℕ) : Type 0 where
  pub there : b < block_count side
  pub few : b < 65_536
  pub columns : (i c : ℕ) → HasAt side b i c → ColumnIn ptrs rows n c

-- all blocks are so
pub record SideIn (ptrs rows side : List ℕ) (n : ℕ) : Type 0 where
  pub each : (b : ℕ) → b < block_count side → BlockIn ptrs rows side n b

-- and the owners have a place for each row
pub record OwnersIn (m : Columns) (elims : List ℕ) (n : ℕ) : Type 0 where
  pub room : m.nrows ≤ n
  pub side : SideIn m.ptrs m.rows elims m.nrows
