-- To be believed. Row lists and visible lists, flat with their starts. Assumes nothing.
use Rattle.std.specs.Prelude.{◌≡◌, Bool, cond, List, [], ◌∷◌, ◌++◌, ℕ, ◌+◌, ◌≤◌, ◌<◌, eqb, length, get_or, drop}
use Rattle.ground.specs.First.{some}
use Rattle.ground.specs.Gather.{gather, list_of}
use Rattle.columns.specs.Columns.{Columns, first_place, end_place}
use Rattle.blocks.specs.Sides.{block_count, first_of, dof_of}
use Rattle.plan.specs.Owners.{owner_of}

-- the lists f 0, .., f (n - 1), one after the other, and where each starts; one more start than lists
abbrev pub flat : {X : Type 0} → (ℕ → List X) → ℕ → List X
flat f n = gather f 0 n

abbrev pub starts_of : {X : Type 0} → (ℕ → List X) → ℕ → List ℕ
starts_of f n = list_of (λ b. length (flat f b)) (n + 1)

-- the rows that eliminated block b owns, ascending, each once
unfoldable pub rows_of : Columns → List ℕ → ℕ → List ℕ
rows_of m elims b = gather (λ r. cond (eqb (owner_of m elims r) b) (r ∷ []) []) 0 m.nrows

-- so it is read from a list of owners: the rows below nrows that it gives to block b
unfoldable pub rows_with : List ℕ → ℕ → ℕ → List ℕ
rows_with owners nrows b = gather (λ r. cond (eqb (get_or owners r 0) b) (r ∷ []) []) 0 nrows

-- what is left in a list and its starts that are lent: f 0, .., f (n - 1), where each starts, and past them what they held
pub record Listed : Type 0 where
  pub list : List ℕ
  pub starts : List ℕ

unfoldable pub listed : (ℕ → List ℕ) → ℕ → List ℕ → List ℕ → Listed
listed f n list starts = record { list = flat f n ++ drop (length (flat f n)) list; starts = starts_of f n ++ drop (n + 1) starts }

-- column j has an entry in a row of eliminated block e, and so has kept block b
unfoldable pub column_sees : Columns → List ℕ → ℕ → ℕ → Bool
column_sees m elims e j = some (λ p. eqb (owner_of m elims (get_or m.rows p 0)) e) (first_place m j) (end_place m j)

unfoldable pub block_sees : Columns → List ℕ → List ℕ → ℕ → ℕ → Bool
block_sees m kept elims b e = some (λ i. column_sees m elims e (first_of kept b + i)) 0 (dof_of kept b)

-- the owners of kept block b's rows, ascending, each once, the mark never
unfoldable pub visible_of : Columns → List ℕ → List ℕ → ℕ → List ℕ
visible_of m kept elims b = gather (λ e. cond (block_sees m kept elims b e) (e ∷ []) []) 0 (block_count elims)

-- what it comes to: e owns a row in which a column of kept block b has an entry
pub record Visible (m : Columns) (kept elims : List ℕ) (b e : ℕ) : Type 0 where
  pub offset : ℕ
  pub place : ℕ
  pub inside : offset < dof_of kept b
  pub low : first_place m (first_of kept b + offset) ≤ place
  pub high : place < end_place m (first_of kept b + offset)
  pub owns : owner_of m elims (get_or m.rows place 0) ≡ e
