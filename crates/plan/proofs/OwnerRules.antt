-- What the steps of src/owners.rt show of the walk on the owners, over plain variables: a lemma for each way that its functions go on or return.
-- Assumes nothing.
use borrow.Author.Rules.{rules}
use borrow.Author.Tests.{eq-eqb, ne_eqb}
use mathlib.Core.Path.{◌≡◌, refl, sym, ◌∙◌}
use mathlib.Core.Bool.{false}
use mathlib.Core.List.{List, [], ◌∷◌}
use Prim.Native.Nat.{ℕ, ◌+◌, ◌≤◌, ◌<◌}
use lib.Dec.{eqb}
use lib.ListN.{length, get_or, set}
use Rattle.ground.specs.Gather.{gather}
use Rattle.ground.specs.Fold.{folded}
use Rattle.ground.proofs.FoldLaws.{folded-one, fold_turn, fold_done}
use Rattle.columns.specs.declared.refusal.Refusal.{Refusal}
use Rattle.columns.specs.Refusals.{Answer}
use Rattle.std.specs.Prelude.{Option, Ok, Err}
use Rattle.columns.specs.Refusals.{tell, done, refused, told, on_pass}
use Rattle.columns.specs.Columns.{first_in, end_in}
use Rattle.columns.specs.Unchecked.{ColumnThere}
use Rattle.columns.proofs.RefusalLaws.{number-some}
use Rattle.blocks.specs.Sides.{block_count, first_of, dof_of}
use Rattle.blocks.specs.Claims.{mark}
use Rattle.blocks.proofs.MarkLaws.{is-mark, no_mark}
use Rattle.plan.specs.Owners.{Entry, Owned, entry_at, column_entries, block_entries}
use Rattle.plan.specs.OwnerWalk.{owned, claim_on, claimed, RowIn, RowsIn, ColumnIn, BlockIn, SideIn}

-- ---- one claim

module _ (o : List ℕ) (x : Entry) where
  pub step_free : get_or o x.row 0 ≡ mark → claim_on (owned done o) x ≡ owned done (set o x.row x.block)
  unfolding claim_on on_pass
  step_free e = rw (eq-eqb _ _ e)

  pub step_own : (get_or o x.row 0 ≡ mark → ⊥) → get_or o x.row 0 ≡ x.block → claim_on (owned done o) x ≡ owned done o
  unfolding claim_on on_pass
  step_own n e = rw (ne_eqb _ _ n, eq-eqb (get_or o x.row 0) x.block e)

  pub step_held : (get_or o x.row 0 ≡ mark → ⊥) → (get_or o x.row 0 ≡ x.block → ⊥)
      → claim_on (owned done o) x ≡ owned (tell 10 (x.block ∷ get_or o x.row 0 ∷ [])) o
  unfolding claim_on on_pass
  step_held n e = rw (ne_eqb _ _ n, ne_eqb (get_or o x.row 0) x.block e)

-- a walk that has stopped stays so
stopped-one : (s : Owned) (x : Entry) → eqb s.told.number 0 ≡ false → claim_on s x ≡ s
unfolding claim_on on_pass
stopped-one s x e = rw e

pub stopped_all : (s : Owned) (es : List Entry) → eqb s.told.number 0 ≡ false → folded claim_on s es ≡ s
unfolding folded
stopped_all s [] e = refl
stopped_all s (x ∷ es) e = rw (stopped-one s x e) (stopped_all s es e)

-- r is the row that the code read
module _ (rows : List ℕ) (b p r : ℕ) (o : List ℕ) (e : r ≡ get_or rows p 0) where
  pub claim_free : get_or o r 0 ≡ mark → owned done (set o r b) ≡ claimed o (entry_at rows b p)
  unfolding entry_at
  claim_free f = rw e (sym (folded-one claim_on (owned done o) _ ∙ step_free o _ (rw e at f)))

  pub claim_own : (get_or o r 0 ≡ mark → ⊥) → get_or o r 0 ≡ b → owned done o ≡ claimed o (entry_at rows b p)
  unfolding entry_at
  claim_own n f = sym (folded-one claim_on (owned done o) _ ∙ step_own o _ (rw e at n) (rw e at f))

  pub claim_held : (now earlier : ℕ) → (get_or o r 0 ≡ mark → ⊥) → (get_or o r 0 ≡ b → ⊥) → now ≡ b → earlier ≡ get_or o r 0
      → owned (tell 10 (now ∷ earlier ∷ [])) o ≡ claimed o (entry_at rows b p)
  unfolding entry_at
  claim_held now earlier n f g h = rw (g, h, e) (sym (folded-one claim_on (owned done o) _ ∙ step_held o _ (rw e at n) (rw e at f)))

-- ---- loops: f k is the entries of place k, and t what their walk answered

module _ (f : ℕ → List Entry) (k hi : ℕ) (o o' : List ℕ) (z : Owned) (t : Answer) (h : k < hi) (inv : claimed o (gather f k hi) ≡ z) (e : owned (told t) o' ≡ claimed o (f k)) where
  pub claims_go : t ≡ Ok tt → claimed o' (gather f (k + 1) hi) ≡ z
  claims_go p = fold_turn claim_on f (owned done o) h inv (rw p at e)

  pub claims_stop : (r : Refusal) → t ≡ Err r → owned (refused r) o' ≡ z
  claims_stop r p = sym (stopped_all (owned (refused r) o') _ (number-some r)) ∙ fold_turn claim_on f (owned done o) h inv (rw p at e)

pub claims_end : (f : ℕ → List Entry) (k hi : ℕ) (o : List ℕ) (z : Owned) → hi ≤ k → claimed o (gather f k hi) ≡ z → owned done o ≡ z
claims_end f k hi o z h inv = fold_done claim_on f h inv

-- ---- a column, a block and the side; lo, hi, first and dof are what the code read

pub column-claimed : (ptrs rows : List ℕ) (b j lo hi : ℕ) (o : List ℕ) (z : Owned) → lo ≡ first_in ptrs j → hi ≡ end_in ptrs j → z ≡ claimed o (gather (entry_at rows b) lo hi)
    → z ≡ claimed o (column_entries ptrs rows b j)
unfolding column_entries
column-claimed ptrs rows b j lo hi o z p q e = rw (← p, ← q) e

-- a block's columns, as the loop comes to them
abbrev pub local_column : List ℕ → List ℕ → ℕ → ℕ → ℕ → List Entry
local_column ptrs rows b first i = column_entries ptrs rows b (first + i)

pub block_enters : (ptrs rows side : List ℕ) (b block first dof : ℕ) (o : List ℕ) → block ≡ b → first ≡ first_of side b → dof ≡ dof_of side b
    → claimed o (gather (local_column ptrs rows block first) 0 dof) ≡ claimed o (block_entries ptrs rows side b)
unfolding block_entries
block_enters ptrs rows side b block first dof o p q r = rw (p, q, r)

pub row_in : (rows : List ℕ) (n m lo hi p : ℕ) → RowsIn rows n lo hi → m ≡ n → lo ≤ p → p < hi → RowIn rows m p
row_in rows n m lo hi p r e h l = rw e (r.each p h l)

pub rows_in : (ptrs rows : List ℕ) (n j lo hi : ℕ) → ColumnIn ptrs rows n j → lo ≡ first_in ptrs j → hi ≡ end_in ptrs j → RowsIn rows n lo hi
rows_in ptrs rows n j lo hi f p q = rw (p, q) f.inside

pub column-there : (ptrs rows : List ℕ) (n j : ℕ) → ColumnIn ptrs rows n j → ColumnThere (length ptrs) j
column-there ptrs rows n j f = f.column

pub column_in : (ptrs rows side : List ℕ) (n m b first dof i : ℕ) → BlockIn ptrs rows side n b → m ≡ n → first ≡ first_of side b → dof ≡ dof_of side b → i < dof → ColumnIn ptrs rows m (first + i)
column_in ptrs rows side n m b first dof i f e p q h = rw e (f.columns i (first + i) (record { block = f.there; offset = rw q at h; is = rw p }))

pub block_in : (ptrs rows side : List ℕ) (n m count b : ℕ) → SideIn ptrs rows side n → m ≡ n → count ≡ block_count side → b < count → BlockIn ptrs rows side m b
block_in ptrs rows side n m count b f e c h = rw e (f.each b (rw c at h))

pub ruleset claiming = (
  rules,
  is-mark,
  no_mark,
  claim_free,
  claim_own,
  claim_held,
  claims_go,
  claims_stop,
  claims_end,
  column-claimed,
  row_in,
  rows_in,
  column-there,
  column_in,
  block_in,
)
