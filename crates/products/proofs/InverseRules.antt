-- What the code of src/side_sums.rt shows of the block inverses times a vector: a block's rows put one after the other, block after block.
-- Assumes nothing.
use Rattle.std.proofs.Common.{◌≡◌, ℕ, zero, suc, ◌+◌, ◌*◌, ◌<◌, ◌≤◌, List, length, get_or, set, sym, ap, ◌∙◌, add-zero, le_antisymm, add-one, arith, length-append}
use lib.Ieee.{Float, nan, binary64, add, mul}
use Rattle.ground.specs.Gather.{gather}
use Rattle.ground.specs.Fold.{folded}
use Rattle.ground.proofs.GatherLaws.{gather_none, gather_last, length-list_of}
use Rattle.ground.proofs.ListLaws.{list-gathered}
use Rattle.ground.proofs.FoldLaws.{folded-one, fold_turn, fold_done}
use Rattle.ground.proofs.Rules.{loops}
use Rattle.columns.specs.Sums.{zero₊, add_term, sum_from}
use Rattle.blocks.specs.Sides.{block_count, dof_of, offset_of, side_dof}
use Rattle.blocks.specs.Access.{squares_before, entry_place}
use Rattle.blocks.specs.BlockValues.{Writing, writing, put}
use Rattle.blocks.proofs.AccessRules.{in_square, squares_first}
use Rattle.blocks.proofs.ValueRules.{put_all_lem, squares_within}
use Rattle.products.specs.SideSums.{inverse_term, inverse_entry, inverse_block, inverse_times}
use Rattle.products.specs.SideFits.{block_term, block_row, RowFits, TermFits, RowsFit, InversesFit}
use Rattle.plan.proofs.ColumnRules.{first-place}
use Rattle.products.proofs.SideRules.{places_in}

-- ---- one term, one row

module _ (inverses t dof from at row c : ℕ) where
  pub term-place : TermFits inverses t dof from at row c → from + (c * dof + row) < inverses
  term-place f = omega (arith, in_square dof row c f.fit.there f.column, f.fit.fit.square)

  pub term-entry : TermFits inverses t dof from at row c → at + c < t
  term-entry f = omega (arith, f.column, f.fit.fit.entries)

  pub term_fits : RowFits inverses t dof from at row → c < dof → TermFits inverses t dof from at row c
  term_fits f l = record { fit = f; column = l }

pub term-added : (inverses t : List Float) (dof from at row c : ℕ) (acc : Float)
    → add binary64 acc (mul binary64 (get_or inverses (from + (c * dof + row)) nan) (get_or t (at + c) nan)) ≡ sum_from acc (block_term inverses t dof from at row c)
unfolding block_term add_term
term-added inverses t dof from at row c acc = sym (folded-one add_term acc _)

-- ---- one block

pub row_fits : (inverses t dof from at n row : ℕ) → RowsFit inverses t dof from at n → row < dof → RowFits inverses t dof from at row
row_fits inverses t dof from at n row f l = record { fit = f.fit; there = l }

pub row_room : (inverses t dof from at n row k : ℕ) → RowsFit inverses t dof from at n → k ≡ n → row < dof → at + row < k
row_room inverses t dof from at n row k f e l = omega (arith, f.room)

module _ (inverses t : List Float) (dof from at : ℕ) where
  pub rows_start : (out : List Float) → folded put (writing (at + 0) out) (gather (block_row inverses t dof from at) 0 dof) ≡ folded put (writing at out) (gather (block_row inverses t dof from at) 0 dof)
  rows_start out = rw add-zero

  row_put : (r : ℕ) (out : List Float) (x : Float) → x ≡ sum_from zero₊ (gather (block_term inverses t dof from at r) 0 dof)
      → writing (at + (r + 1)) (set out (at + r) x) ≡ folded put (writing (at + r) out) (block_row inverses t dof from at r)
  unfolding block_row put
  row_put r out x e =
      let k : at + (r + 1) ≡ at + r + 1 = omega arith in
      rw (k, e) (sym (folded-one put (writing (at + r) out) (sum_from zero₊ (gather (block_term inverses t dof from at r) 0 dof))))

  module _ (r : ℕ) (out : List Float) (z : Writing) (inv : folded put (writing (at + r) out) (gather (block_row inverses t dof from at) r dof) ≡ z) where
    pub rows_turn : (x : Float) → r < dof → x ≡ sum_from zero₊ (gather (block_term inverses t dof from at r) 0 dof)
        → folded put (writing (at + (r + 1)) (set out (at + r) x)) (gather (block_row inverses t dof from at) (r + 1) dof) ≡ z
    rows_turn x l e = fold_turn put (block_row inverses t dof from at) (writing (at + r) out) l inv (row_put r out x e)

    pub rows-done : r ≤ dof → dof ≤ r → writing (at + dof) out ≡ z
    rows-done l h = let e : r ≡ dof = le_antisymm l h in rw (← e) (fold_done put (block_row inverses t dof from at) h inv)

-- a block of which the dof is told apart
pub told-fits : (inverses t dof d from at n : ℕ) → dof ≡ d → RowsFit inverses t dof from at n → RowsFit inverses t d from at n
told-fits inverses t dof d from at n e f = rw (← e) f

pub told-rows : (inverses t : List Float) (dof d from at : ℕ) (out next : List Float) → dof ≡ d → writing (at + d) next ≡ folded put (writing at out) (gather (block_row inverses t d from at) 0 d)
    → writing (at + dof) next ≡ folded put (writing at out) (gather (block_row inverses t dof from at) 0 dof)
told-rows inverses t dof d from at out next e w = rw e w

-- ---- all blocks: from and at are where block b's inverse and its entries begin

module _ (elims : List ℕ) (inverses t : List Float) where
  length_inverse : (b : ℕ) → length (inverse_block elims inverses t b) ≡ dof_of elims b
  unfolding inverse_block
  length_inverse b = length-list_of (inverse_entry elims inverses t b) nan (dof_of elims b)

  length-inverses : (n : ℕ) → length (gather (inverse_block elims inverses t) 0 n) ≡ offset_of elims n
  unfolding offset_of
  length-inverses zero = ap length (gather_none (inverse_block elims inverses t) 0 0 (omega arith))
  length-inverses (suc n) =
      ap (λ (k : ℕ). length (gather (inverse_block elims inverses t) 0 k)) (sym (add-one n))
      ∙ ap length (gather_last (inverse_block elims inverses t) 0 n (omega arith))
      ∙ length-append (gather (inverse_block elims inverses t) 0 n) (inverse_block elims inverses t n)
      ∙ rw (length-inverses n, length_inverse n)

  pub length-times : length (inverse_times elims inverses t) ≡ side_dof elims
  length-times = length-inverses (block_count elims)

  block-is : (b : ℕ) → inverse_block elims inverses t b ≡ gather (block_row inverses t (dof_of elims b) (squares_before elims b) (offset_of elims b)) 0 (dof_of elims b)
  unfolding inverse_block inverse_entry inverse_term entry_place block_row block_term
  block-is b = list-gathered (inverse_entry elims inverses t b) (dof_of elims b)

  module _ (b from at dof : ℕ) (q : from ≡ squares_before elims b) (s : at ≡ offset_of elims b) (d : dof ≡ dof_of elims b) where
    pub inverses_turn : (n : ℕ) (out next : List Float) (z : Writing) → b < n → folded put (writing at out) (gather (inverse_block elims inverses t) b n) ≡ z
        → writing (at + dof) next ≡ folded put (writing at out) (gather (block_row inverses t dof from at) 0 dof)
        → folded put (writing (at + dof) next) (gather (inverse_block elims inverses t) (b + 1) n) ≡ z
    inverses_turn n out next z l inv w =
        let g : writing (at + dof) next ≡ folded put (writing at out) (inverse_block elims inverses t b) = rw (block-is b, ← q, ← s, ← d) w in
        fold_turn put (inverse_block elims inverses t) (writing at out) l inv g

  pub inverses-done : (b at : ℕ) (out old : List Float) → block_count elims ≤ b → length old ≡ side_dof elims
      → folded put (writing at out) (gather (inverse_block elims inverses t) b (block_count elims)) ≡ folded put (writing 0 old) (inverse_times elims inverses t) → out ≡ inverse_times elims inverses t
  inverses-done b at out old h l inv =
      ap (λ (w : Writing). w.out) (fold_done put (inverse_block elims inverses t) h inv ∙ put_all_lem (inverse_times elims inverses t) old (l ∙ sym length-times))

module _ (elims : List ℕ) (b from at dof : ℕ) (q : from ≡ squares_before elims b) (s : at ≡ offset_of elims b) (d : dof ≡ dof_of elims b) (l : b < block_count elims) where
  pub rows_fit : (i t n k : ℕ) → InversesFit elims i t n → k ≡ n → RowsFit i t dof from at k
  rows_fit i t n k f e = record {
    fit = record {
      square = rw f.values (squares_within elims b (block_count elims) from dof l q d);
      entries = rw f.entries (places_in elims b at dof s d l);
    };
    room = rw (e, f.room) (places_in elims b at dof s d l);
  }

pub ruleset inverting = (loops, term-entry, term_fits, term-added, term-place, row_fits, row_room, rows_start, rows_turn, rows-done, told-fits, told-rows, first-place, squares_first, inverses-done, rows_fit)
