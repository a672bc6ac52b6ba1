-- What the code of src/side_sums.rt shows of a side's sweep and gathers: block after block, each column by its local number. Assumes nothing.
use Rattle.std.proofs.Common.{◌≡◌, ℕ, ◌+◌, ◌-◌, ◌<◌, ◌≤◌, List, length, get_or, set, sym, refl, ap, ◌∙◌, arith}
use lib.Ieee.{Float, nan}
use Rattle.ground.specs.Gather.{gather}
use Rattle.ground.specs.Fold.{folded}
use Rattle.ground.proofs.RangeLaws.{range-seen, range_split, done}
use Rattle.ground.proofs.GatherLaws.{gather_same}
use Rattle.ground.proofs.FoldLaws.{fold_part, fold_done}
use Rattle.ground.proofs.ListLaws.{written-list}
use Rattle.ground.proofs.Rules.{loops}
use Rattle.columns.specs.declared.unchecked.Sign.{Sign}
use Rattle.columns.specs.Columns.{Columns, columns_of, column_count}
use Rattle.columns.specs.Sums.{sum_from, landed, swept_on}
use Rattle.columns.specs.JacobianOps.{gather_terms, sweep_terms}
use Rattle.columns.specs.Unchecked.{HasColumn}
use Rattle.columns.proofs.CheckLaws.{has-column}
use Rattle.blocks.specs.Sides.{block_count, first_of, dof_of, cols, offset_of, side_dof}
use Rattle.blocks.specs.declared.sides.Block.{Block}
use Rattle.blocks.proofs.BlockListLaws.{gone}
use Rattle.blocks.proofs.SideLaws.{cols-at, offset-next}
use Rattle.products.specs.SideSums.{column_at, side_terms, side_gather}
use Rattle.products.specs.SideFits.{local_terms, local_sum, placed_terms, placed_sum, written, SideFits, PlacesFit, DofsFit}

-- ---- how far the blocks have come: at is the next one's first place

pub all_places : (side : List ℕ) (left : List Block) (at : ℕ) → at ≡ offset_of side (gone side left) → block_count side ≤ gone side left → at ≡ side_dof side
all_places side left at e l = let q : gone side left ≡ block_count side = omega arith in e ∙ ap (λ (k : ℕ). offset_of side k) q

pub places_in : (side : List ℕ) (b at dof : ℕ) → at ≡ offset_of side b → dof ≡ dof_of side b → b < block_count side → at + dof ≤ side_dof side
places_in side b at dof e d h = rw (e, d) (offset-next side b (block_count side) h)

pub dofs_in : (side : List ℕ) (b at dof : ℕ) → DofsFit side → at ≡ offset_of side b → dof ≡ dof_of side b → b < block_count side → at + dof ≤ 65_536
dofs_in side b at dof f e d h = omega (arith, places_in side b at dof e d h, f.few)

-- ---- one block: its columns begin at `first`, its places at `at`

module _ (n : ℕ) (ptrs rows : List ℕ) (values : List Float) (first dof at k l : ℕ) (f : PlacesFit (columns_of n ptrs rows values) first dof at k) (low : at ≤ l) (high : l < at + dof) where
  pub column-has : (r : ℕ) → r ≡ n → HasColumn (columns_of r ptrs rows values) (first + (l - at))
  column-has r e = has-column r n ptrs rows values (first + (l - at)) f.keeps e (omega (arith, f.columns))

-- ---- all blocks: first and dof are block b's, as the code read them

module _ (side : List ℕ) (b first dof at : ℕ) (s : at ≡ offset_of side b) (p : first ≡ first_of side b) (d : dof ≡ dof_of side b) (h : b < block_count side) where
  pub places-fit : (n k : ℕ) (ptrs rows : List ℕ) (values : List Float) (places many : ℕ) → SideFits (columns_of n ptrs rows values) side places → k ≡ n → many ≡ places
      → PlacesFit (columns_of k ptrs rows values) first dof at many
  places-fit n k ptrs rows values places many f e q = rw (e, q) (record {
    keeps = f.keeps;
    columns = rw (p, d) (f.inside b h);
    places = rw f.room (places_in side b at dof s d h);
  })

  -- the column of place l is the one with local number l
  column-is : (l : ℕ) → at ≤ l → l < at + dof → first + (l - at) ≡ column_at side l
  column-is l low high =
      let o : l - at < dof_of side b = rw (← d) (omega arith) in
      let q : offset_of side b + (l - at) ≡ l = rw (← s) (omega arith) in
      ap (λ (k : ℕ). k + (l - at)) p ∙ sym (cols-at side b (l - at) h o) ∙ ap (λ (k : ℕ). get_or (cols side) k 0) q

  pub blocks-swept : (sign : Sign) (m : Columns) (v y y' z : List Float) → swept_on sign y (gather (local_terms m side v) at (side_dof side)) ≡ z
      → y' ≡ swept_on sign y (gather (placed_terms m first at v) at (at + dof)) → swept_on sign y' (gather (local_terms m side v) (at + dof) (side_dof side)) ≡ z
  blocks-swept sign m v y y' z inv e =
      let same : gather (placed_terms m first at v) at (at + dof) ≡ gather (local_terms m side v) at (at + dof) =
      gather_same (placed_terms m first at v) (local_terms m side v) at (at + dof) (λ l low high. ap (λ (j : ℕ). sweep_terms m (get_or v l nan) j) (column-is l low high)) in
      fold_part (landed sign) (local_terms m side v) y (omega arith) (places_in side b at dof s d h) inv (rw same at e)

  pub blocks-gathered : (start : Float) (m : Columns) (y out out' z : List Float) → written (local_sum start m side y) at (side_dof side) out ≡ z
      → out' ≡ written (placed_sum start m first at y) at (at + dof) out → written (local_sum start m side y) (at + dof) (side_dof side) out' ≡ z
  blocks-gathered start m y out out' z inv e =
      let same : written (placed_sum start m first at y) at (at + dof) out ≡ written (local_sum start m side y) at (at + dof) out =
      range-seen (λ l w. set w l (placed_sum start m first at y l)) (λ l w. set w l (local_sum start m side y l)) (λ (w : List Float). w) (λ w. Unit) (λ l w u. u) at (at + dof) out tt
      (λ l w low high u. ap (λ (j : ℕ). set w l (sum_from start (gather_terms m y j))) (column-is l low high)) in
      ap (λ (w : List Float). written (local_sum start m side y) (at + dof) (side_dof side) w) (e ∙ same)
      ∙ sym (range_split (λ l w. set w l (local_sum start m side y l)) at (at + dof) (side_dof side) out (omega arith) (places_in side b at dof s d h)) ∙ inv

module _ (m : Columns) (side : List ℕ) where
  pub sweep_start : (sign : Sign) (v y : List Float) → folded (landed sign) y (gather (local_terms m side v) 0 (side_dof side)) ≡ swept_on sign y (side_terms m side v)
  unfolding side_terms
  sweep_start sign v y = refl

  pub gather_start : (start : Float) (y out : List Float) → length out ≡ side_dof side → written (local_sum start m side y) 0 (side_dof side) out ≡ side_gather start m side y
  unfolding side_gather
  gather_start start y out e = written-list nan (local_sum start m side y) (side_dof side) out e

  module _ (left : List Block) (at : ℕ) (s : at ≡ offset_of side (gone side left)) (g : block_count side ≤ gone side left) where
    pub sweep_done : (sign : Sign) (v y z : List Float) → folded (landed sign) y (gather (local_terms m side v) at (side_dof side)) ≡ z → y ≡ z
    sweep_done sign v y z inv = fold_done (landed sign) (local_terms m side v) (omega (arith, all_places side left at s g)) inv

    pub gather-done : (start : Float) (y out z : List Float) → written (local_sum start m side y) at (side_dof side) out ≡ z → out ≡ z
    gather-done start y out z inv = done (λ l z. set z l (local_sum start m side y l)) (omega (arith, all_places side left at s g)) inv

pub ruleset siding = (loops, column-has)
