-- What the code of src/block_values.rt shows of the definitions: values put one after the other, and diagonals damped. Assumes nothing.
use mathlib.Core.Path.{◌≡◌, refl, sym, ap, ◌∙◌}
use mathlib.Core.List.{List, [], ◌∷◌, ◌++◌, append_assoc}
use Prim.Native.Nat.{ℕ, zero, suc, ◌+◌, ◌-◌, ◌*◌, ◌≤◌, ◌<◌}
use native.Mathlib.Numerals.{add-one}
use native.Mathlib.Omega.{arith}
use native.Mathlib.Nat.{le_antisymm, add-zero, zero-add, zero-mul, suc-mul, mul-one, mul-le-mul_right}
use lib.ListN.{length, get_or, set, length-append}
use lib.Seq.{set-append_seam}
use lib.Ieee.{Float, nan, binary64, add}
use Rattle.ground.specs.Range.{range}
use Rattle.ground.specs.Gather.{gather}
use Rattle.ground.specs.Fold.{folded}
use Rattle.ground.proofs.GatherLaws.{gather_none, gather_last}
use Rattle.ground.proofs.FoldLaws.{folded-one, fold_turn, fold_done}
use Rattle.ground.proofs.Rules.{loops}
use Rattle.columns.specs.Columns.{Columns}
use Rattle.columns.specs.JacobianOps.{dot_of}
use Rattle.columns.specs.Unchecked.{HasColumns}
use Rattle.blocks.specs.Sides.{block_count, first_of, dof_of}
use Rattle.blocks.specs.declared.damping.Damping.{Damping}
use Rattle.blocks.specs.Damping.{term_of}
use Rattle.blocks.specs.Lookups.{BlockThere}
use Rattle.blocks.specs.Access.{square_of, squares_before}
use Rattle.blocks.specs.BlockValues.{value_count, dot_entry, dot_column, dot_block, dot_blocks, Writing, writing, put, damp_place, damp_column, damp_block, ColumnFits, BlockFits, ValuesFit, BlocksFit}
use Rattle.blocks.proofs.AccessRules.{in_square, squares_first, squares_next, squares_rise}

-- ---- values put one after the other

-- over the last of a list, they take its place
pub put_over : (xs pre old : List Float) (at : ℕ) → length pre ≡ at → length old ≡ length xs → folded put (writing at (pre ++ old)) xs ≡ writing (at + length xs) (pre ++ xs)
unfolding folded put
put_over [] pre [] at e l = rw add-zero
put_over [] pre (y ∷ old) at e l = absurd (omega arith)
put_over (x ∷ xs) pre [] at e l = absurd (omega arith)
put_over (x ∷ xs) pre (y ∷ old) at e l =
    let s : set (pre ++ (y ∷ old)) at x ≡ (pre ++ (x ∷ [])) ++ old = rw (← e, append_assoc) (set-append_seam pre y old x) in
    let n : length (pre ++ (x ∷ [])) ≡ at + 1 = rw length-append (omega (arith, e)) in
    let k : at + 1 + length xs ≡ at + suc (length xs) = omega arith in
    rw s (put_over xs (pre ++ (x ∷ [])) old (at + 1) n (omega arith) ∙ rw (k, append_assoc))

-- as many as the list has, from its first place on
pub put_all_lem : (xs y : List Float) → length y ≡ length xs → folded put (writing 0 y) xs ≡ writing (length xs) xs
put_all_lem xs y e = put_over xs [] y 0 refl e ∙ rw zero-add

-- ---- how many there are

pub length-each : (f : ℕ → List Float) (d n : ℕ) → ((k : ℕ) → length (f k) ≡ d) → length (gather f 0 n) ≡ n * d
length-each f d zero h = ap length (gather_none f 0 0 (omega arith)) ∙ sym (zero-mul d)
length-each f d (suc n) h =
    ap (λ (k : ℕ). length (gather f 0 k)) (sym (add-one n))
    ∙ ap length (gather_last f 0 n (omega arith))
    ∙ length-append (gather f 0 n) (f n)
    ∙ rw (length-each f d n h, h n, suc-mul)

module _ (m : Columns) where
  pub length-column : (first dof c : ℕ) → length (dot_column m first dof c) ≡ dof
  unfolding dot_column dot_entry
  length-column first dof c = length-each (dot_entry m first c) 1 dof (λ k. refl) ∙ mul-one dof

  module _ (elims : List ℕ) where
    pub length-block : (b : ℕ) → length (dot_block m elims b) ≡ square_of elims b
    unfolding dot_block square_of
    length-block b = length-each (dot_column m (first_of elims b) (dof_of elims b)) (dof_of elims b) (dof_of elims b) (length-column (first_of elims b) (dof_of elims b))

    pub length-blocks : (n : ℕ) → length (gather (dot_block m elims) 0 n) ≡ squares_before elims n
    unfolding squares_before
    length-blocks zero = ap length (gather_none (dot_block m elims) 0 0 (omega arith))
    length-blocks (suc n) =
        ap (λ (k : ℕ). length (gather (dot_block m elims) 0 k)) (sym (add-one n))
        ∙ ap length (gather_last (dot_block m elims) 0 n (omega arith))
        ∙ length-append (gather (dot_block m elims) 0 n) (dot_block m elims n)
        ∙ rw (length-blocks n, length-block n)

-- ---- a column

module _ (m : Columns) (first dof c at : ℕ) where
  pub column_start : (out : List Float) → folded put (writing (at + 0) out) (gather (dot_entry m first c) 0 dof) ≡ folded put (writing at out) (dot_column m first dof c)
  unfolding dot_column
  column_start out = rw add-zero

  -- any two columns of the block exist
  pub entry_has : (i j n : ℕ) → ColumnFits m first dof c at n → i < dof → j < dof → HasColumns m (first + i) (first + j)
  entry_has i j n f k l = record {
    left = record { keeps = f.keeps; there = omega (arith, f.inside) };
    right = record { keeps = f.keeps; there = omega (arith, f.inside) };
  }

  put_one : (r : ℕ) (out : List Float) (x : Float) → x ≡ dot_of m (first + r) (first + c)
      → writing (at + (r + 1)) (set out (at + r) x) ≡ folded put (writing (at + r) out) (dot_entry m first c r)
  unfolding dot_entry put
  put_one r out x e =
      let k : at + (r + 1) ≡ at + r + 1 = omega arith in
      rw (k, e) (sym (folded-one put (writing (at + r) out) (dot_of m (first + r) (first + c))))

  module _ (r : ℕ) (out : List Float) (z : Writing) (inv : folded put (writing (at + r) out) (gather (dot_entry m first c) r dof) ≡ z) where
    pub column_turn : (x : Float) → r < dof → x ≡ dot_of m (first + r) (first + c)
        → folded put (writing (at + (r + 1)) (set out (at + r) x)) (gather (dot_entry m first c) (r + 1) dof) ≡ z
    column_turn x l e = fold_turn put (dot_entry m first c) (writing (at + r) out) l inv (put_one r out x e)

    pub column-done : r ≤ dof → dof ≤ r → writing (at + dof) out ≡ z
    column-done l h = let e : r ≡ dof = le_antisymm l h in rw (← e) (fold_done put (dot_entry m first c) h inv)

-- ---- a block

module _ (m : Columns) (first dof at : ℕ) where
  pub block_start : (out : List Float) → folded put (writing (at + 0 * dof) out) (gather (dot_column m first dof) 0 dof) ≡ folded put (writing at out) (gather (dot_column m first dof) 0 dof)
  block_start out = rw (zero-mul, add-zero)

  pub column_fits : (c n k : ℕ) → BlockFits m first dof at n → k ≡ n → c < dof → ColumnFits m first dof c (at + c * dof) k
  column_fits c n k f e l =
      let h : suc c * dof ≤ dof * dof = mul-le-mul_right dof l in
      record { keeps = f.keeps; inside = f.inside; column = l; room = omega (arith, f.room, suc-mul c dof) }

  module _ (c : ℕ) (out : List Float) (z : Writing) (inv : folded put (writing (at + c * dof) out) (gather (dot_column m first dof) c dof) ≡ z) where
    pub block_turn : (next : List Float) → c < dof → writing (at + c * dof + dof) next ≡ folded put (writing (at + c * dof) out) (dot_column m first dof c)
        → folded put (writing (at + (c + 1) * dof) next) (gather (dot_column m first dof) (c + 1) dof) ≡ z
    block_turn next l e =
        let k : at + (c + 1) * dof ≡ at + c * dof + dof = rw add-one (omega (arith, suc-mul c dof)) in
        rw k (fold_turn put (dot_column m first dof) (writing (at + c * dof) out) l inv e)

    pub block-done : c ≤ dof → dof ≤ c → writing (at + dof * dof) out ≡ z
    block-done l h = let e : c ≡ dof = le_antisymm l h in fold_done put (dot_column m first dof) {k = dof} (omega arith) (rw e at inv)

-- ---- all blocks

pub squares_within : (elims : List ℕ) (b n s d : ℕ) → b < n → s ≡ squares_before elims b → d ≡ dof_of elims b → s + d * d ≤ squares_before elims n
unfolding square_of
squares_within elims b n s d l e f =
    let q : s + d * d ≡ squares_before elims (b + 1) = squares_next elims b s (d * d) e (rw f) in
    let u : b + 1 + (n - (b + 1)) ≡ n = omega arith in
    rw q (rw u at (squares_rise elims (b + 1) (n - (b + 1))))

pub before-there : (elims : List ℕ) (b : ℕ) → b < block_count elims → BlockThere (length elims) b
before-there elims b l = record { there = omega arith }

module _ (elims : List ℕ) (b s d : ℕ) (e : s ≡ squares_before elims b) (f : d ≡ dof_of elims b) where
  pub squares_after : s + d * d ≡ squares_before elims (b + 1)
  unfolding square_of
  squares_after = squares_next elims b s (d * d) e (rw f)

  module _ (n k : ℕ) (l : b < block_count elims) (q : k ≡ n) where
    pub values-fit : n ≡ value_count elims → ValuesFit d s k
    values-fit r = record { room = rw (q, r) (squares_within elims b (block_count elims) s d l e f) }

    pub block-fits : (m : Columns) (i : ℕ) → i ≡ first_of elims b → BlocksFit m elims n → BlockFits m i d s k
    block-fits m i p h = record { keeps = h.keeps; inside = rw (p, f) (h.inside b l); room = (values-fit h.room).room }

  module _ (m : Columns) (i n : ℕ) (out next : List Float) (z : Writing) (p : i ≡ first_of elims b) where
    pub blocks_turn : b < n → folded put (writing s out) (gather (dot_block m elims) b n) ≡ z
        → writing (s + d * d) next ≡ folded put (writing s out) (gather (dot_column m i d) 0 d)
        → folded put (writing (s + d * d) next) (gather (dot_block m elims) (b + 1) n) ≡ z
    unfolding dot_block
    blocks_turn l inv w =
        let g : writing (s + d * d) next ≡ folded put (writing s out) (dot_block m elims b) = rw (← p, ← f) w in
        fold_turn put (dot_block m elims) (writing s out) l inv g

  pub damp_turn : (g : Damping) (y next : List Float) → next ≡ range (damp_column g d s) 0 d y → next ≡ damp_block g elims b y
  unfolding damp_block
  damp_turn g y next h = rw (← e, ← f) h

pub blocks-done : (m : Columns) (elims : List ℕ) (b s : ℕ) (out old : List Float) → block_count elims ≤ b → length old ≡ value_count elims
    → folded put (writing s out) (gather (dot_block m elims) b (block_count elims)) ≡ folded put (writing 0 old) (dot_blocks m elims) → out ≡ dot_blocks m elims
blocks-done m elims b s out old h l inv =
    ap (λ (w : Writing). w.out)
    (fold_done put (dot_block m elims) h inv ∙ put_all_lem (dot_blocks m elims) old (l ∙ sym (length-blocks m elims (block_count elims))))

-- ---- one diagonal value

pub diagonal_in : (dof at k n : ℕ) → ValuesFit dof at n → k < dof → at + (k * dof + k) < n
diagonal_in dof at k n f l = omega (arith, f.room, in_square dof k k l l)

pub damped-at : (g : Damping) (p : ℕ) (y : List Float) (v t : Float) → v ≡ get_or y p nan → t ≡ term_of g v → set y p (add binary64 v t) ≡ damp_place g p y
unfolding damp_place
damped-at g p y v t e q = rw (q, e)

pub column-damped : (g : Damping) (dof at k : ℕ) (y next : List Float) → next ≡ damp_place g (at + (k * dof + k)) y → next ≡ damp_column g dof at k y
unfolding damp_column
column-damped g dof at k y next e = e

pub ruleset values = (
  loops,
  column_start,
  entry_has,
  column_turn,
  column-done,
  block_start,
  column_fits,
  block_turn,
  block-done,
  squares_first,
  squares_after,
  before-there,
  values-fit,
  block-fits,
  blocks_turn,
  blocks-done,
  damp_turn,
  damped-at,
  column-damped,
)
