-- The block values entry by entry: what the gather puts at row r, column c of block b, and that damping adds its term to each diagonal value and
-- leaves the others. Assumes nothing.
use Rattle.ground.proofs.ListLaws.{gather-at}
use mathlib.Core.Path.{◌≡◌, refl, sym, ap, ◌∙◌}
use mathlib.Core.Bool.{Bool, true, false, cond}
use mathlib.Core.List.{List}
use Prim.Native.Nat.{ℕ, suc, ◌+◌, ◌*◌, ◌≤◌, ◌<◌}
use native.Mathlib.Omega.{arith}
use native.Mathlib.Nat.{mul-one, suc-mul, mul-le-mul_right}
use native.Mathlib.Decide.{dec_lt}
use lib.Dec.{eqb}
use lib.ListN.{length, get_or, length-set}
use lib.Seq.{get_or-set_same, get_or-set_other}
use lib.Ieee.{Float, nan, binary64, add}
use borrow.Author.Tests.{eqb-true, eqb-false}
use Rattle.ground.specs.Range.{range}
use Rattle.ground.specs.Gather.{gather}
use Rattle.ground.proofs.RangeLaws.{range_last, range-seen, range-keeps, range_split, range_idle}
use Rattle.columns.specs.Columns.{Columns}
use Rattle.columns.specs.JacobianOps.{dot_of}
use Rattle.blocks.specs.declared.damping.Damping.{Damping}
use Rattle.blocks.specs.Sides.{block_count, first_of, dof_of}
use Rattle.blocks.specs.Damping.{term_of}
use Rattle.blocks.specs.Access.{squares_before, entry_place}
use Rattle.blocks.specs.BlockValues.{value_count, dot_entry, dot_column, dot_block, dot_blocks, damp_place, damp_column, damp_block, damp_blocks}
use Rattle.blocks.proofs.AccessRules.{in_square}
use Rattle.blocks.proofs.AccessLaws.{entry-inside}
use Rattle.blocks.proofs.ValueRules.{length-each, length-column, length-block, length-blocks, squares_within}

-- ---- gathered

module _ (m : Columns) where
  column-row : (first dof c r : ℕ) → r < dof → get_or (dot_column m first dof c) r nan ≡ dot_of m (first + r) (first + c)
  unfolding dot_column dot_entry
  column-row first dof c r h =
      let n : length (gather (dot_entry m first c) 0 r) ≡ r = length-each (dot_entry m first c) 1 r (λ k. refl) ∙ mul-one r in
      let k : length (gather (dot_entry m first c) 0 r) + 0 ≡ r = omega arith in
      ap (λ (i : ℕ). get_or (gather (dot_entry m first c) 0 dof) i nan) (sym k) ∙ gather-at nan (dot_entry m first c) r dof 0 h (omega arith)

  block-entry : (elims : List ℕ) (b r c : ℕ) → r < dof_of elims b → c < dof_of elims b
      → get_or (dot_block m elims b) (entry_place elims b r c) nan ≡ dot_of m (first_of elims b + r) (first_of elims b + c)
  unfolding dot_block entry_place
  block-entry elims b r c h l =
      let n : length (gather (dot_column m (first_of elims b) (dof_of elims b)) 0 c) ≡ c * dof_of elims b =
      length-each (dot_column m (first_of elims b) (dof_of elims b)) (dof_of elims b) c (length-column m (first_of elims b) (dof_of elims b)) in
      rw (← n)
      (gather-at nan (dot_column m (first_of elims b) (dof_of elims b)) c (dof_of elims b) r l (rw (length-column m (first_of elims b) (dof_of elims b) c) h)
      ∙ column-row (first_of elims b) (dof_of elims b) c r h)

  -- row r, column c of block b
  pub gathered-entry : (elims : List ℕ) (b r c : ℕ) → b < block_count elims → r < dof_of elims b → c < dof_of elims b
      → get_or (dot_blocks m elims) (squares_before elims b + entry_place elims b r c) nan ≡ dot_of m (first_of elims b + r) (first_of elims b + c)
  gathered-entry elims b r c k h l =
      rw (← length-blocks m elims b)
      (gather-at nan (dot_block m elims) b (block_count elims) (entry_place elims b r c) k (rw (length-block m elims b) (entry-inside elims b r c h l))
      ∙ block-entry elims b r c h l)

  -- and there are no more of them than the blocks have
  pub gathered-length : (elims : List ℕ) → length (dot_blocks m elims) ≡ squares_before elims (block_count elims)
  gathered-length elims = length-blocks m elims (block_count elims)

-- ---- steps of which at most one touches a place

module _ (f : ℕ → List Float → List Float) (q : ℕ) where
  untouched : (lo hi : ℕ) (y : List Float) → ((j : ℕ) (z : List Float) → lo ≤ j → j < hi → get_or (f j z) q nan ≡ get_or z q nan) → get_or (range f lo hi y) q nan ≡ get_or y q nan
  untouched lo hi y same =
      range-seen f (λ _ a. a) (λ z. get_or z q nan) (λ _. Unit {0}) (λ _ _ _. tt) lo hi y tt (λ k z p r _. same k z p r)
      ∙ range_idle (λ _ a. a) lo hi (get_or y q nan) (λ k p r. refl)

  touched : (u : Float → Float) (P : List Float → Type 0) → ((j : ℕ) (z : List Float) → P z → P (f j z)) → (hi k : ℕ) (y : List Float) → k < hi → P y
      → ((j : ℕ) (z : List Float) → j < hi → (j ≡ k → ⊥) → get_or (f j z) q nan ≡ get_or z q nan)
      → ((z : List Float) → P z → get_or (f k z) q nan ≡ u (get_or z q nan)) → get_or (range f 0 hi y) q nan ≡ u (get_or y q nan)
  touched u P keeps hi k y l p other here =
      ap (λ (z : List Float). get_or z q nan) (range_split f 0 (k + 1) hi y (omega arith) (omega arith))
      ∙ untouched (k + 1) hi (range f 0 (k + 1) y) (λ j z a b. other j z b (λ e. omega arith))
      ∙ ap (λ (z : List Float). get_or z q nan) (range_last f 0 k y (omega arith))
      ∙ here (range f 0 k y) (range-keeps f P keeps 0 k y p)
      ∙ ap u (untouched 0 k y (λ j z a b. other j z (omega arith) (λ e. omega arith)))

-- ---- damped

-- a diagonal place of a block is that of one entry
square-once : (d j r c : ℕ) → j < d → r < d → j * d + j ≡ c * d + r → (j ≡ c) × (j ≡ r)
square-once d j r c h l e = go (dec_lt j c) (dec_lt c j)
  where
    go : Dec (j < c) → Dec (c < j) → (j ≡ c) × (j ≡ r)
    go (yes p) s = let k : suc j * d ≤ c * d = mul-le-mul_right d p in absurd (omega (arith, suc-mul j d))
    go (no p) (yes s) = let k : suc c * d ≤ j * d = mul-le-mul_right d s in absurd (omega (arith, suc-mul c d))
    go (no p) (no s) =
        let t : j ≡ c = omega arith in
        let u : j * d ≡ c * d = ap (λ (i : ℕ). i * d) t in
        (t, omega arith)

module _ (g : Damping) where
  -- a value with its term
  unfoldable pub damped_value : Float → Float
  damped_value v = add binary64 v (term_of g v)

  damp_here : (p : ℕ) (y : List Float) → p < length y → get_or (damp_place g p y) p nan ≡ damped_value (get_or y p nan)
  unfolding damp_place damped_value
  damp_here p y l = get_or-set_same y p _ nan l

  damp_other : (p q : ℕ) (y : List Float) → (q ≡ p → ⊥) → get_or (damp_place g p y) q nan ≡ get_or y q nan
  unfolding damp_place
  damp_other p q y ne = get_or-set_other y p q _ nan ne

  damp_length_lem : (dof at k : ℕ) (y : List Float) → length (damp_column g dof at k y) ≡ length y
  unfolding damp_column damp_place
  damp_length_lem dof at k y = length-set y (at + (k * dof + k)) _

  module _ (dof at : ℕ) where
    block_damp_length : (y : List Float) → length (range (damp_column g dof at) 0 dof y) ≡ length y
    block_damp_length y = range-keeps (damp_column g dof at) (λ z. length z ≡ length y) (λ k z e. damp_length_lem dof at k z ∙ e) 0 dof y refl

    -- a place outside the block
    block_damp_out : (q : ℕ) (y : List Float) → ((k : ℕ) → k < dof * dof → at + k ≡ q → ⊥) → get_or (range (damp_column g dof at) 0 dof y) q nan ≡ get_or y q nan
    unfolding damp_column
    block_damp_out q y out =
        untouched (damp_column g dof at) q 0 dof y (λ j z a b. damp_other (at + (j * dof + j)) q z (λ e. out (j * dof + j) (in_square dof j j b b) (sym e)))

    -- row r, column c
    block_damp_in : (r c : ℕ) (y : List Float) → r < dof → c < dof → at + (c * dof + r) < length y
        → get_or (range (damp_column g dof at) 0 dof y) (at + (c * dof + r)) nan ≡ cond (eqb r c) (damped_value (get_or y (at + (c * dof + r)) nan)) (get_or y (at + (c * dof + r)) nan)
    unfolding damp_column
    block_damp_in r c y h l n = go (eqb r c) refl
      where
        q : ℕ
        q = at + (c * dof + r)

        go : (b : Bool) → eqb r c ≡ b → get_or (range (damp_column g dof at) 0 dof y) q nan ≡ cond b (damped_value (get_or y q nan)) (get_or y q nan)
        go true e =
            let t : r ≡ c = eqb-true r c e in
            touched (damp_column g dof at) q damped_value (λ z. q < length z) (λ j z p. rw (damp_length_lem dof at j z) p) dof c y l n
            (λ j z b ne. damp_other (at + (j * dof + j)) q z (λ s. ne (square-once dof j r c b h (omega arith)).0))
            (λ z p. rw t (damp_here (at + (c * dof + c)) z (rw t at p)))
        go false e =
            untouched (damp_column g dof at) q 0 dof y (λ j z a b.
            damp_other (at + (j * dof + j)) q z (λ s. let w = square-once dof j r c b h (omega arith) in eqb-false r c e (sym w.1 ∙ w.0)))

  module _ (elims : List ℕ) where
    damp_block-length : (b : ℕ) (y : List Float) → length (damp_block g elims b y) ≡ length y
    unfolding damp_block
    damp_block-length b y = block_damp_length (dof_of elims b) (squares_before elims b) y

    pub damped-length : (y : List Float) → length (damp_blocks g elims y) ≡ length y
    damped-length y = range-keeps (damp_block g elims) (λ z. length z ≡ length y) (λ b z e. damp_block-length b z ∙ e) 0 (block_count elims) y refl

    -- row r, column c of block b: a diagonal value has its term added, any other stays
    pub damped-entry : (b r c : ℕ) (y : List Float) → length y ≡ value_count elims → b < block_count elims → r < dof_of elims b → c < dof_of elims b
        → get_or (damp_blocks g elims y) (squares_before elims b + entry_place elims b r c) nan
        ≡ cond (eqb r c) (damped_value (get_or y (squares_before elims b + entry_place elims b r c) nan)) (get_or y (squares_before elims b + entry_place elims b r c) nan)
    unfolding entry_place damp_block
    damped-entry b r c y e k h l =
        touched (damp_block g elims) q (λ v. cond (eqb r c) (damped_value v) v) (λ z. q < length z) (λ j z p. rw (damp_block-length j z) p) (block_count elims) b y k
        (omega (arith, inside, squares_within elims b (block_count elims) (squares_before elims b) (dof_of elims b) k refl refl))
        (λ j z a ne. block_damp_out (dof_of elims j) (squares_before elims j) q z (λ i s t. apart (dec_lt j b) (dec_lt b j) ne s t))
        (λ z p. block_damp_in (dof_of elims b) (squares_before elims b) r c z h l p)
      where
        q : ℕ
        q = squares_before elims b + (c * dof_of elims b + r)

        inside : c * dof_of elims b + r < dof_of elims b * dof_of elims b
        inside = in_square (dof_of elims b) r c h l

        apart : {i j : ℕ} → Dec (j < b) → Dec (b < j) → (j ≡ b → ⊥) → i < dof_of elims j * dof_of elims j → squares_before elims j + i ≡ q → ⊥
        apart {i} {j} (yes p) s ne u t = omega (arith, squares_within elims j b (squares_before elims j) (dof_of elims j) p refl refl)
        apart {i} {j} (no p) (yes s) ne u t = omega (arith, inside, squares_within elims b j (squares_before elims b) (dof_of elims b) s refl refl)
        apart {i} {j} (no p) (no s) ne u t = ne (omega arith)
