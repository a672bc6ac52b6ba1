-- The blocks of a side's list are those that `first_of` and `dof_of` tell of; and a walk over them, told by what is left. Assumes nothing.
use Rattle.std.proofs.Common.{◌≡◌, ℕ, zero, suc, ◌+◌, ◌-◌, ◌/◌, ◌<◌, ◌≤◌, List, [], ◌∷◌, length, get_or, drop, refl, sym, ap, ◌∙◌, arith}
use Rattle.std.proofs.lemmas.List.{length-drop}
use Rattle.columns.proofs.PartLaws.{next_inside, next_is, next_rest, none_left}
use Rattle.blocks.specs.declared.sides.Block.{Block}
use Rattle.blocks.specs.Sides.{block_count, first_of, dof_of}
use Rattle.blocks.specs.BlockList.{blocks_of}

abbrev no_block : Block
no_block = record { first = 0; dof = 0 }

length_blocks : (side : List ℕ) → length (blocks_of side) ≡ block_count side
length_blocks [] = refl
length_blocks (x ∷ []) = refl
length_blocks (x ∷ y ∷ side) = omega (arith, length_blocks side)

block_at : (side : List ℕ) (b : ℕ) → b < block_count side → get_or (blocks_of side) b no_block ≡ record { first = first_of side b; dof = dof_of side b }
block_at [] b l = absurd (omega arith)
block_at (x ∷ []) b l = absurd (omega arith)
block_at (x ∷ y ∷ side) zero l = refl
block_at (x ∷ y ∷ side) (suc b) l =
    let first : suc b + suc b ≡ suc (suc (b + b)) = omega arith in
    let dof : suc b + suc b + 1 ≡ suc (suc (b + b + 1)) = omega arith in
    rw (dof, first) (block_at side b (omega arith))

-- past a pair there is a block fewer
pub fewer : (side rest : List ℕ) → rest ≡ drop 2 side → length rest + 2 ≡ length side → length (blocks_of rest) < length (blocks_of side)
fewer side rest e l = omega (arith, length_blocks side, length_blocks rest)

-- how many blocks are gone where `left` is left
abbrev pub gone : List ℕ → List Block → ℕ
gone side left = block_count side - length left

pub record Left (side : List ℕ) (left : List Block) : Type 0 where
  pub is : left ≡ drop (gone side left) (blocks_of side)

pub all_left : (side : List ℕ) (left : List Block) → left ≡ blocks_of side → Left side left × (gone side left ≡ 0)
all_left side left e =
    let z : gone side left ≡ 0 = omega (arith, ap length e, length_blocks side) in
    (record { is = rw z e }, z)

-- one block more is gone: it is the one with that number
pub record Taken (side : List ℕ) (left left' : List Block) (block : Block) : Type 0 where
  pub next : Left side left'
  pub on : gone side left' ≡ gone side left + 1
  pub inside : gone side left < block_count side
  pub first : block.first ≡ first_of side (gone side left)
  pub dof : block.dof ≡ dof_of side (gone side left)

module _ (side : List ℕ) (left : List Block) (w : Left side left) where
  few : length left ≤ block_count side
  few = omega (arith, ap length w.is, length-drop (gone side left) (blocks_of side), length_blocks side)

  pub taken : (left' : List Block) (block : Block) → left ≡ block ∷ left' → Taken side left left' block
  taken left' block e =
      let i : drop (gone side left) (blocks_of side) ≡ block ∷ left' = sym w.is ∙ e in
      let n : length left ≡ suc (length left') = ap length e in
      let l : gone side left < block_count side = omega (arith, few) in
      let z : gone side left' ≡ gone side left + 1 = omega (arith, few) in
      let b = next_is (blocks_of side) (gone side left) left' block no_block i ∙ block_at side (gone side left) l in
      record {
        next = record { is = rw z (next_rest (blocks_of side) (gone side left) left' block i) };
        on = z;
        inside = l;
        first = ap (λ (k : Block). k.first) b;
        dof = ap (λ (k : Block). k.dof) b;
      }

  pub none_left_of : left ≡ [] → block_count side ≤ gone side left
  none_left_of e = omega (arith, ap length e)
