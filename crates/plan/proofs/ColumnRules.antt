-- What the loops of src/lists.rt leave: a number for each of a side's columns, in local order. Assumes nothing.
use mathlib.Core.Path.{◌≡◌, refl, sym, ap, ◌∙◌}
use mathlib.Core.List.{List, [], ◌++◌, append_assoc}
use Prim.Native.Nat.{ℕ, zero, suc, ◌+◌, ◌-◌, ◌/◌, ◌≤◌, ◌<◌}
use native.Mathlib.Nat.{le_trans}
use native.Mathlib.Omega.{arith}
use lib.ListN.{length, get_or, take, drop, length-append}
use lib.Seq.{take_at, drop_at, drop-drop}
use borrow.Rule.Slice.PartMut.{put_mid}
use Rattle.std.specs.List.{between}
use Rattle.std.specs.Simd.{first_chunks}
use Rattle.std.proofs.lemmas.List.Edits.{length-between}
use Rattle.ground.specs.Gather.{gather, list_of}
use Rattle.ground.proofs.GatherLaws.{gather_none, gather_last, length-list_of, get_or-list_of}
use Rattle.ground.proofs.ListLaws.{pair_first, pair_second, gather-at}
use Rattle.blocks.specs.Sides.{block_count, first_of, dof_of, offset_of, side_dof}
use Rattle.blocks.proofs.SideLaws.{offset-next}
use Rattle.plan.specs.Plan.{column_blocks}
use Rattle.plan.specs.ColumnLists.{block_numbers, Counted, numbers_listed, ColumnsFit}

-- ---- where blocks begin

pub first-place : (side : List ℕ) → 0 ≡ offset_of side 0
unfolding offset_of
first-place side = refl

pub next_place : (side : List ℕ) (b at dof : ℕ) → at ≡ offset_of side b → dof ≡ dof_of side b → at + dof ≡ offset_of side (b + 1)
unfolding offset_of
next_place side b at dof e d = let q : b + 1 ≡ suc b = omega arith in rw (q, e, d)

numbers_length : (v : ℕ → ℕ → ℕ) (side : List ℕ) (b : ℕ) → length (gather (block_numbers v side) 0 b) ≡ offset_of side b
unfolding offset_of
numbers_length v side zero = ap length (gather_none (block_numbers v side) 0 0 (omega arith))
numbers_length v side (suc b) =
    let e : b + 1 ≡ suc b = omega arith in
    ap (λ (k : ℕ). length (gather (block_numbers v side) 0 k)) (sym e)
    ∙ ap length (gather_last (block_numbers v side) 0 b (omega arith))
    ∙ length-append (gather (block_numbers v side) 0 b) (block_numbers v side b)
    ∙ (rw (numbers_length v side b, length-list_of (λ i. v b (first_of side b + i)) 0 (dof_of side b)))

-- in the list of all columns' blocks each column has its own
pub number_at : (side : List ℕ) (b i : ℕ) → b < block_count side → i < dof_of side b → get_or (column_blocks side) (offset_of side b + i) 0 ≡ b
unfolding column_blocks
number_at side b i h l =
    rw (← numbers_length (λ b _. b) side b) (gather-at 0 (λ b. list_of (λ _. b) (dof_of side b)) b (block_count side) i h (rw (length-list_of (λ _. b) 0 (dof_of side b)) l))
    ∙ get_or-list_of (λ _. b) 0 (dof_of side b) i l

-- ---- the loop over blocks: b of them are through, pair is the next as the code read it, and its numbers begin at place `at`

pub numbers_start : (v : ℕ → ℕ → ℕ) (side l : List ℕ) → l ≡ gather (block_numbers v side) 0 0 ++ l
numbers_start v side l = rw (gather_none (block_numbers v side) 0 0 (omega arith))

module _ (side : List ℕ) (pairs : List (List ℕ)) (e : pairs ≡ first_chunks 2 (length side / 2) side) (m : length pairs ≡ length side / 2) (b : ℕ) (h : b < length pairs) where
  there : b < block_count side
  there = rw m at h

  first_is : get_or (get_or pairs b []) 0 0 ≡ first_of side b
  first_is = rw e (pair_first (length side / 2) b side there)

  dof_is : get_or (get_or pairs b []) 1 0 ≡ dof_of side b
  dof_is = rw e (pair_second (length side / 2) b side there)

  module _ (n at dof : ℕ) (f : ColumnsFit side n) (p : at ≡ offset_of side b) (d : dof ≡ get_or (get_or pairs b []) 1 0) where
    ends : at + dof ≤ side_dof side
    ends = rw (d, dof_is, p) (offset-next side b (block_count side) there)

    pub numbers_few : at + dof ≤ 65_536
    numbers_few = le_trans ends f.dofs

    pub numbers_next : at + dof ≡ offset_of side (b + 1)
    numbers_next = next_place side b at dof p (rw dof_is at d)

    pub numbers_room : at + dof ≤ n
    numbers_room = le_trans ends f.room

    module _ (l : List ℕ) (k : length l ≡ n) where
      long : length (between at (at + dof) l) ≡ dof
      long = let q = length-between l at (at + dof) (omega (arith, numbers_room)) in omega arith

      pub columns_few : (i : ℕ) → i < length (between at (at + dof) l) → get_or (get_or pairs b []) 0 0 + i < 65_536
      columns_few i g = f.below b i _ (record { block = there; offset = omega (arith, long, dof_is); is = ap (λ (c : ℕ). c + i) first_is })

      pub numbers_turn : (v : ℕ → ℕ → ℕ) (l₀ part : List ℕ) → l ≡ gather (block_numbers v side) 0 b ++ drop at l₀
          → part ≡ list_of (λ i. v b (get_or (get_or pairs b []) 0 0 + i)) (length (between at (at + dof) l))
          → put_mid at (at + dof - at) l part ≡ gather (block_numbers v side) 0 (b + 1) ++ drop (at + dof) l₀
      numbers_turn v l₀ part inv q =
          let z : at + dof - at ≡ dof = omega arith in
          let w : part ≡ block_numbers v side b = q ∙ rw (long, first_is, d, dof_is) in
          let c : length (gather (block_numbers v side) 0 b) ≡ at = numbers_length v side b ∙ sym p in
          let front : take at l ≡ gather (block_numbers v side) 0 b = ap (take at) inv ∙ take_at (gather (block_numbers v side) 0 b) (drop at l₀) at c in
          let back : drop dof (drop at l) ≡ drop (at + dof) l₀ = ap (λ (y : List ℕ). drop dof (drop at y)) inv ∙ ap (drop dof) (drop_at (gather (block_numbers v side) 0 b) (drop at l₀) at c) ∙ drop-drop dof at l₀ in
          rw (z, front, w, back, gather_last (block_numbers v side) 0 b (omega arith)) (sym (append_assoc (gather (block_numbers v side) 0 b) (block_numbers v side b) (drop (at + dof) l₀)))

pub numbers_done : (v : ℕ → ℕ → ℕ) (side l l₀ : List ℕ) (at b : ℕ) → at ≡ offset_of side b → b ≡ block_count side → l ≡ gather (block_numbers v side) 0 b ++ drop at l₀
    → ◌≡◌ {A = Counted} (record { count = at; list = l }) (numbers_listed v side l₀)
unfolding numbers_listed
numbers_done v side l l₀ at b p q inv = let e : at ≡ side_dof side = p ∙ ap (offset_of side) q in rw (inv, q, e)
