-- A lookup gives what the side's list of columns does: the first place where the column stands there is its local number, and nothing is
-- answered exactly where it stands nowhere. Assumes nothing.
use mathlib.Core.Path.{◌≡◌, refl, sym, ◌∙◌}
use mathlib.Core.Bool.{Bool, true, false, cond}
use mathlib.Core.List.{List}
use Prim.Native.Nat.{ℕ, ◌+◌, ◌<◌}
use native.Mathlib.Omega.{arith}
use native.Mathlib.Decide.{dec_lt}
use lib.Dec.{ltb}
use lib.ListN.{length, get_or}
use borrow.Author.Tests.{lt-ltb, le-ltb, le-leb, ltb-true}
use Rattle.ground.specs.First.{first, None}
use Rattle.ground.proofs.FirstLaws.{first-before, first_bad, past_none, none_past}
use Rattle.blocks.specs.Sides.{block_count, first_of, dof_of, cols, offset_of, side_dof}
use Rattle.blocks.specs.Claims.{too_many, place_of}
use Rattle.std.specs.Prelude.{Option, Some, None as Nothing}
use Rattle.blocks.specs.Lookups.{asked, holds, holder, in_block, local_in, within_in}
use Rattle.blocks.proofs.PlaceLaws.{place_is, place_none}
use Rattle.blocks.proofs.SideLaws.{cols-length, offset-next, cols-at, LocalOf, cols_from}
use Rattle.blocks.proofs.LookupRules.{held_low, held_high}

clash : true ≡ false → ⊥
clash q = let z : ◌≡◌ {A = ℕ} 0 1 = cc in omega arith

module _ (side : List ℕ) (column : ℕ) (few : too_many side ≡ false) where
  -- a list within the limit is asked whole
  pub asked-whole : asked side ≡ block_count side
  unfolding asked
  asked-whole = rw few

  -- the block of a place where the column stands holds it
  holds_at : (p : ℕ) (r : LocalOf side p) → get_or (cols side) p 0 ≡ column
      → (first_of side r.block + r.offset ≡ column) × (holds side column r.block ≡ true)
  unfolding holds
  holds_at p r e =
      let q : first_of side r.block + r.offset ≡ column = sym r.has.is ∙ e in
      let i : r.offset < dof_of side r.block = r.has.offset in
      (q, rw (le-leb (first_of side r.block) column (omega arith), lt-ltb column (first_of side r.block + dof_of side r.block) (omega arith)))

  module _ (found : holder side column < asked side) where
    held : holds side column (holder side column) ≡ true
    held = first_bad (holds side column) 0 (asked side) found

    among : holder side column < block_count side
    among = omega (arith, asked-whole)

    inside : in_block side column < dof_of side (holder side column)
    inside = omega (arith, held_low side column (holder side column) held, held_high side column (holder side column) held)

    -- the local number's place is the column's
    pub local-column : get_or (cols side) (offset_of side (holder side column) + in_block side column) 0 ≡ column
    local-column =
        cols-at side (holder side column) (in_block side column) among inside
        ∙ omega (arith, held_low side column (holder side column) held)

    -- and the first such
    pub local-first : (p : ℕ) → p < offset_of side (holder side column) + in_block side column → get_or (cols side) p 0 ≡ column → ⊥
    local-first p l e =
        let n : p < offset_of side (block_count side) = omega (arith, inside, offset-next side (holder side column) (block_count side) among) in
        let r = cols_from side p n in
        let q = holds_at p r e in
        go r q.0 (dec_lt r.block (holder side column)) (dec_lt (holder side column) r.block) q.1
      where
        go : (r : LocalOf side p) → first_of side r.block + r.offset ≡ column → Dec (r.block < holder side column)
            → Dec (holder side column < r.block) → holds side column r.block ≡ true → ⊥
        go r q (yes a) d h = clash (sym h ∙ first-before (holds side column) 0 (asked side) r.block (omega arith) a)
        go r q (no a) (yes d) h = omega (arith, inside, r.is, offset-next side (holder side column) r.block d)
        go r q (no a) (no d) h =
            let t : r.block ≡ holder side column = omega arith in
            let u : first_of side (holder side column) + r.offset ≡ column = rw t at q in
            let v : p ≡ offset_of side (holder side column) + r.offset = rw t at r.is in
            omega arith

    pub local-place : place_of (cols side) column ≡ offset_of side (holder side column) + in_block side column
    local-place =
        place_is (cols side) column (offset_of side (holder side column) + in_block side column)
        (rw (cols-length side) (omega (arith, inside, offset-next side (holder side column) (block_count side) among))) local-column local-first

  -- no block holds a column exactly where it stands nowhere in the list
  pub none_place : None (holds side column) 0 (block_count side) → place_of (cols side) column ≡ length (cols side)
  none_place none = place_none (cols side) column (λ p l e. at p (cols_from side p (rw (cols-length side) at l)) e)
    where
      at : (p : ℕ) → LocalOf side p → get_or (cols side) p 0 ≡ column → ⊥
      at p r e = clash (sym (holds_at p r e).1 ∙ none r.block (omega arith) r.has.block)

  -- what a lookup answers, said of the list alone
  pub local-is : local_in side column ≡ cond (ltb (place_of (cols side) column) (length (cols side))) (Some (place_of (cols side) column)) Nothing
  unfolding local_in
  local-is = go (ltb (holder side column) (asked side)) refl
    where
      go : (b : Bool) → ltb (holder side column) (asked side) ≡ b
          → cond b (Some (offset_of side (holder side column) + in_block side column)) Nothing
          ≡ cond (ltb (place_of (cols side) column) (length (cols side))) (Some (place_of (cols side) column)) Nothing
      go true e =
          let f = ltb-true _ _ e in
          rw (local-place f, cols-length side, lt-ltb (offset_of side (holder side column) + in_block side column) (side_dof side) (omega (arith, inside f, offset-next side (holder side column) (block_count side) (among f))))
      go false e =
          let n : None (holds side column) 0 (block_count side) = rw asked-whole at (past_none (holds side column) 0 (asked side) e) in
          rw (none_place n, le-ltb (length (cols side)) (length (cols side)) (omega arith))

  -- nothing exactly where no block holds the column
  pub none_local : None (holds side column) 0 (block_count side) → local_in side column ≡ Nothing
  unfolding local_in
  none_local none = rw (none_past (holds side column) 0 (asked side) (rw asked-whole none))

  pub local_none : local_in side column ≡ Nothing → None (holds side column) 0 (block_count side)
  unfolding local_in
  local_none e = go (ltb (holder side column) (asked side)) refl e
    where
      go : (b : Bool) → ltb (holder side column) (asked side) ≡ b → cond b (Some (offset_of side (holder side column) + in_block side column)) Nothing ≡ Nothing
          → None (holds side column) 0 (block_count side)
      go true t q = let z : ◌≡◌ {A = ℕ} 0 1 = cc in absurd (omega arith)
      go false t q = rw asked-whole at (past_none (holds side column) 0 (asked side) t)

-- a list past the limit holds nothing
pub many_local : (side : List ℕ) (column : ℕ) → too_many side ≡ true → local_in side column ≡ Nothing
unfolding local_in asked
many_local side column e = rw (e, le-ltb (first (holds side column) 0 0) 0 (omega arith))

-- an eliminated column's block and offset are those of its local number
unfoldable pub local_of : List ℕ → Option (ℕ × ℕ) → Option ℕ
local_of side (Some (block, offset)) = Some (offset_of side block + offset)
local_of side Nothing = Nothing

pub within-local : (side : List ℕ) (column : ℕ) → local_in side column ≡ local_of side (within_in side column)
unfolding local_in within_in local_of
within-local side column = go (ltb (holder side column) (asked side))
  where
    go : (b : Bool) → cond b (Some (offset_of side (holder side column) + in_block side column)) Nothing
        ≡ local_of side (cond b (Some ((holder side column), (in_block side column))) Nothing)
    go true = refl
    go false = refl
