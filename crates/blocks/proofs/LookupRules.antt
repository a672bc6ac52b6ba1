-- What the code of src/partition.rt shows of the definitions: a lemma for each way that a function returns, and what its calls ask. Assumes
-- nothing.
use mathlib.Core.Path.{◌≡◌, refl}
use mathlib.Core.Bool.{Bool, true, false, cond}
use mathlib.Core.List.{List}
use Prim.Native.Nat.{ℕ, ◌+◌, ◌-◌, ◌/◌, ◌≤◌, ◌<◌}
use native.Mathlib.Numerals.{add-one}
use native.Mathlib.Omega.{arith}
use native.Mathlib.Nat.{le_antisymm}
use lib.Dec.{ltb, leb}
use lib.ListN.{length}
use borrow.Author.Tests.{lt-ltb, le-ltb, le-leb, lt-leb, ltb-true, ltb-false, leb-true}
use Rattle.ground.specs.First.{first}
use Rattle.ground.proofs.FirstLaws.{first_bad}
use Rattle.ground.proofs.Rules.{searches}
use Rattle.ground.proofs.TestLaws.{and_true}
use Rattle.blocks.specs.Sides.{first_of, dof_of, offset_of}
use Rattle.blocks.specs.Claims.{too_many}
use Rattle.std.specs.Prelude.{Option, Some, None}
use Rattle.blocks.specs.declared.partition.ColSlot.TheVariants as slot
use Rattle.blocks.specs.Lookups.{asked, holds, holder, local_in, within_in, slot_of, offset_in, BlockThere, HeldBy, BlocksThere}

-- ---- the blocks that are asked

pub asked_none : (side : List ℕ) → 65_536 < length side / 2 → 0 ≡ asked side
unfolding asked too_many
asked_none side h = rw (lt-ltb 65_536 (length side / 2) h)

pub asked_all : (side : List ℕ) → length side / 2 ≤ 65_536 → length side / 2 ≡ asked side
unfolding asked too_many
asked_all side h = rw (le-ltb 65_536 (length side / 2) h)

-- they are blocks of the list, and within the limit
pub asked-few : (side : List ℕ) → (asked side ≤ 65_536) × (asked side ≤ length side / 2)
unfolding asked too_many
asked-few side = go (ltb 65_536 (length side / 2)) refl
  where
    go : (b : Bool) → ltb 65_536 (length side / 2) ≡ b → (cond b 0 (length side / 2) ≤ 65_536) × (cond b 0 (length side / 2) ≤ length side / 2)
    go true e = (omega arith, omega arith)
    go false e = (ltb-false 65_536 (length side / 2) e, omega arith)

module _ (side : List ℕ) (n b : ℕ) where
  pub block-there : n ≡ asked side → b < n → BlockThere (length side) b
  block-there e l = let h : asked side ≤ length side / 2 = (asked-few side).1 in record { there = omega arith }

  pub blocks-there : n ≡ asked side → b < n → BlocksThere (length side) b
  blocks-there e l =
      let h : asked side ≤ length side / 2 = (asked-few side).1 in
      let k : asked side ≤ 65_536 = (asked-few side).0 in
      record { before = omega arith; few = omega arith }

  pub there-before : BlocksThere n b → (k : ℕ) → k < b → BlockThere n k
  there-before h k l = record { there = omega (arith, h.before) }

-- ---- which block holds a column

module _ (side : List ℕ) (column b start : ℕ) (e : start ≡ first_of side b) where
  pub holds-low : column < start → false ≡ holds side column b
  unfolding holds
  holds-low l = rw (lt-leb (first_of side b) column (rw e at l))

  pub holds-high : (dof : ℕ) → dof ≡ dof_of side b → start ≤ column → ltb column (start + dof) ≡ holds side column b
  unfolding holds
  holds-high dof f l = rw (le-leb (first_of side b) column (rw e at l), e, f)

-- what it is worth that a block holds a column
pub held_low : (side : List ℕ) (column b : ℕ) → holds side column b ≡ true → first_of side b ≤ column
unfolding holds
held_low side column b e = leb-true _ _ (and_true (leb (first_of side b) column) _ e).0

pub held_high : (side : List ℕ) (column b : ℕ) → holds side column b ≡ true → column < first_of side b + dof_of side b
unfolding holds
held_high side column b e = ltb-true _ _ (and_true (leb (first_of side b) column) _ e).1

-- b is the block found, n how many were asked
module _ (side : List ℕ) (column b n : ℕ) (e : b ≡ holder side column) (f : n ≡ asked side) where
  pub held_by : b < n → HeldBy side column b
  held_by l =
      let h : first (holds side column) 0 (asked side) < asked side = rw (e, f) at l in
      record { there = (block-there side n b f l).there; held = rw e (first_bad (holds side column) 0 (asked side) h) }

  pub local_found : (o i : ℕ) → b < n → o ≡ offset_of side b → i ≡ column - first_of side b → Some (o + i) ≡ local_in side column
  unfolding local_in
  local_found o i l p q = rw (← e, ← f, lt-ltb b n l, p, q)

  pub local_fits : b < n → b < 65_536
  local_fits l = omega (arith, (asked-few side).0)

  pub local_none : n ≤ b → None ≡ local_in side column
  unfolding local_in
  local_none l = rw (← e, ← f, le-ltb b n l)

  pub within_found : (i : ℕ) → b < n → i ≡ column - first_of side b → Some (b, i) ≡ within_in side column
  unfolding within_in
  within_found i l q = rw (← e, ← f, lt-ltb b n l, q)

  pub within_none : n ≤ b → None ≡ within_in side column
  unfolding within_in
  within_none l = rw (← e, ← f, le-ltb b n l)

-- ---- slots

module _ (kept elims : List ℕ) (column : ℕ) (a : Option ℕ) (e : a ≡ local_in kept column) where
  pub slot_kept : (l : ℕ) → a ≡ Some l → Some (slot.Kept l) ≡ slot_of kept elims column
  unfolding slot_of
  slot_kept l p = rw (← e, p)

  module _ (w : Option (ℕ × ℕ)) (p : a ≡ None) (f : w ≡ within_in elims column) where
    pub slot_eliminated : (b i : ℕ) → w ≡ Some (b, i) → Some (slot.Eliminated b i) ≡ slot_of kept elims column
    unfolding slot_of
    slot_eliminated b i q = rw (← e, p, ← f, q)

    pub slot_none : w ≡ None → None ≡ slot_of kept elims column
    unfolding slot_of
    slot_none q = rw (← e, p, ← f, q)

-- ---- offsets

pub offset-first : (side : List ℕ) → 0 ≡ offset_of side 0
unfolding offset_of
offset-first side = refl

pub offset-next : (side : List ℕ) (k s d : ℕ) → s ≡ offset_of side k → d ≡ dof_of side k → s + d ≡ offset_of side (k + 1)
unfolding offset_of
offset-next side k s d e f = rw (add-one, e, f)

pub offset_all : (side : List ℕ) (k b s : ℕ) → k ≤ b → b ≤ k → s ≡ offset_of side k → s ≡ offset_of side b
offset_all side k b s l h e = let q : k ≡ b = le_antisymm l h in rw q at e

module _ (side : List ℕ) (b n : ℕ) (e : n ≡ asked side) where
  pub offset_found : (o : ℕ) → b < n → o ≡ offset_of side b → Some o ≡ offset_in side b
  unfolding offset_in
  offset_found o l p = rw (p, ← e, lt-ltb b n l)

  pub offset_none : n ≤ b → None ≡ offset_in side b
  unfolding offset_in
  offset_none l = rw (← e, le-ltb b n l)

pub ruleset lookups = (
  searches,
  asked_none,
  asked_all,
  block-there,
  blocks-there,
  there-before,
  holds-low,
  holds-high,
  held_by,
  local_found,
  local_none,
  within_found,
  within_none,
  slot_kept,
  slot_eliminated,
  slot_none,
  offset-first,
  offset-next,
  offset_all,
  offset_found,
  offset_none,
)
