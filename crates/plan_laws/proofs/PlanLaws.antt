-- Demand 3, first half: for columns and blocks that keep the rules, a chunk length from 1 to 1,048,576 and enough room, planning answers 10 exactly
-- if some row has entries of two eliminated blocks, and 0 otherwise. With 0 the plan is that of specs/Plan.antt. Assumes nothing.
use mathlib.Core.Path.{◌≡◌, refl, sym, ap, ◌∙◌}
use mathlib.Core.Bool.{Bool, true, false}
use mathlib.Core.Logic.{◌⊎◌, inl, inr}
use mathlib.Core.List.{List, [], ◌∷◌}
use Prim.Native.Nat.{ℕ, ◌/◌, ◌≤◌, ◌<◌}
use native.Mathlib.Omega.{arith}
use lib.Dec.{ltb}
use lib.ListN.{length}
use borrow.Author.Tests.{ne_eqb, le-ltb}
use Rattle.columns.specs.Refusals.{Told, tell, done, Passes, on_pass, or_else}
use Rattle.columns.specs.Lengths.{length_of, need_of}
use Rattle.columns.specs.Columns.{Columns, column_count, Keeps}
use Rattle.columns.proofs.RefusalLaws.{both_pass}
use Rattle.columns.proofs.CheckLaws.{passes_keeps}
use Rattle.columns.proofs.CallLaws.{room-done, room-right}
use Rattle.blocks.specs.Claims.{late_blocks, parts_told, Parted}
use Rattle.blocks.proofs.CallRules.{parts_passes}
use Rattle.blocks.proofs.PartLaws.{parted_parts, parted_late, walk_parted}
use Rattle.plan.specs.Owners.{side_entries, first_clash, connected_told, Connects}
use Rattle.plan.specs.Spans.{chunk_told, side_spans}
use Rattle.plan.specs.Plan.{Buffers, room, plan_early, plan_connected, plan_told, plan_of, plan_left}
use Rattle.plan_laws.proofs.ConnectedLaws.{told_connects, connects_told}
use Rattle.plan.proofs.ChunkLaws.{chunk_passes}
use Rattle.plan.proofs.OwnerCalls.{told_pass}

-- columns and blocks keep the rules, the chunk length is within the limits, and no buffer is shorter than its need
pub record Sound (m : Columns) (kept elims : List ℕ) (len : ℕ) (b : Buffers) : Type 0 where
  pub keeps : Keeps m
  pub parted : Parted (column_count m) kept elims
  pub some-len : 0 < len
  pub few-len : len ≤ 1_048_576
  pub roomy : (k : ℕ) → k < length (room m kept elims len b) / 2 → need_of (room m kept elims len b) k ≤ length_of (room m kept elims len b) k

pub chunk_done : (len : ℕ) → 0 < len → len ≤ 1_048_576 → chunk_told len ≡ done
unfolding chunk_told
chunk_done len s f = rw (ne_eqb len 0 (λ e. omega arith), le-ltb 1_048_576 len f)

-- 10 or nothing
ten : (m : Columns) (elims : List ℕ) → ((plan_connected m elims).number ≡ 0) ⊎ ((plan_connected m elims).number ≡ 10)
unfolding connected_told
ten m elims = go (ltb (first_clash (side_entries m elims)) (length (side_entries m elims))) refl
  where
    go : (t : Bool) → ltb (first_clash (side_entries m elims)) (length (side_entries m elims)) ≡ t → ((plan_connected m elims).number ≡ 0) ⊎ ((plan_connected m elims).number ≡ 10)
    go true e = inr (rw e)
    go false e = inl (rw e)

-- some row has entries of two eliminated blocks, or none has
pub connects_or_not : (m : Columns) (elims : List ℕ) → Connects m elims ⊎ (Connects m elims → ⊥)
connects_or_not m elims = go (ten m elims)
  where
    go : ((plan_connected m elims).number ≡ 0) ⊎ ((plan_connected m elims).number ≡ 10) → Connects m elims ⊎ (Connects m elims → ⊥)
    go (inl e) = inr (λ c. (let q = connects_told m elims c in omega arith))
    go (inr e) = inl (told_connects m elims e)

module _ (m : Columns) (kept elims : List ℕ) (len : ℕ) (b : Buffers) (s : Sound m kept elims len b) where
  early_done : plan_early m kept elims len b ≡ done
  unfolding on_pass
  early_done = rw (parted_parts m kept elims s.keeps s.parted (chunk_told len), chunk_done len s.some-len s.few-len, room-done (room m kept elims len b) s.roomy)

  abbrev counts : Told
  counts = tell 0 (length (side_spans m kept len) ∷ length (side_spans m elims len) ∷ [])

  -- 1 to 9 pass, so only 10 may refuse
  pub sound_told : plan_told m kept elims len b ≡ or_else (plan_connected m elims) counts
  unfolding plan_told on_pass
  sound_told = rw (early_done, parted_late m kept elims s.parted)

  -- a row with entries of two eliminated blocks: 10, with the two blocks of the first entry whose row an earlier block holds
  pub connected-refused : Connects m elims → plan_told m kept elims len b ≡ plan_connected m elims
  unfolding on_pass
  connected-refused c = sound_told ∙ rw (ne_eqb (plan_connected m elims).number 0 (λ e. let q = connects_told m elims c in omega arith))

  pub connected-number : Connects m elims → (plan_told m kept elims len b).number ≡ 10
  connected-number c = ap (λ (t : Told). t.number) (connected-refused c) ∙ connects_told m elims c

  -- no such row: 0 with both sides' span counts, and the plan
  unconnected : (Connects m elims → ⊥) → plan_connected m elims ≡ done
  unconnected ne = told_pass m elims [] (go (ten m elims))
    where
      go : ((plan_connected m elims).number ≡ 0) ⊎ ((plan_connected m elims).number ≡ 10) → Passes (plan_connected m elims)
      go (inl e) = e
      go (inr e) = absurd (ne (told_connects m elims e))

  pub unconnected_planned : (Connects m elims → ⊥) → plan_told m kept elims len b ≡ counts
  unfolding on_pass
  unconnected_planned ne = sound_told ∙ rw (unconnected ne)

  pub unconnected_left : (Connects m elims → ⊥) → plan_left m kept elims len b ≡ plan_of m kept elims len b
  unfolding plan_left on_pass
  unconnected_left ne = rw (early_done, parted_late m kept elims s.parted, unconnected ne)

  -- and back: 10 is told of nothing else, and 0 only where no row is so
  passing : plan_connected m elims ≡ done → or_else (plan_connected m elims) counts ≡ counts
  unfolding on_pass
  passing e = rw e

  pub refused-connected : (plan_told m kept elims len b).number ≡ 10 → Connects m elims
  refused-connected e = go (ten m elims)
    where
      go : ((plan_connected m elims).number ≡ 0) ⊎ ((plan_connected m elims).number ≡ 10) → Connects m elims
      go (inl z) = absurd (let q : 0 ≡ 10 = sym (ap (λ (t : Told). t.number) (sound_told ∙ passing (told_pass m elims [] z))) ∙ e in omega arith)
      go (inr z) = told_connects m elims z

  pub planned_unconnected : Passes (plan_told m kept elims len b) → Connects m elims → ⊥
  planned_unconnected p c = let q = connected-number c in omega arith

-- an answer of 0 gives all of that back: so planning answers 0 exactly if it is sound and no row connects two eliminated blocks
pub passes_sound : (m : Columns) (kept elims : List ℕ) (len : ℕ) (b : Buffers) → Passes (plan_told m kept elims len b) → Sound m kept elims len b
unfolding plan_told
passes_sound m kept elims len b p =
    let a = both_pass (plan_early m kept elims len b) _ p in
    let e = both_pass (parts_told m kept elims (chunk_told len)) _ a.0 in
    let parts = parts_passes m kept elims (chunk_told len) e.0 in
    let k = passes_keeps m parts.0 in
    let c = chunk_passes m.nrows len parts.3 k.small.few-rows in
    record {
      keeps = k;
      parted = walk_parted m kept elims parts.1 parts.2 (both_pass (late_blocks m kept elims) _ a.1).0;
      some-len = c.some-len;
      few-len = c.few-len;
      roomy = room-right (room m kept elims len b) e.1;
    }
