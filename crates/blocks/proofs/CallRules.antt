-- What the calls of `check_parts`, `check_early`, `walk_blocks` and `check_blocks` come to, from what those that they make promise. Assumes nothing.
use mathlib.Core.Path.{◌≡◌, sym, ap, ◌∙◌}
use mathlib.Core.List.{List, [], ◌∷◌}
use Prim.Native.Nat.{ℕ, ◌≤◌}
use native.Mathlib.Omega.{arith}
use lib.ListN.{length}
use Rattle.columns.specs.declared.refusal.Refusal.{Refusal}
use Rattle.columns.specs.Refusals.{Told, done, refused, Passes, on_pass, or_else, sooner}
use Rattle.columns.specs.Lengths.{no_room_of}
use Rattle.columns.specs.Columns.{Columns, column_count, checked}
use Rattle.columns.proofs.RefusalLaws.{pass_refused, both_pass, sooner_pass}
use Rattle.columns.proofs.CallLaws.{room-right}
use Rattle.columns.proofs.CheckLaws.{passes_keeps}
use Rattle.blocks.specs.Claims.{lists_told, empty_side, parts_told, early_told, claims, blocks_told, map_left, Mapped, check_blocks}
use Rattle.blocks.specs.Walk.{Roomy, walk_blocks}

-- the first two checks, side by side
pub lists_first : (m : Columns) (kept elims : List ℕ) (columns sides lists : Told) → columns ≡ checked m → sides ≡ lists_told kept elims → lists ≡ sooner columns sides
    → lists ≡ sooner (checked m) (lists_told kept elims)
lists_first m kept elims columns sides lists c s l = l ∙ rw (c, s)

pub early_told_lem : (m : Columns) (kept elims map : List ℕ) (room t : Told) → room ≡ no_room_of (length map ∷ column_count m ∷ []) → t ≡ parts_told m kept elims room → t ≡ early_told m kept elims map
unfolding early_told
early_told_lem m kept elims map room t r q = q ∙ rw r

-- ---- what a pass of the early checks gives

pub parts_passes : (m : Columns) (kept elims : List ℕ) (rest : Told) → Passes (parts_told m kept elims rest) → Passes (checked m) × Passes (lists_told kept elims) × Passes (empty_side kept elims) × Passes rest
parts_passes m kept elims rest e =
    let a = both_pass (sooner (checked m) (lists_told kept elims)) _ e in
    let b = both_pass (empty_side kept elims) rest a.1 in
    let d = sooner_pass (checked m) (lists_told kept elims) a.0 in
    (d.0, d.1, b.0, b.1)

module _ (m : Columns) (kept elims map : List ℕ) where
  pub early_passes : Passes (early_told m kept elims map) → Passes (checked m) × Passes (lists_told kept elims) × Passes (empty_side kept elims) × (column_count m ≤ length map)
  unfolding early_told
  early_passes e =
      let p = parts_passes m kept elims (no_room_of (length map ∷ column_count m ∷ [])) e in
      (p.0, p.1, p.2, room-right (length map ∷ column_count m ∷ []) p.3 0 (omega arith))

  pub early_roomy : done ≡ early_told m kept elims map → Roomy (column_count m) (length map)
  early_roomy e =
      let p = early_passes (ap (λ (t : Told). t.number) (sym e)) in
      record { few = (passes_keeps m p.0).small.few-columns; fits = p.3 }

  -- a call refused early, and one that goes on to the walk
  pub blocks-refused : (r : Refusal) → refused r ≡ early_told m kept elims map → record { told = refused r; map = map } ≡ check_blocks m kept elims map
  unfolding check_blocks blocks_told map_left
  blocks-refused r e = rw (← e, pass_refused r _ (refused r), pass_refused r _ map)

  pub blocks-walked : (o : Mapped) → done ≡ early_told m kept elims map → o ≡ walk_blocks (column_count m) (claims (column_count m) kept elims) map → o ≡ check_blocks m kept elims map
  unfolding check_blocks blocks_told map_left walk_blocks on_pass
  blocks-walked o e q = q ∙ rw (← e)
