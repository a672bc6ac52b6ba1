-- An update's entries go back to their own columns: column i of block b holds the entry of its side's vector at the dofs of the earlier blocks
-- plus i, whichever side it is on, and so does every column. The lookups say the same. Assumes nothing.
use mathlib.Core.Path.{◌≡◌, sym, ap, ◌∙◌}
use mathlib.Core.Bool.{Bool, true, false, cond}
use mathlib.Core.List.{List, []}
use Prim.Native.Nat.{ℕ, ◌+◌, ◌-◌, ◌<◌}
use native.Mathlib.Omega.{arith}
use lib.Dec.{ltb}
use lib.ListN.{length, get_or}
use lib.Ieee.{Float, nan}
use borrow.Author.Tests.{lt-ltb, le-ltb}
use Rattle.ground.specs.Gather.{list_of}
use Rattle.ground.proofs.GatherLaws.{length-list_of, get_or-list_of}
use Rattle.columns.specs.Refusals.{Passes}
use Rattle.columns.specs.Lengths.{wrong_length}
use Rattle.columns.specs.Columns.{Columns, column_count}
use Rattle.columns.proofs.RefusalLaws.{pass_done, both_pass}
use Rattle.std.specs.Prelude.{Some, None}
use Rattle.blocks.specs.Sides.{cols, offset_of, side_dof, HasAt, side_of}
use Rattle.blocks.specs.Claims.{claims, place_of, blocks_told, Parted, BlocksKeep}
use Rattle.blocks.specs.Lookups.{local_in, within_in}
use Rattle.blocks.proofs.SideLaws.{local-low, cols_from}
use Rattle.blocks.proofs.PartLaws.{place_in, parted-place, passes_parted}
use Rattle.blocks.proofs.MapLaws.{map_on, map-place}
use Rattle.blocks.proofs.LookupLaws.{local_of, within-local}
use Rattle.blocks.proofs.LookupMap.{kept_map, elims-map}
use Rattle.products.specs.Couplings.{lent_told, update_at, update_lengths, combine_updates}

-- a side's vector
abbrev pub vector_of : Bool → List Float → List Float → List Float
vector_of e xk xe = cond e xe xk

-- column c's entry is one of its own side's vector, at the place that its block and its offset there give
pub record OwnEntry (n : ℕ) (kept elims : List ℕ) (xk xe : List Float) (c : ℕ) : Type 0 where
  pub eliminated : Bool
  pub block : ℕ
  pub offset : ℕ
  pub there : HasAt (side_of eliminated kept elims) block offset c
  pub is : update_at n kept elims xk xe c ≡ get_or (vector_of eliminated xk xe) (offset_of (side_of eliminated kept elims) block + offset) nan

module _ (n : ℕ) (kept elims : List ℕ) (p : Parted n kept elims) (xk xe : List Float) where
  pub update_own : (e : Bool) (b i c : ℕ) → HasAt (side_of e kept elims) b i c → update_at n kept elims xk xe c ≡ get_or (vector_of e xk xe) (offset_of (side_of e kept elims) b + i) nan
  unfolding update_at place_in
  update_own true b i c h =
      let q : place_of (claims n kept elims) c ≡ side_dof kept + (offset_of elims b + i) = parted-place n kept elims p true b i c h in
      let s : side_dof kept + (offset_of elims b + i) - side_dof kept ≡ offset_of elims b + i = omega arith in
      rw (q, le-ltb (side_dof kept + (offset_of elims b + i)) (side_dof kept) (omega arith), s)
  update_own false b i c h =
      let z : 0 + (offset_of kept b + i) ≡ offset_of kept b + i = omega arith in
      let q : place_of (claims n kept elims) c ≡ offset_of kept b + i = parted-place n kept elims p false b i c h ∙ z in
      rw (q, lt-ltb (offset_of kept b + i) (side_dof kept) (local-low kept b i h.block h.offset))

  -- every column is so written
  pub update_all : (c : ℕ) → c < n → OwnEntry n kept elims xk xe c
  update_all c h =
      let r = p.claimed c h in
      record { eliminated = r.eliminated; block = r.block; offset = r.offset; there = r.there; is = update_own r.eliminated r.block r.offset c r.there }

  -- by local numbers: entry l goes to the column with local number l
  pub update_local : (e : Bool) (l : ℕ) → l < side_dof (side_of e kept elims) → update_at n kept elims xk xe (get_or (cols (side_of e kept elims)) l 0) ≡ get_or (vector_of e xk xe) l nan
  update_local e l h =
      let r = cols_from (side_of e kept elims) l h in
      update_own e r.block r.offset _ r.has ∙ ap (λ (k : ℕ). get_or (vector_of e xk xe) k nan) (sym r.is)

  -- by lookups: where a lookup finds the column's local number among the kept, or among the eliminated, it is the entry's place
  module _ (c l : ℕ) (h : c < n) where
    place_is : get_or (map_on n kept elims []) c 0 ≡ place_of (claims n kept elims) c
    place_is = map-place n kept elims [] p c h

    pub update_kept_lookup : local_in kept c ≡ Some l → update_at n kept elims xk xe c ≡ get_or xk l nan
    unfolding update_at
    update_kept_lookup e = go (ltb (place_of (claims n kept elims) c) (side_dof kept)) (sym e ∙ kept_map n kept elims [] p c h ∙ rw place_is)
      where
        go : (b : Bool) → Some l ≡ cond b (Some (place_of (claims n kept elims) c)) None
            → cond b (get_or xk (place_of (claims n kept elims) c) nan) (get_or xe (place_of (claims n kept elims) c - side_dof kept) nan) ≡ get_or xk l nan
        go true q = let s : place_of (claims n kept elims) c ≡ l = cc q in rw s
        go false q = let z : ◌≡◌ {A = ℕ} 0 1 = cc q in absurd (omega arith)

    pub update_elims_lookup : local_in elims c ≡ Some l → update_at n kept elims xk xe c ≡ get_or xe l nan
    unfolding update_at
    update_elims_lookup e = go (ltb (place_of (claims n kept elims) c) (side_dof kept)) (sym e ∙ elims-map n kept elims [] p c h ∙ rw place_is)
      where
        go : (b : Bool) → Some l ≡ cond b None (Some (place_of (claims n kept elims) c - side_dof kept))
            → cond b (get_or xk (place_of (claims n kept elims) c) nan) (get_or xe (place_of (claims n kept elims) c - side_dof kept) nan) ≡ get_or xe l nan
        go true q = let z : ◌≡◌ {A = ℕ} 0 1 = cc q in absurd (omega arith)
        go false q = let s : place_of (claims n kept elims) c - side_dof kept ≡ l = cc q in rw s

  -- and where it finds the eliminated block and the offset there
  pub update_within : (c b i : ℕ) → c < n → within_in elims c ≡ Some (b, i) → update_at n kept elims xk xe c ≡ get_or xe (offset_of elims b + i) nan
  unfolding local_of
  update_within c b i h e = update_elims_lookup c (offset_of elims b + i) h (within-local elims c ∙ ap (local_of elims) e)

-- ---- a call that passed

module _ (m : Columns) (kept elims map : List ℕ) (xk xe out : List Float) (pass : Passes (combine_updates m kept elims map xk xe out).told) where
  pub combine_keeps : BlocksKeep m kept elims map
  unfolding combine_updates lent_told
  combine_keeps = passes_parted m kept elims map (both_pass (blocks_told m kept elims map) (wrong_length (update_lengths m kept elims xk xe out)) pass).0

  -- there are as many entries as columns
  pub combine_length : length (combine_updates m kept elims map xk xe out).out ≡ column_count m
  unfolding combine_updates
  combine_length =
      ap length (pass_done (lent_told m kept elims map (update_lengths m kept elims xk xe out)) (list_of (update_at (column_count m) kept elims xk xe) (column_count m)) out pass)
      ∙ length-list_of (update_at (column_count m) kept elims xk xe) nan (column_count m)

  combine_at : (c : ℕ) → c < column_count m → get_or (combine_updates m kept elims map xk xe out).out c nan ≡ update_at (column_count m) kept elims xk xe c
  unfolding combine_updates
  combine_at c h =
      ap (λ (y : List Float). get_or y c nan) (pass_done (lent_told m kept elims map (update_lengths m kept elims xk xe out)) (list_of (update_at (column_count m) kept elims xk xe) (column_count m)) out pass)
      ∙ get_or-list_of (update_at (column_count m) kept elims xk xe) nan (column_count m) c h

  -- column i of block b holds its own side's entry, which is at the dofs of the earlier blocks plus i
  pub combine_own : (e : Bool) (b i c : ℕ) → HasAt (side_of e kept elims) b i c
      → get_or (combine_updates m kept elims map xk xe out).out c nan ≡ get_or (vector_of e xk xe) (offset_of (side_of e kept elims) b + i) nan
  combine_own e b i c h =
      let p = combine_keeps.parted in
      combine_at c ((p.right e).inside b i c h) ∙ update_own (column_count m) kept elims p xk xe e b i c h
