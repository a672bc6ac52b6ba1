-- What the column map holds after a call: nothing new after 1 to 6, marks after a later refusal, and on success at each column its place among the
-- kept columns and then the eliminated ones. Assumes nothing.
use Rattle.ground.proofs.ListLaws.{get_or-front}
use mathlib.Core.Path.{◌≡◌, refl, sym, ap, ◌∙◌}
use mathlib.Core.Bool.{Bool, true, false, cond}
use mathlib.Core.List.{List, [], ◌++◌}
use Prim.Native.Nat.{ℕ, ◌+◌, ◌-◌, ◌≤◌, ◌<◌}
use native.Mathlib.Omega.{arith}
use lib.Dec.{eqb}
use lib.ListN.{length, get_or, drop, replicate, length-append, length-replicate, length-drop, get_or-append}
use lib.Seq.{drop_at, get_or-append-add}
use borrow.Author.Tests.{eq-eqb, ne_eqb, eqb-true, eqb-false}
use Rattle.ground.specs.Gather.{list_of}
use Rattle.ground.proofs.GatherLaws.{length-list_of}
use Rattle.columns.specs.Refusals.{Told, Passes, on_pass}
use Rattle.columns.specs.Columns.{Columns, column_count}
use Rattle.columns.proofs.RefusalLaws.{both_pass}
use Rattle.blocks.specs.Sides.{cols, offset_of, side_dof, HasAt, side_of}
use Rattle.blocks.specs.Claims.{mark, marked, claims, place_of, early_told, blocks_told, map_left, Mapped, check_blocks, Parted, BlocksKeep}
use Rattle.blocks.proofs.PlaceLaws.{place_at}
use Rattle.blocks.proofs.SideLaws.{cols-length, cols_from}
use Rattle.blocks.proofs.WalkRules.{marked_all}
use Rattle.blocks.proofs.CallRules.{early_passes}
use Rattle.blocks.proofs.PartLaws.{place_in, parted-cols, parted-place, parted-claimed, parted-dofs, passes_parted}

-- ---- what a call that tells t leaves

module _ (m : Columns) (kept elims map : List ℕ) where
  abbrev n : ℕ
  n = column_count m

  -- after 1 to 6
  pub left_early : (t : Told) → (Passes (early_told m kept elims map) → ⊥) → map_left t m kept elims map ≡ map
  unfolding map_left on_pass
  left_early t ne = rw (ne_eqb (early_told m kept elims map).number 0 ne)

  module _ (early : Passes (early_told m kept elims map)) where
    -- after a later refusal, of this call or of one that goes on from it
    pub left_late : (t : Told) → (Passes t → ⊥) → map_left t m kept elims map ≡ replicate n mark ++ drop n map
    unfolding map_left on_pass
    left_late t ne = rw (eq-eqb _ _ early, ne_eqb t.number 0 ne)

    -- on success
    pub left-done : (t : Told) → Passes t → map_left t m kept elims map ≡ list_of (place_of (claims n kept elims)) n ++ drop n map
    unfolding map_left on_pass
    left-done t e = rw (eq-eqb _ _ early, eq-eqb _ _ e)

    -- places past the columns hold what they held
    pub left-past : (t : Told) → drop n (map_left t m kept elims map) ≡ drop n map
    left-past t = go (eqb t.number 0) refl
      where
        go : (b : Bool) → eqb t.number 0 ≡ b → drop n (map_left t m kept elims map) ≡ drop n map
        go true e = rw (left-done t (eqb-true _ _ e)) (drop_at (list_of (place_of (claims n kept elims)) n) (drop n map) n (length-list_of (place_of (claims n kept elims)) 0 n))
        go false e = rw (left_late t (eqb-false _ _ e)) (drop_at (replicate n mark) (drop n map) n (length-replicate n mark))

  -- the map stays as long as it was
  pub left-length : (t : Told) → length (map_left t m kept elims map) ≡ length map
  left-length t = go (eqb (early_told m kept elims map).number 0) refl (eqb t.number 0) refl
    where
      go : (a : Bool) → eqb (early_told m kept elims map).number 0 ≡ a → (b : Bool) → eqb t.number 0 ≡ b → length (map_left t m kept elims map) ≡ length map
      go false e b f = ap length (left_early t (eqb-false _ _ e))
      go true e true f =
          let r = (early_passes m kept elims map (eqb-true _ _ e)).3 in
          let l = length-append (list_of (place_of (claims n kept elims)) n) (drop n map) in
          let k = length-list_of (place_of (claims n kept elims)) 0 n in
          let d = length-drop n map in
          ap length (left-done (eqb-true _ _ e) t (eqb-true _ _ f)) ∙ omega arith
      go true e false f =
          let r = (early_passes m kept elims map (eqb-true _ _ e)).3 in
          let l = length-append (replicate n mark) (drop n map) in
          let k = length-replicate n mark in
          let d = length-drop n map in
          ap length (left_late (eqb-true _ _ e) t (eqb-false _ _ f)) ∙ omega arith

  -- what is left hangs on whether the call passed, and on nothing else that it tells
  pub left_passed : (t u : Told) → Passes t → Passes u → map_left t m kept elims map ≡ map_left u m kept elims map
  unfolding map_left on_pass
  left_passed t u p q = rw (p, q)

  pub left-refused : (t u : Told) → (Passes t → ⊥) → (Passes u → ⊥) → map_left t m kept elims map ≡ map_left u m kept elims map
  unfolding map_left on_pass
  left-refused t u p q = rw (ne_eqb t.number 0 p, ne_eqb u.number 0 q)

  -- a call that goes on from this one and is refused marks the map again
  pub left-marked : (t u : Told) → Passes (early_told m kept elims map) → (Passes t → ⊥) → marked n (map_left u m kept elims map) ≡ map_left t m kept elims map
  left-marked t u early ne =
      let h : n ≤ length (map_left u m kept elims map) = rw (left-length u) (early_passes m kept elims map early).3 in
      marked_all n (map_left u m kept elims map) h ∙ ap (λ (r : List ℕ). replicate n mark ++ r) (left-past early u) ∙ sym (left_late early t ne)

-- ---- the map of a call that passed

-- the columns' places, and what stood past them
abbrev pub map_on : ℕ → List ℕ → List ℕ → List ℕ → List ℕ
map_on n kept elims rest = list_of (place_of (claims n kept elims)) n ++ rest

module _ (n : ℕ) (kept elims rest : List ℕ) (p : Parted n kept elims) where
  pub map-place : (c : ℕ) → c < n → get_or (map_on n kept elims rest) c 0 ≡ place_of (claims n kept elims) c
  map-place c h = get_or-front 0 (place_of (claims n kept elims)) n rest c h

  -- at a column of a block: the kept dof where the block is eliminated, the dofs of earlier blocks of its side, and the offset
  pub map-has : (e : Bool) (b i c : ℕ) → HasAt (side_of e kept elims) b i c → get_or (map_on n kept elims rest) c 0 ≡ cond e (side_dof kept) 0 + (offset_of (side_of e kept elims) b + i)
  unfolding place_in
  map-has e b i c h = map-place c ((p.right e).inside b i c h) ∙ parted-place n kept elims p e b i c h

  -- at the column with local number l
  pub map-local : (e : Bool) (l : ℕ) → l < side_dof (side_of e kept elims) → get_or (map_on n kept elims rest) (get_or (cols (side_of e kept elims)) l 0) 0 ≡ cond e (side_dof kept) 0 + l
  map-local e l h =
      let r = cols_from (side_of e kept elims) l h in
      map-has e r.block r.offset _ r.has ∙ ap (λ (k : ℕ). cond e (side_dof kept) 0 + k) (sym r.is)

  pub map-kept : (l : ℕ) → l < side_dof kept → get_or (map_on n kept elims rest) (get_or (cols kept) l 0) 0 ≡ l
  map-kept l h = map-local false l h ∙ omega arith

  pub map-elims : (l : ℕ) → l < side_dof elims → get_or (map_on n kept elims rest) (get_or (cols elims) l 0) 0 ≡ side_dof kept + l
  map-elims l h = map-local true l h

  -- and back: at column c the map has a place where the columns of both sides, kept first, have c
  pub map_back : (c : ℕ) → c < n → get_or (cols kept ++ cols elims) (get_or (map_on n kept elims rest) c 0) 0 ≡ c
  map_back c h =
      let e = parted-cols n kept elims p in
      rw (map-place c h, ← e) (place_at (claims n kept elims) c (parted-claimed n kept elims p c h))

  pub map_below : (c : ℕ) → c < n → get_or (map_on n kept elims rest) c 0 < side_dof kept + side_dof elims
  map_below c h =
      let l = parted-claimed n kept elims p c h in
      let q = ap length (parted-cols n kept elims p) in
      let s = length-append (cols kept) (cols elims) in
      let a = cols-length kept in
      let b = cols-length elims in
      rw (map-place c h) (omega arith)

  -- so column c is kept with that local number, or eliminated with what is left of it
  pub map_back_kept : (c : ℕ) → c < n → get_or (map_on n kept elims rest) c 0 < side_dof kept → get_or (cols kept) (get_or (map_on n kept elims rest) c 0) 0 ≡ c
  map_back_kept c h l = sym (get_or-append (cols kept) (cols elims) 0 (get_or (map_on n kept elims rest) c 0) (rw (cols-length kept) l)) ∙ map_back c h

  pub map_back_elims : (c : ℕ) → c < n → side_dof kept ≤ get_or (map_on n kept elims rest) c 0 → get_or (cols elims) (get_or (map_on n kept elims rest) c 0 - side_dof kept) 0 ≡ c
  map_back_elims c h l =
      let v = get_or (map_on n kept elims rest) c 0 in
      let a = cols-length kept in
      let e : length (cols kept) + (v - side_dof kept) ≡ v = omega arith in
      sym (get_or-append-add (cols kept) (cols elims) (v - side_dof kept) 0) ∙ ap (λ (i : ℕ). get_or (cols kept ++ cols elims) i 0) e ∙ map_back c h

module _ (n : ℕ) (kept elims : List ℕ) (p : Parted n kept elims) where
  -- no column stands twice in a side's list, nor in both
  pub cols-once : (e : Bool) (k l : ℕ) → k < side_dof (side_of e kept elims) → l < side_dof (side_of e kept elims)
      → get_or (cols (side_of e kept elims)) k 0 ≡ get_or (cols (side_of e kept elims)) l 0 → k ≡ l
  cols-once e k l h g q =
      let z : cond e (side_dof kept) 0 + k ≡ cond e (side_dof kept) 0 + l = sym (map-local n kept elims [] p e k h) ∙ ap (λ (c : ℕ). get_or (map_on n kept elims []) c 0) q ∙ map-local n kept elims [] p e l g in
      omega arith

  pub cols_apart : (k l : ℕ) → k < side_dof kept → l < side_dof elims → get_or (cols kept) k 0 ≡ get_or (cols elims) l 0 → ⊥
  cols_apart k l h g q =
      let z : k ≡ side_dof kept + l = sym (map-kept n kept elims [] p k h) ∙ ap (λ (c : ℕ). get_or (map_on n kept elims []) c 0) q ∙ map-elims n kept elims [] p l g in
      omega arith

  -- a side's columns exist
  pub cols_in : (e : Bool) (l : ℕ) → l < side_dof (side_of e kept elims) → get_or (cols (side_of e kept elims)) l 0 < n
  cols_in e l h = let r = cols_from (side_of e kept elims) l h in (p.right e).inside _ _ _ r.has

-- ---- a check that passed

module _ (m : Columns) (kept elims map : List ℕ) (g : BlocksKeep m kept elims map) where
  -- the two dofs make up the columns
  pub keeps-dofs : side_dof kept + side_dof elims ≡ column_count m
  keeps-dofs = parted-dofs (column_count m) kept elims g.parted g.keeps.small.few-columns

  pub keeps_below : (c : ℕ) → c < column_count m → get_or (map_on (column_count m) kept elims (drop (column_count m) map)) c 0 < column_count m
  keeps_below c h = rw keeps-dofs at (map_below (column_count m) kept elims (drop (column_count m) map) g.parted c h)

-- ---- what a call of `check_blocks` gives the call that goes on from it

module _ (m : Columns) (kept elims map : List ℕ) where
  pub passes_early : Passes (blocks_told m kept elims map) → Passes (early_told m kept elims map)
  unfolding blocks_told
  passes_early p = (both_pass (early_told m kept elims map) _ p).0

  -- its answer told t and it left map'
  module _ (t : Told) (map' : List ℕ) (e : record { told = t; map = map' } ≡ check_blocks m kept elims map) where
    pub blocks-told : t ≡ blocks_told m kept elims map
    unfolding check_blocks
    blocks-told = ap (λ (w : Mapped). w.told) e

    pub blocks-map : map' ≡ map_left (blocks_told m kept elims map) m kept elims map
    unfolding check_blocks
    blocks-map = ap (λ (w : Mapped). w.map) e

    -- it passed
    pub blocks_keep : Passes t → BlocksKeep m kept elims map
    blocks_keep p = passes_parted m kept elims map (rw blocks-told at p)

    pub blocks_mapped : Passes t → map' ≡ map_on (column_count m) kept elims (drop (column_count m) map)
    blocks_mapped p =
        let q : Passes (blocks_told m kept elims map) = rw blocks-told at p in
        blocks-map ∙ left-done m kept elims map (passes_early q) (blocks_told m kept elims map) q
