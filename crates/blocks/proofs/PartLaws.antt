-- What a passed check of blocks is worth, and that columns and blocks which keep the rules pass. Assumes nothing.
use Rattle.ground.proofs.ListLaws.{gather-at, gather_less}
use mathlib.Core.Path.{◌≡◌, refl, sym, ap, ◌∙◌, subst}
use mathlib.Core.Bool.{Bool, true, false, ◌||◌, cond}
use mathlib.Core.List.{List, [], ◌∷◌, ◌++◌}
use Prim.Native.Nat.{ℕ, zero, suc, ◌+◌, ◌%◌, ◌≤◌, ◌<◌}
use native.Mathlib.Decide.{dec_lt}
use native.Mathlib.Omega.{arith}
use lib.Dec.{eqb, leb, ltb}
use lib.ListN.{length, get_or, length-append}
use borrow.Author.Tests.{le-ltb, lt-leb, le-leb, eq-eqb, ne_eqb, ltb-false, leb-false, eqb-true, eqb-false, not-false}
use Rattle.ground.specs.First.{None}
use Rattle.ground.specs.Gather.{gather}
use Rattle.ground.proofs.FirstLaws.{past_none, none_past}
use Rattle.ground.proofs.GatherLaws.{gather_same}
use Rattle.columns.specs.Refusals.{Told, tell, done, Passes, on_pass, or_else}
use Rattle.columns.specs.Lengths.{length_of, need_of, no_room_of}
use Rattle.columns.specs.Columns.{Columns, column_count, Keeps}
use Rattle.columns.proofs.RefusalLaws.{passed, both_pass}
use Rattle.columns.proofs.CallLaws.{room-done}
use Rattle.columns.proofs.CheckLaws.{or_false, passes_keeps, keeps_passes}
use Rattle.blocks.specs.Sides.{block_count, first_of, block_columns, cols, offset_of, side_dof, HasAt, side_of}
use Rattle.blocks.specs.Claims.{
  too_many,
  is_odd,
  lists_told,
  empty_side,
  parts_told,
  early_told,
  block_claims,
  side_claims,
  claims,
  place_of,
  claim_bad,
  bad_claim,
  walk_told,
  unclaimed,
  gap_told,
  blocks_told,
  Claimed,
  Parted,
  BlocksKeep,
}
use Rattle.blocks.proofs.PlaceLaws.{place_at, place-low}
use Rattle.blocks.proofs.SideLaws.{cols-length, cols-at, local-low, cols_from, local-once, offset-once, base_of, join_at, join_low, join_from, join_once}
use Rattle.blocks.proofs.WalkLaws.{claims-count}
use Rattle.blocks.proofs.CallRules.{early_passes}

-- ---- the lists and the sides

pub sides_few : (kept elims : List ℕ) → Passes (lists_told kept elims) → (e : Bool) → (block_count (side_of e kept elims) ≤ 65_536) × (length (side_of e kept elims) % 2 ≡ 0)
unfolding lists_told too_many is_odd
sides_few kept elims p =
    let a = passed (too_many kept || too_many elims) 0 [] _ p in
    let b = passed (is_odd kept || is_odd elims) 1 [] done a.1 in
    let s = or_false (too_many kept) (too_many elims) a.0 in
    let t = or_false (is_odd kept) (is_odd elims) b.0 in
    λ e. elim e as (λ (e : Bool). (block_count (side_of e kept elims) ≤ 65_536) × (length (side_of e kept elims) % 2 ≡ 0)) [
      | true ↦ (ltb-false _ _ s.1, eqb-true _ _ (not-false _ t.1))
      | false ↦ (ltb-false _ _ s.0, eqb-true _ _ (not-false _ t.0))
    ]

few_sides : (kept elims : List ℕ) → ((e : Bool) → (block_count (side_of e kept elims) ≤ 65_536) × (length (side_of e kept elims) % 2 ≡ 0)) → lists_told kept elims ≡ done
unfolding lists_told too_many is_odd
few_sides kept elims r =
    simp (le-ltb _ _ (r false).0, le-ltb _ _ (r true).0, eq-eqb _ _ (r false).1, eq-eqb _ _ (r true).1)

sides_some : (kept elims : List ℕ) → Passes (empty_side kept elims) → (e : Bool) → 0 < block_count (side_of e kept elims)
unfolding empty_side
sides_some kept elims p =
    let a = passed (eqb (block_count kept) 0) 3 (0 ∷ []) _ p in
    let b = passed (eqb (block_count elims) 0) 3 (1 ∷ []) done a.1 in
    let f = eqb-false (block_count kept) 0 a.0 in
    let g = eqb-false (block_count elims) 0 b.0 in
    λ e. elim e as (λ (e : Bool). 0 < block_count (side_of e kept elims)) [ true ↦ omega arith | false ↦ omega arith ]

some_sides : (kept elims : List ℕ) → ((e : Bool) → 0 < block_count (side_of e kept elims)) → empty_side kept elims ≡ done
unfolding empty_side
some_sides kept elims r =
    let a = r false in
    let b = r true in
    simp (ne_eqb (block_count kept) 0 (λ z. omega arith), ne_eqb (block_count elims) 0 (λ z. omega arith))

-- ---- the claims

-- a walk that passes met no bad claim
walk_none : (n : ℕ) (cs : List ℕ) → Passes (walk_told n cs) → None (claim_bad n cs) 0 (length cs)
unfolding walk_told
walk_none n cs p = past_none (claim_bad n cs) 0 (length cs) (go (ltb (bad_claim n cs) (length cs)) (leb n (get_or cs (bad_claim n cs) 0)) p)
  where
    go : (a b : Bool) → Passes (cond a (tell (cond b 7 8) (get_or cs (bad_claim n cs) 0 ∷ [])) done) → a ≡ false
    go true true e = absurd (omega arith)
    go true false e = absurd (omega arith)
    go false b e = refl

none_walk : (n : ℕ) (cs : List ℕ) → None (claim_bad n cs) 0 (length cs) → walk_told n cs ≡ done
unfolding walk_told
none_walk n cs none = rw (none_past (claim_bad n cs) 0 (length cs) none)

module _ (n : ℕ) (cs : List ℕ) (none : None (claim_bad n cs) 0 (length cs)) where
  claim_in : (k : ℕ) → k < length cs → get_or cs k 0 < n
  unfolding claim_bad
  claim_in k h = leb-false _ _ (or_false _ _ (none k (omega arith) h)).0

  claim_late : (k : ℕ) → k < length cs → k ≤ place_of cs (get_or cs k 0)
  unfolding claim_bad
  claim_late k h = ltb-false _ _ (or_false (leb n (get_or cs k 0)) _ (none k (omega arith) h)).1

  -- a column stands at one place
  claim_place : (k c : ℕ) → k < length cs → get_or cs k 0 ≡ c → place_of cs c ≡ k
  claim_place k c h e =
      let a = place-low cs c k e in
      let b : k ≤ place_of cs c = rw e at (claim_late k h) in
      omega arith

-- blocks that start below the columns claim their columns
module _ (n : ℕ) (side : List ℕ) where
  block-claims : (b : ℕ) → first_of side b < n → block_claims n side b ≡ block_columns side b
  unfolding block_claims
  block-claims b h = rw (lt-leb n (first_of side b) h)

  side-claims : ((b : ℕ) → b < block_count side → first_of side b < n) → side_claims n side ≡ cols side
  side-claims starts = gather_same (block_claims n side) (block_columns side) 0 (block_count side) (λ b _ h. block-claims b (starts b h))

  -- one that does not is refused
  block-starts : ((k : ℕ) → k < length (side_claims n side) → get_or (side_claims n side) k 0 < n) → (b : ℕ) → b < block_count side → first_of side b < n
  unfolding block_claims
  block-starts good b h = go (dec_lt (first_of side b) n)
    where
      go : Dec (first_of side b < n) → first_of side b < n
      go (yes p) = p
      go (no p) =
          let e : block_claims n side b ≡ first_of side b ∷ [] = rw (le-leb n (first_of side b) (omega arith)) in
          let l : 0 < length (block_claims n side b) = (rw e (omega arith)) in
          let a = gather-at 0 (block_claims n side) b (block_count side) 0 h l ∙ ap (λ (xs : List ℕ). get_or xs 0 0) e in
          let g = gather_less 0 (block_claims n side) b (block_count side) h in
          let q = good (length (gather (block_claims n side) 0 b) + 0) (omega arith) in
          rw a at q

side_of_claims : (n : ℕ) (kept elims : List ℕ) (e : Bool) → side_of e (side_claims n kept) (side_claims n elims) ≡ side_claims n (side_of e kept elims)
side_of_claims n kept elims true = refl
side_of_claims n kept elims false = refl

side_of_cols : (kept elims : List ℕ) (e : Bool) → side_of e (cols kept) (cols elims) ≡ cols (side_of e kept elims)
side_of_cols kept elims true = refl
side_of_cols kept elims false = refl

-- ---- the columns of both sides, kept first

module _ (kept elims : List ℕ) where
  -- a column's place among them
  unfoldable pub place_in : Bool → ℕ → ℕ → ℕ
  place_in e b i = cond e (side_dof kept) 0 + (offset_of (side_of e kept elims) b + i)

  base_is : (e : Bool) → base_of e (cols kept) ≡ cond e (side_dof kept) 0
  base_is true = cols-length kept
  base_is false = refl

  low-is : (e : Bool) (b i c : ℕ) → HasAt (side_of e kept elims) b i c → offset_of (side_of e kept elims) b + i < length (side_of e (cols kept) (cols elims))
  low-is e b i c h = rw (side_of_cols kept elims e, cols-length (side_of e kept elims)) (local-low (side_of e kept elims) b i h.block h.offset)

  pub place-has : (e : Bool) (b i c : ℕ) → HasAt (side_of e kept elims) b i c → get_or (cols kept ++ cols elims) (place_in e b i) 0 ≡ c
  unfolding place_in
  place-has e b i c h =
      rw (← base_is e) (join_at (cols kept) (cols elims) e _ (low-is e b i c h))
      ∙ ap (λ (xs : List ℕ). get_or xs (offset_of (side_of e kept elims) b + i) 0) (side_of_cols kept elims e)
      ∙ cols-at (side_of e kept elims) b i h.block h.offset
      ∙ sym h.is

  pub place-below : (e : Bool) (b i c : ℕ) → HasAt (side_of e kept elims) b i c → place_in e b i < length (cols kept ++ cols elims)
  unfolding place_in
  place-below e b i c h = rw (← base_is e) (join_low (cols kept) (cols elims) e _ (low-is e b i c h))

  -- the block and the offset of a place
  pub record PlaceOf (k : ℕ) : Type 0 where
    pub eliminated : Bool
    pub block : ℕ
    pub offset : ℕ
    pub has : HasAt (side_of eliminated kept elims) block offset (get_or (cols kept ++ cols elims) k 0)
    pub is : k ≡ place_in eliminated block offset

  pub place_from : (k : ℕ) → k < length (cols kept ++ cols elims) → PlaceOf k
  unfolding place_in
  place_from k h =
      let j = join_from (cols kept) (cols elims) k h in
      let p = side_of_cols kept elims j.second in
      let s = side_of j.second kept elims in
      let l = cols_from s j.place (rw (← cols-length s, ← p) j.below) in
      let g : get_or (cols kept ++ cols elims) k 0 ≡ get_or (cols s) j.place 0 =
      ap (λ (i : ℕ). get_or (cols kept ++ cols elims) i 0) j.is ∙ join_at (cols kept) (cols elims) j.second j.place j.below ∙ ap (λ (xs : List ℕ). get_or xs j.place 0) p in
      record {
        eliminated = j.second;
        block = l.block;
        offset = l.offset;
        has = rw g l.has;
        is = j.is ∙ (rw (base_is j.second, ← l.is));
      }

  -- two columns of blocks at one place are the same
  place-once : (e f : Bool) (a b i j c d : ℕ) → HasAt (side_of e kept elims) a i c → HasAt (side_of f kept elims) b j d → place_in e a i ≡ place_in f b j → (e ≡ f) × (a ≡ b)
  unfolding place_in
  place-once e f a b i j c d h g q =
      let r = join_once (cols kept) (cols elims) e f _ _ (low-is e a i c h) (low-is f b j d g) (rw (base_is e, base_is f) q) in
      same e f a b i j c d h g r.0 r.1
    where
      same : (e f : Bool) (a b i j c d : ℕ) → HasAt (side_of e kept elims) a i c → HasAt (side_of f kept elims) b j d → e ≡ f
          → offset_of (side_of e kept elims) a + i ≡ offset_of (side_of f kept elims) b + j → (e ≡ f) × (a ≡ b)
      same true true a b i j c d h g r q = (refl, (local-once elims a b i j h.offset g.offset q).0)
      same false false a b i j c d h g r q = (refl, (local-once kept a b i j h.offset g.offset q).0)
      same true false a b i j c d h g r q = let z : ◌≡◌ {A = ℕ} 0 1 = ap (λ (x : Bool). cond x 0 1) r in absurd (omega arith)
      same false true a b i j c d h g r q = let z : ◌≡◌ {A = ℕ} 1 0 = ap (λ (x : Bool). cond x 0 1) r in absurd (omega arith)

  place_same : (e f : Bool) (a b i j c : ℕ) → HasAt (side_of e kept elims) a i c → HasAt (side_of f kept elims) b j c → e ≡ f → a ≡ b → place_in e a i ≡ place_in f b j
  unfolding place_in
  place_same true true a b i j c h g p q = rw (q, offset-once elims a b i j c h g q)
  place_same false false a b i j c h g p q = rw (q, offset-once kept a b i j c h g q)
  place_same true false a b i j c h g p q = let z : ◌≡◌ {A = ℕ} 0 1 = ap (λ (x : Bool). cond x 0 1) p in absurd (omega arith)
  place_same false true a b i j c h g p q = let z : ◌≡◌ {A = ℕ} 1 0 = ap (λ (x : Bool). cond x 0 1) p in absurd (omega arith)

-- ---- 7 to 9, both ways

module _ (n : ℕ) (kept elims : List ℕ) where
  abbrev cs : List ℕ
  cs = claims n kept elims

  pub claims-cols : ((e : Bool) (b : ℕ) → b < block_count (side_of e kept elims) → first_of (side_of e kept elims) b < n) → claims n kept elims ≡ cols kept ++ cols elims
  claims-cols starts = rw (side-claims n kept (starts false), side-claims n elims (starts true))

  module _ (walk : Passes (walk_told n cs)) (gap : Passes (gap_told n cs)) where
    starts_of_lem : (e : Bool) (b : ℕ) → b < block_count (side_of e kept elims) → first_of (side_of e kept elims) b < n
    starts_of_lem e =
        block-starts n (side_of e kept elims) (λ k h.
        let l : k < length (side_of e (side_claims n kept) (side_claims n elims)) = rw (side_of_claims n kept elims e) h in
        let a = claim_in n cs (walk_none n cs walk) _ (join_low (side_claims n kept) (side_claims n elims) e k l) in
        rw (join_at (side_claims n kept) (side_claims n elims) e k l, side_of_claims n kept elims e) at a)

    are_cols : cs ≡ cols kept ++ cols elims
    are_cols = claims-cols starts_of_lem

    none_bad : None (claim_bad n (cols kept ++ cols elims)) 0 (length (cols kept ++ cols elims))
    none_bad = subst (λ (xs : List ℕ). None (claim_bad n xs) 0 (length xs)) are_cols (walk_none n cs walk)

    inside_of : (e : Bool) (b i c : ℕ) → HasAt (side_of e kept elims) b i c → c < n
    inside_of e b i c h = rw (place-has kept elims e b i c h) at (claim_in n (cols kept ++ cols elims) none_bad (place_in kept elims e b i) (place-below kept elims e b i c h))

    once_of : (e f : Bool) (a b i j c : ℕ) → HasAt (side_of e kept elims) a i c → HasAt (side_of f kept elims) b j c → (e ≡ f) × (a ≡ b)
    once_of e f a b i j c h g =
        let p = claim_place n (cols kept ++ cols elims) none_bad (place_in kept elims e a i) c (place-below kept elims e a i c h) (place-has kept elims e a i c h) in
        let q = claim_place n (cols kept ++ cols elims) none_bad (place_in kept elims f b j) c (place-below kept elims f b j c g) (place-has kept elims f b j c g) in
        place-once kept elims e f a b i j c c h g (sym p ∙ q)

    claimed_of : (c : ℕ) → c < n → Claimed kept elims c
    unfolding gap_told
    claimed_of c h =
        let e = (passed (ltb (unclaimed n cs) n) 8 _ done gap).0 in
        let l : place_of cs c < length cs = leb-false _ _ (past_none _ 0 n e c (omega arith) h) in
        let k : place_of (cols kept ++ cols elims) c < length (cols kept ++ cols elims) = subst (λ (xs : List ℕ). place_of xs c < length xs) are_cols l in
        let r = place_from kept elims (place_of (cols kept ++ cols elims) c) k in
        record { eliminated = r.eliminated; block = r.block; offset = r.offset; there = rw (place_at (cols kept ++ cols elims) c k) at r.has }

  module _ (p : Parted n kept elims) where
    pub parted-cols : claims n kept elims ≡ cols kept ++ cols elims
    parted-cols = claims-cols (λ e. (p.right e).starts)

    pub parted_none : None (claim_bad n (cols kept ++ cols elims)) 0 (length (cols kept ++ cols elims))
    unfolding claim_bad
    parted_none k _ h =
        let r = place_from kept elims k h in
        let c = get_or (cols kept ++ cols elims) k 0 in
        let l : c < n = (p.right r.eliminated).inside _ _ c r.has in
        rw (lt-leb n c l) (go (dec_lt (place_of (cols kept ++ cols elims) c) k))
      where
        go : Dec (place_of (cols kept ++ cols elims) (get_or (cols kept ++ cols elims) k 0) < k) → ltb (place_of (cols kept ++ cols elims) (get_or (cols kept ++ cols elims) k 0)) k ≡ false
        go (no q) = le-ltb (place_of (cols kept ++ cols elims) (get_or (cols kept ++ cols elims) k 0)) k (omega arith)
        go (yes q) =
            let c = get_or (cols kept ++ cols elims) k 0 in
            let j = place_of (cols kept ++ cols elims) c in
            let r = place_from kept elims k h in
            let s = place_from kept elims j (omega arith) in
            let t = rw (place_at (cols kept ++ cols elims) c (omega arith)) at s.has in
            let u = p.once r.eliminated s.eliminated r.block s.block r.offset s.offset c r.has t in
            let v = place_same kept elims r.eliminated s.eliminated r.block s.block r.offset s.offset c r.has t u.0 u.1 in
            let y = r.is in
            let z = s.is in
            absurd (omega arith)

    pub parted-place : (e : Bool) (b i c : ℕ) → HasAt (side_of e kept elims) b i c → place_of (claims n kept elims) c ≡ place_in kept elims e b i
    parted-place e b i c h =
        rw parted-cols (claim_place n (cols kept ++ cols elims) parted_none (place_in kept elims e b i) c (place-below kept elims e b i c h) (place-has kept elims e b i c h))

    parted_walk : walk_told n (claims n kept elims) ≡ done
    parted_walk = rw parted-cols (none_walk n (cols kept ++ cols elims) parted_none)

    -- each column is claimed
    pub parted-claimed : (c : ℕ) → c < n → place_of (claims n kept elims) c < length (claims n kept elims)
    parted-claimed c h =
        let r = p.claimed c h in
        rw (parted-place r.eliminated r.block r.offset c r.there, parted-cols) (place-below kept elims r.eliminated r.block r.offset c r.there)

    parted_gap : gap_told n (claims n kept elims) ≡ done
    unfolding gap_told
    parted_gap = rw (none_past (λ c. leb (length (claims n kept elims)) (place_of (claims n kept elims) c)) 0 n (λ c _ h. lt-leb _ _ (parted-claimed c h)))

    -- the two dofs make up the columns
    pub parted-dofs : n ≤ 65_536 → side_dof kept + side_dof elims ≡ n
    parted-dofs few =
        let e = claims-count n (claims n kept elims) few (ap (λ (t : Told). t.number) parted_walk) (ap (λ (t : Told). t.number) parted_gap) in
        let l = length-append (cols kept) (cols elims) in
        let a = cols-length kept in
        let b = cols-length elims in
        let q = ap length parted-cols in
        omega arith

-- ---- the whole check, both ways

module _ (m : Columns) (kept elims : List ℕ) where
  -- what passes of the lists' checks and of 7 to 9 are worth
  pub walk_parted : Passes (lists_told kept elims) → Passes (empty_side kept elims) → Passes (or_else (walk_told (column_count m) (claims (column_count m) kept elims)) (gap_told (column_count m) (claims (column_count m) kept elims)))
      → Parted (column_count m) kept elims
  walk_parted lists empty late =
      let n = column_count m in
      let w = both_pass (walk_told n (claims n kept elims)) (gap_told n (claims n kept elims)) late in
      record {
        right = λ e. record {
          few = (sides_few kept elims lists e).0;
          whole = (sides_few kept elims lists e).1;
          some = sides_some kept elims empty e;
          starts = starts_of_lem n kept elims w.0 w.1 e;
          inside = inside_of n kept elims w.0 w.1 e;
        };
        claimed = claimed_of n kept elims w.0 w.1;
        once = once_of n kept elims w.0 w.1;
      }

  -- columns and blocks that keep the rules pass 1 to 4, and what else is looked at tells
  pub parted_parts : Keeps m → Parted (column_count m) kept elims → (rest : Told) → parts_told m kept elims rest ≡ rest
  unfolding on_pass
  parted_parts k p rest =
      rw (keeps_passes m k, few_sides kept elims (λ e. ((p.right e).few, (p.right e).whole)), some_sides kept elims (λ e. (p.right e).some))

  -- and they pass 7 to 9
  pub parted_late : Parted (column_count m) kept elims → or_else (walk_told (column_count m) (claims (column_count m) kept elims)) (gap_told (column_count m) (claims (column_count m) kept elims)) ≡ done
  unfolding on_pass
  parted_late p = rw (parted_walk (column_count m) kept elims p, parted_gap (column_count m) kept elims p)

module _ (m : Columns) (kept elims map : List ℕ) where
  -- what a pass is worth
  pub passes_parted : Passes (blocks_told m kept elims map) → BlocksKeep m kept elims map
  unfolding blocks_told
  passes_parted p =
      let a = both_pass (early_told m kept elims map) _ p in
      let r = early_passes m kept elims map a.0 in
      record { keeps = passes_keeps m r.0; parted = walk_parted m kept elims r.1 r.2 a.1; room = r.3 }

  room-told : column_count m ≤ length map → no_room_of (length map ∷ column_count m ∷ []) ≡ done
  room-told h = room-done (length map ∷ column_count m ∷ []) fine
    where
      fine : (k : ℕ) → k < 1 → need_of (length map ∷ column_count m ∷ []) k ≤ length_of (length map ∷ column_count m ∷ []) k
      fine zero l = h
      fine (suc k) l = absurd (omega arith)

  -- columns and blocks that keep the rules pass
  pub parted_passes : BlocksKeep m kept elims map → blocks_told m kept elims map ≡ done
  unfolding blocks_told early_told on_pass
  parted_passes g = rw (parted_parts m kept elims g.keeps g.parted (no_room_of (length map ∷ column_count m ∷ [])), room-told g.room) (parted_late m kept elims g.parted)
