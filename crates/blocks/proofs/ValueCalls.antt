-- What the calls of src/eliminated_blocks.rt show that are lent block values: what they tell, what a refusal leaves, and what a pass gives the
-- work behind it. Assumes nothing.
use mathlib.Core.Path.{◌≡◌, refl, sym, ap, ◌∙◌}
use mathlib.Core.Bool.{Bool, true}
use mathlib.Core.List.{List, [], ◌∷◌, ◌++◌}
use Prim.Native.Nat.{ℕ, zero, suc, ◌+◌, ◌-◌, ◌*◌, ◌≤◌, ◌<◌}
use native.Mathlib.Omega.{arith}
use native.Mathlib.Nat.{mul-le-mul}
use native.Mathlib.Decide.{dec_lt}
use lib.ListN.{length, drop, replicate, length-append}
use lib.Seq.{drop_at}
use lib.Ieee.{Float}
use Rattle.ground.specs.Gather.{list_of}
use Rattle.ground.proofs.GatherLaws.{length-list_of}
use Rattle.columns.specs.declared.refusal.Refusal.{Refusal}
use Rattle.columns.specs.Refusals.{Answer}
use Rattle.std.specs.Prelude.{Option, Some, None, Ok, Err, unwrap_or}
use Rattle.columns.specs.Refusals.{Told, done, refused, told, Passes, on_pass, or_else}
use Rattle.columns.specs.Lengths.{wrong_length}
use Rattle.columns.specs.Columns.{Columns, column_count}
use Rattle.columns.proofs.RefusalLaws.{pass_refused, pass_done, both_pass}
use Rattle.columns.proofs.CallLaws.{lengths_right}
use Rattle.blocks.specs.Sides.{block_count, first_of, dof_of, side_of}
use Rattle.blocks.specs.Claims.{mark, marked, place_of, claims, early_told, blocks_told, map_left, Mapped, check_blocks, BlocksKeep}
use Rattle.blocks.specs.Access.{square_of, squares_before, up_to}
use Rattle.blocks.specs.BlockValues.{value_count, values_told, check_values, values_left, Limited, BlocksFit}
use Rattle.blocks.proofs.AccessRules.{up-to_none, up-to-some}
use Rattle.blocks.proofs.WalkRules.{marked_all}
use Rattle.blocks.proofs.PartLaws.{passes_parted}

-- ---- how many values there are

module _ (elims : List ℕ) (lim : Limited elims) where
  squares_bound : (b : ℕ) → b ≤ block_count elims → squares_before elims b ≤ b * 4_294_967_296
  unfolding squares_before square_of
  squares_bound zero l = omega arith
  squares_bound (suc b) l =
      let d = lim.small b l in
      let q : dof_of elims b * dof_of elims b ≤ 65_536 * 65_536 = mul-le-mul d d in
      omega (arith, squares_bound b (omega arith))

  -- the sum is no more than that, so a default has no part in it
  pub count_of : (a : Option ℕ) (d : ℕ) → a ≡ up_to 281_474_976_710_656 (value_count elims) → unwrap_or a d ≡ value_count elims
  count_of (Some s) d e = (up-to-some 281_474_976_710_656 (value_count elims) s (Some s) e refl).0
  count_of None d e =
      absurd (omega (arith, up-to_none 281_474_976_710_656 (value_count elims) None e refl, squares_bound (block_count elims) (omega arith), lim.few))

-- ---- what a pass gives

module _ (m : Columns) (kept elims map : List ℕ) (g : BlocksKeep m kept elims map) where
  -- a side's blocks are among the columns
  pub block_inside : (e : Bool) (b : ℕ) → b < block_count (side_of e kept elims) → first_of (side_of e kept elims) b + dof_of (side_of e kept elims) b ≤ column_count m
  block_inside e b l = go (dec_lt 0 (dof_of (side_of e kept elims) b))
    where
      go : Dec (0 < dof_of (side_of e kept elims) b) → first_of (side_of e kept elims) b + dof_of (side_of e kept elims) b ≤ column_count m
      go (yes h) =
          let d = dof_of (side_of e kept elims) b in
          let f = first_of (side_of e kept elims) b in
          omega (arith, (g.parted.right e).inside b (d - 1) (f + (d - 1)) (record { block = l; offset = omega arith; is = refl }))
      go (no h) = omega (arith, (g.parted.right e).starts b l)

  pub limited_of : Limited elims
  limited_of = record { few = (g.parted.right true).few; small = λ b l. omega (arith, block_inside true b l, g.keeps.small.few-columns) }

  pub fits_of : (n : ℕ) → n ≡ value_count elims → BlocksFit m elims n
  fits_of n e = record { keeps = g.keeps; inside = block_inside true; room = e }

-- ---- the checks

-- a is what `check_blocks` answered, and left the map that it left
module _ (m : Columns) (kept elims map : List ℕ) (a : Answer) (left : List ℕ) (e : record { told = told a; map = left } ≡ check_blocks m kept elims map) where
  blocks-told : told a ≡ blocks_told m kept elims map
  unfolding check_blocks
  blocks-told = ap (λ (o : Mapped). o.told) e

  blocks-left : left ≡ map_left (blocks_told m kept elims map) m kept elims map
  unfolding check_blocks
  blocks-left = ap (λ (o : Mapped). o.map) e

  pub check_refused : (n : ℕ) (more : Told) (r : Refusal) → a ≡ Err r → record { told = refused r; map = left } ≡ check_values m kept elims map n more
  unfolding check_values values_told
  check_refused n more r p =
      let t : blocks_told m kept elims map ≡ refused r = sym blocks-told ∙ ap told p in
      let q : left ≡ map_left (refused r) m kept elims map = rw t at blocks-left in
      rw (t, pass_refused r (or_else (wrong_length (n ∷ value_count elims ∷ [])) more) (refused r), q)

  module _ (p : a ≡ Ok tt) where
    blocks-done : blocks_told m kept elims map ≡ done
    blocks-done = sym blocks-told ∙ ap told p

    pub blocks_keep : BlocksKeep m kept elims map
    blocks_keep = passes_parted m kept elims map (ap (λ (t : Told). t.number) blocks-done)

    early_done : Passes (early_told m kept elims map)
    unfolding blocks_told
    early_done = (both_pass (early_told m kept elims map) _ (ap (λ (t : Told). t.number) blocks-done)).0

    abbrev filled : List ℕ
    filled = list_of (place_of (claims (column_count m) kept elims)) (column_count m)

    left-filled : left ≡ filled ++ drop (column_count m) map
    unfolding map_left
    left-filled =
        (rw blocks-done at blocks-left)
        ∙ pass_done (early_told m kept elims map) _ map early_done
        ∙ ap (λ (xs : List ℕ). xs ++ drop (column_count m) map) (pass_done done filled (replicate (column_count m) mark) refl)

    left-marked : marked (column_count m) left ≡ replicate (column_count m) mark ++ drop (column_count m) map
    left-marked =
        let n : length filled ≡ column_count m = length-list_of (place_of (claims (column_count m) kept elims)) 0 (column_count m) in
        let k : column_count m ≤ length left = rw (left-filled, length-append) (omega arith) in
        marked_all (column_count m) left k
        ∙ ap (λ (xs : List ℕ). replicate (column_count m) mark ++ xs) (ap (λ (xs : List ℕ). drop (column_count m) xs) left-filled ∙ drop_at filled (drop (column_count m) map) (column_count m) n)

    -- n values are lent, the need is k, and l is the later checks' answer
    module _ (n k : ℕ) (w more l : Answer) (q : k ≡ value_count elims) (f : told w ≡ wrong_length (n ∷ k ∷ [])) (h : told l ≡ or_else (told w) (told more)) where
      values-told : told l ≡ values_told m kept elims map n (told more)
      unfolding values_told on_pass
      values-told = rw (blocks-done, ← q, ← f) h

      pub later_done : l ≡ Ok tt → record { told = done; map = left } ≡ check_values m kept elims map n (told more)
      unfolding check_values
      later_done z =
          let t : values_told m kept elims map n (told more) ≡ done = sym values-told ∙ ap told z in
          let u : left ≡ map_left done m kept elims map = rw blocks-done at blocks-left in
          rw (t, u)

      pub later_refused : (r : Refusal) (c : ℕ) (end : List ℕ) → l ≡ Err r → c ≡ column_count m → end ≡ marked c left
          → record { told = refused r; map = end } ≡ check_values m kept elims map n (told more)
      unfolding check_values map_left
      later_refused r c end z s v =
          let t : values_told m kept elims map n (told more) ≡ refused r = sym values-told ∙ ap told z in
          let u : end ≡ replicate (column_count m) mark ++ drop (column_count m) map = (rw s at v) ∙ left-marked in
          rw (
            t,
            pass_done (early_told m kept elims map) (on_pass (refused r) filled (replicate (column_count m) mark) ++ drop (column_count m) map) map early_done,
            pass_refused r filled (replicate (column_count m) mark),
            u,
          )

-- ---- the work

-- a is what `check_values` answered
module _ (m : Columns) (kept elims map : List ℕ) (n : ℕ) (more : Told) (a : Answer) (left : List ℕ) (e : record { told = told a; map = left } ≡ check_values m kept elims map n more) where
  pub values-refused : (r : Refusal) (new old : List Float) → a ≡ Err r → record { told = refused r; map = left; values = old } ≡ values_left (check_values m kept elims map n more) new old
  values-refused r new old p = rw (← e, p, pass_refused r new old)

  pub values-done : (new old next : List Float) → a ≡ Ok tt → next ≡ new → record { told = done; map = left; values = next } ≡ values_left (check_values m kept elims map n more) new old
  unfolding on_pass
  values-done new old next p q = rw (← e, p, q)

  pub values-fit : a ≡ Ok tt → BlocksFit m elims n
  unfolding check_values values_told
  values-fit p =
      let t : Passes (values_told m kept elims map n more) = ap (λ (o : Mapped). o.told.number) (sym e) ∙ ap (λ (b : Answer). (told b).number) p in
      let u = both_pass (blocks_told m kept elims map) _ t in
      let v = both_pass (wrong_length (n ∷ value_count elims ∷ [])) more u.1 in
      fits_of m kept elims map (passes_parted m kept elims map u.0) n (lengths_right (n ∷ value_count elims ∷ []) v.0 0 (omega arith))
