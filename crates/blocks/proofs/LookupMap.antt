-- Where the checks pass, a lookup on the lists says what the checked map says: a kept column's place is its local number, and an eliminated
-- column's is the kept dof and its local number. Assumes nothing.
use mathlib.Core.Path.{◌≡◌, refl, sym, ap, ◌∙◌}
use mathlib.Core.Bool.{Bool, true, false, cond}
use mathlib.Core.List.{List, ◌++◌}
use Prim.Native.Nat.{ℕ, ◌-◌, ◌≤◌, ◌<◌}
use native.Mathlib.Omega.{arith}
use lib.Dec.{ltb}
use lib.ListN.{length, get_or}
use borrow.Author.Tests.{lt-ltb, le-ltb, ltb-true, ltb-false}
use Rattle.std.specs.Prelude.{Option, Some, None}
use Rattle.blocks.specs.Sides.{block_count, cols, side_dof}
use Rattle.blocks.specs.Claims.{too_many, place_of, Parted}
use Rattle.blocks.specs.Lookups.{local_in}
use Rattle.blocks.proofs.PlaceLaws.{place-left, place-past, place_is, place_none}
use Rattle.blocks.proofs.SideLaws.{cols-length}
use Rattle.blocks.proofs.PartLaws.{parted-cols}
use Rattle.blocks.proofs.MapLaws.{map_on, map-place, map_below, map_back_kept, map_back_elims, cols-once, cols_apart}
use Rattle.blocks.proofs.LookupLaws.{local-is}

few : (side : List ℕ) → block_count side ≤ 65_536 → too_many side ≡ false
unfolding too_many
few side l = le-ltb _ _ l

module _ (n : ℕ) (kept elims rest : List ℕ) (p : Parted n kept elims) (c : ℕ) (h : c < n) where
  -- what the map holds at the column
  abbrev at : ℕ
  at = get_or (map_on n kept elims rest) c 0

  at-is : at ≡ place_of (cols kept ++ cols elims) c
  at-is = map-place n kept elims rest p c h ∙ ap (λ (cs : List ℕ). place_of cs c) (parted-cols n kept elims p)

  pub kept_map : local_in kept c ≡ cond (ltb at (side_dof kept)) (Some at) None
  kept_map = local-is kept c (few kept (p.right false).few) ∙ go (ltb (place_of (cols kept) c) (length (cols kept))) refl
    where
      go : (b : Bool) → ltb (place_of (cols kept) c) (length (cols kept)) ≡ b → cond b (Some (place_of (cols kept) c)) None ≡ cond (ltb at (side_dof kept)) (Some at) None
      go true e =
          let l = ltb-true _ _ e in
          let q : at ≡ place_of (cols kept) c = at-is ∙ place-left (cols kept) (cols elims) c l in
          let s : place_of (cols kept) c < side_dof kept = rw (cols-length kept) at l in
          rw (q, lt-ltb _ _ s)
      go false e =
          let l = place-past (cols kept) (cols elims) c (ltb-false _ _ e) in
          let s : side_dof kept ≤ at = rw (cols-length kept, ← at-is) at l in
          rw (le-ltb _ _ s)

  pub elims-map : local_in elims c ≡ cond (ltb at (side_dof kept)) None (Some (at - side_dof kept))
  elims-map = local-is elims c (few elims (p.right true).few) ∙ go (ltb at (side_dof kept)) refl
    where
      local : Option ℕ
      local = cond (ltb (place_of (cols elims) c) (length (cols elims))) (Some (place_of (cols elims) c)) None

      go : (b : Bool) → ltb at (side_dof kept) ≡ b → local ≡ cond b None (Some (at - side_dof kept))
      go true e =
          let l = ltb-true at (side_dof kept) e in
          let q = map_back_kept n kept elims rest p c h l in
          let none = place_none (cols elims) c (λ j a u. cols_apart n kept elims p at j l (rw (cols-length elims) at a) (q ∙ sym u)) in
          rw (none, le-ltb (length (cols elims)) (length (cols elims)) (omega arith))
      go false e =
          let l = ltb-false at (side_dof kept) e in
          let q = map_back_elims n kept elims rest p c h l in
          let s : at - side_dof kept < side_dof elims = omega (arith, map_below n kept elims rest p c h) in
          let t : at - side_dof kept < length (cols elims) = rw (cols-length elims) s in
          let once = place_is (cols elims) c (at - side_dof kept) t q (λ j a u.
          omega (arith, cols-once n kept elims p true j (at - side_dof kept) (omega arith) s (u ∙ sym q))) in
          rw (once, lt-ltb _ _ t)
