-- What the code of src/eliminated_blocks.rt shows of the definitions. Assumes nothing.
use mathlib.Core.Path.{◌≡◌, refl, sym, ap, ◌∙◌}
use mathlib.Core.Bool.{Bool, true, false, ◌&&◌, cond}
use mathlib.Core.List.{List}
use Prim.Native.Nat.{ℕ, zero, suc, ◌+◌, ◌-◌, ◌*◌, ◌≤◌, ◌<◌}
use native.Mathlib.Numerals.{add-one}
use native.Mathlib.Omega.{arith}
use native.Mathlib.Nat.{le_antisymm, mul-le-mul_right, suc-mul, add-zero, add-suc}
use lib.Dec.{ltb, leb}
use lib.ListN.{length, get_or, take, drop}
use lib.Ieee.{Float, nan}
use borrow.Author.Tests.{lt-ltb, le-ltb, le-leb, lt-leb, ltb-true, leb-true, leb-false}
use Rattle.ground.proofs.TestLaws.{and_true}
use Rattle.blocks.specs.Sides.{dof_of}
use Rattle.std.specs.Prelude.{Option, Some, None}
use Rattle.blocks.specs.declared.eliminated_blocks.Place.{Place}
use Rattle.blocks.specs.Lookups.{asked, BlockThere}
use Rattle.blocks.specs.Access.{square_of, squares_before, up_to, reaches, block_place, block_part, dof_in, entry_place, entry_in_of}
use Rattle.blocks.proofs.LookupRules.{block-there, lookups}

pub square-is : (elims : List ℕ) (b d : ℕ) → d ≡ dof_of elims b → d * d ≡ square_of elims b
unfolding square_of
square-is elims b d e = rw e

-- ---- the squares before a block

pub squares_first : (elims : List ℕ) → 0 ≡ squares_before elims 0
unfolding squares_before
squares_first elims = refl

pub squares_next : (elims : List ℕ) (k s q : ℕ) → s ≡ squares_before elims k → q ≡ square_of elims k → s + q ≡ squares_before elims (k + 1)
unfolding squares_before
squares_next elims k s q e f = rw (add-one, e, f)

-- they do not fall
pub squares_rise : (elims : List ℕ) (k n : ℕ) → squares_before elims k ≤ squares_before elims (k + n)
unfolding squares_before
squares_rise elims k zero = rw add-zero (omega arith)
squares_rise elims k (suc n) = rw add-suc (omega (arith, squares_rise elims k n))

-- the sum is stopped at block k, since it would pass `most`
pub squares_stop : (elims : List ℕ) (b most k s q : ℕ) → k < b → s ≤ most → s ≡ squares_before elims k → q ≡ square_of elims k → most - s < q
    → None ≡ up_to most (squares_before elims b)
unfolding up_to
squares_stop elims b most k s q l h e f p =
    let n : squares_before elims (k + 1) ≡ s + q = sym (squares_next elims k s q e f) in
    let u : k + 1 + (b - (k + 1)) ≡ b = omega arith in
    let r : squares_before elims (k + 1) ≤ squares_before elims b = rw u at (squares_rise elims (k + 1) (b - (k + 1))) in
    rw (lt-leb (squares_before elims b) most (omega arith))

pub squares_all : (elims : List ℕ) (b most k s : ℕ) → k ≤ b → b ≤ k → s ≤ most → s ≡ squares_before elims k → Some s ≡ up_to most (squares_before elims b)
unfolding up_to
squares_all elims b most k s l h m e = let q : k ≡ b = le_antisymm l h in rw (← q, ← e, le-leb s most m)

pub up-to_none : (most sum : ℕ) (a : Option ℕ) → a ≡ up_to most sum → a ≡ None → most < sum
unfolding up_to
up-to_none most sum a e p = go (leb sum most) refl (sym p ∙ e)
  where
    go : (b : Bool) → leb sum most ≡ b → None ≡ cond b (Some sum) None → most < sum
    go true t q = let z : ◌≡◌ {A = ℕ} 0 1 = cc in absurd (omega arith)
    go false t q = leb-false sum most t

pub up-to-some : (most sum s : ℕ) (a : Option ℕ) → a ≡ up_to most sum → a ≡ Some s → (s ≡ sum) × (sum ≤ most)
unfolding up_to
up-to-some most sum s a e p = go (leb sum most) refl (sym p ∙ e)
  where
    go : (b : Bool) → leb sum most ≡ b → Some s ≡ cond b (Some sum) None → (s ≡ sum) × (sum ≤ most)
    go true t q = (cc, leb-true sum most t)
    go false t q = let z : ◌≡◌ {A = ℕ} 0 1 = cc in absurd (omega arith)

no_square : (d : ℕ) → d * d ≡ 0 → d ≡ 0
no_square zero e = refl
no_square (suc d) e = absurd (omega (arith, suc-mul d (suc d)))

-- ---- a block's place

abbrev empty : Place
empty = record { start = 0; length = 0 }

module _ (n : ℕ) (elims : List ℕ) (b m : ℕ) (e : m ≡ asked elims) where
  pub place-past : m ≤ b → empty ≡ block_place n elims b
  unfolding block_place reaches
  place-past l = rw (← e, le-ltb b m l)

  module _ (a : Option ℕ) (l : b < m) (f : a ≡ up_to n (squares_before elims b)) where
    pub place_none : a ≡ None → empty ≡ block_place n elims b
    unfolding block_place reaches
    place_none p =
        let h : n < squares_before elims b = up-to_none n (squares_before elims b) a f p in
        rw (← e, lt-ltb b m l, lt-leb (squares_before elims b + square_of elims b) n (omega arith))

    module _ (s q : ℕ) (p : a ≡ Some s) (g : q ≡ square_of elims b) where
      pub start_fits : s ≤ n
      start_fits = let r = up-to-some n (squares_before elims b) s a f p in rw r.0 r.1

      pub place_short : n - s < q → empty ≡ block_place n elims b
      unfolding block_place reaches
      place_short h =
          let u : s ≡ squares_before elims b = (up-to-some n (squares_before elims b) s a f p).0 in
          rw (← u, ← g, ← e, lt-ltb b m l, lt-leb (s + q) n (omega arith))

      pub place_is : q ≤ n - s → record { start = s; length = q } ≡ block_place n elims b
      unfolding block_place reaches
      place_is h =
          let u : s ≡ squares_before elims b = (up-to-some n (squares_before elims b) s a f p).0 in
          let k : s ≤ n = start_fits in
          rw (← u, ← g, ← e, lt-ltb b m l, le-leb (s + q) n (omega arith))

-- it lies in the values
pub place-fits : (n : ℕ) (elims : List ℕ) (b : ℕ) → (block_place n elims b).start + (block_place n elims b).length ≤ n
unfolding block_place reaches
place-fits n elims b = go (ltb b (asked elims)) (leb (squares_before elims b + square_of elims b) n) refl
  where
    go : (t u : Bool) → leb (squares_before elims b + square_of elims b) n ≡ u
        → (cond (t && u) (record { start = squares_before elims b; length = square_of elims b }) empty).start
        + (cond (t && u) (record { start = squares_before elims b; length = square_of elims b }) empty).length
        ≤ n
    go true true e = leb-true _ _ e
    go true false e = omega arith
    go false u e = omega arith

pub place_in_lem : (n : ℕ) (elims : List ℕ) (b : ℕ) (p : Place) → p ≡ block_place n elims b → p.start + p.length ≤ n
place_in_lem n elims b p e = rw e (place-fits n elims b)

pub part-is : (values : List Float) (elims : List ℕ) (b : ℕ) (p : Place) → p ≡ block_place (length values) elims b
    → take (p.start + p.length - p.start) (drop p.start values) ≡ block_part values elims b
unfolding block_part
part-is values elims b p e = let u : p.start + p.length - p.start ≡ p.length = omega arith in rw (u, ← e)

-- ---- a block's dof

module _ (elims : List ℕ) (b m : ℕ) (e : m ≡ asked elims) where
  pub dof_found : (d : ℕ) → b < m → d ≡ dof_of elims b → Some d ≡ dof_in elims b
  unfolding dof_in
  dof_found d l p = rw (p, ← e, lt-ltb b m l)

  pub dof_none : m ≤ b → None ≡ dof_in elims b
  unfolding dof_in
  dof_none l = rw (← e, le-ltb b m l)

-- ---- one entry

pub in_square : (d r c : ℕ) → r < d → c < d → c * d + r < d * d
in_square d r c l h = let k : suc c * d ≤ d * d = mul-le-mul_right d h in omega (arith, suc-mul c d)

-- p is the block's place as the code has it
module _ (values : List Float) (elims : List ℕ) (b : ℕ) (p : Place) (e : p ≡ block_place (length values) elims b) where
  pub place-full : (p.length ≡ 0 → ⊥) → (reaches (length values) elims b ≡ true) × (p.start ≡ squares_before elims b) × (p.length ≡ square_of elims b)
  unfolding block_place
  place-full h = go (reaches (length values) elims b) refl e
    where
      go : (t : Bool) → reaches (length values) elims b ≡ t → p ≡ cond t (record { start = squares_before elims b; length = square_of elims b }) empty
          → (reaches (length values) elims b ≡ true) × (p.start ≡ squares_before elims b) × (p.length ≡ square_of elims b)
      go true u q = (u, ap (λ (x : Place). x.start) q, ap (λ (x : Place). x.length) q)
      go false u q = absurd (h (ap (λ (x : Place). x.length) q))

  pub full-there : (p.length ≡ 0 → ⊥) → BlockThere (length elims) b
  unfolding reaches
  full-there h = block-there elims (asked elims) b refl (ltb-true _ _ (and_true (ltb b (asked elims)) _ (place-full h).0).0)

  module _ (r c : ℕ) where
    -- a block without values has no rows
    pub entry_empty : p.length ≡ 0 → None ≡ entry_in_of values elims b r c
    unfolding entry_in_of block_place square_of
    entry_empty z = go (reaches (length values) elims b) e
      where
        go : (t : Bool) → p ≡ cond t (record { start = squares_before elims b; length = square_of elims b }) empty
            → None
            ≡ cond (t && (ltb r (dof_of elims b) && ltb c (dof_of elims b))) (Some (get_or values (squares_before elims b + entry_place elims b r c) nan)) None
        go true q = let u : dof_of elims b ≡ 0 = no_square (dof_of elims b) (sym (ap (λ (x : Place). x.length) q) ∙ z) in rw (u, le-ltb r 0 (omega arith))
        go false q = refl

    module _ (d : ℕ) (h : p.length ≡ 0 → ⊥) (f : d ≡ dof_of elims b) where
      pub entry_row : d ≤ r → None ≡ entry_in_of values elims b r c
      unfolding entry_in_of
      entry_row l = rw (← f, le-ltb r d l, (place-full h).0)

      pub entry-column : r < d → d ≤ c → None ≡ entry_in_of values elims b r c
      unfolding entry_in_of
      entry-column k l = rw (← f, lt-ltb r d k, le-ltb c d l, (place-full h).0)

      pub entry_in : r < d → c < d → p.start + (c * d + r) < length values
      unfolding square_of
      entry_in k l =
          let q : p.length ≡ d * d = rw f (place-full h).2 in
          omega (arith, in_square d r c k l, place_in_lem (length values) elims b p e)

      pub entry_value : r < d → c < d → Some (get_or values (p.start + (c * d + r)) nan) ≡ entry_in_of values elims b r c
      unfolding entry_in_of entry_place
      entry_value k l = rw ((place-full h).1, ← f, lt-ltb r d k, lt-ltb c d l, (place-full h).0)

pub ruleset access = (
  lookups,
  square-is,
  squares_first,
  squares_next,
  squares_stop,
  squares_all,
  place-past,
  place_none,
  start_fits,
  place_short,
  place_is,
  part-is,
  dof_found,
  dof_none,
  full-there,
  entry_empty,
  entry_row,
  entry-column,
  entry_value,
)
